-- Laws of FNV-1a 64.
-- Assumes nothing.
use Rattle.std.proofs.Common.{ℕ, ◌*◌, ◌^◌, ◌<◌, List, [], ◌∷◌, mod-lt, lit<}
use lib.Bits.{bit_xor}
use Rattle.hash.specs.Fnv.{fnv_step, fnv_from, fnv_start, fnv_of}

-- a hash has 64 bits
from_lt : (h : ℕ) (l : List ℕ) → h < 2 ^ 64 → fnv_from h l < 2 ^ 64
unfolding fnv_from
from_lt h [] b = b
from_lt h (x ∷ l) b = from_lt (fnv_step h x) l (mod-lt (bit_xor h x * 0x100000001b3) (lit< tt))

pub fnv_lt : (l : List ℕ) → fnv_of l < 2 ^ 64
fnv_lt l = from_lt fnv_start l (lit< tt)
