-- A step of the transposition of words, at every even number of them and as many bits: each pair of words is shuffled by blocks of h bits. The mask m has the bits of the even blocks.
-- Assumes nothing.
use Rattle.std.specs.Prelude.{◌≡◌, List, ℕ, ◌+◌, ◌*◌, ◌/◌, ◌%◌, ◌^◌, ◌<◌, get_or}
use Rattle.std.specs.Int.Bits.{bit_xor, bit_and}
use Rattle.gf2.specs.Vectors.{outside}

-- the even blocks of x, and after each that of y, in words of w bits
unfoldable pub even_of : ℕ → ℕ → ℕ → ℕ → ℕ → ℕ
even_of w h m x y = bit_xor (bit_and x m) ((bit_and y m * 2 ^ h) % 2 ^ w)

-- the odd blocks of y, and before each that of x
unfoldable pub odd_of : ℕ → ℕ → ℕ → ℕ → ℕ
odd_of h m x y = bit_xor (bit_and (x / 2 ^ h) m) (outside y m)

-- pair i of words, i and i + half of t, is shuffled: it is words 2 * i and 2 * i + 1 of u
abbrev pub ShuffledAt : ℕ → ℕ → ℕ → List ℕ → List ℕ → ℕ → Type 0
ShuffledAt half h m t u i =
    (get_or u (2 * i) 0 ≡ even_of (2 * half) h m (get_or t i 0) (get_or t (i + half) 0)) × (get_or u (2 * i + 1) 0 ≡ odd_of h m (get_or t i 0) (get_or t (i + half) 0))

-- each of the pairs is
abbrev pub Shuffled : ℕ → ℕ → ℕ → List ℕ → List ℕ → Type 0
Shuffled half h m t u = (i : ℕ) → i < half → ShuffledAt half h m t u i
