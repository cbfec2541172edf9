-- Numbers and their bytes, lowest first: round trips both ways, for any number of bytes.
-- Assumes nothing.
use mathlib.Core.Path.{◌≡◌, refl, sym, ap, ap₂, ◌∙◌}
use mathlib.Core.List.{List, [], ◌∷◌}
use Prim.Native.Nat.{ℕ, zero, suc, ◌+◌, ◌*◌, ◌/◌, ◌%◌, ◌^◌, ◌≤◌, ◌<◌, suc-le-suc}
use native.Mathlib.Nat.{div-div-eq-div-mul, div-one, pow-suc, zero-lt-suc}
use native.Mathlib.Omega.{arith}
use Rattle.std.proofs.Common.{pow-add}
use lib.ListN.{length, get_or}
use Rattle.codec.specs.Bytes.{from_bytes, to_bytes}
use Rattle.codec.specs.Parts.{part_at, written}
use Rattle.codec.proofs.Part.{part_same}

-- every element is below 256
abbrev pub Bytes : List ℕ → Type 0
Bytes s = (i : ℕ) → i < length s → get_or s i 0 < 256

pub length-to_bytes : (n x : ℕ) → length (to_bytes n x) ≡ n
unfolding to_bytes
length-to_bytes zero x = refl
length-to_bytes (suc n) x = ap suc (length-to_bytes n (x / 256))

-- a number of n bytes is put together again from them
pub from_to : (n x : ℕ) → x < 256 ^ n → from_bytes (to_bytes n x) ≡ x
unfolding from_bytes to_bytes
from_to zero x h = omega arith
from_to (suc n) x h =
    let h' : x < 256 ^ n * 256 = rw (pow-suc 256 n) at h in
    rw (from_to n (x / 256) (omega arith)) (omega arith)

-- bytes are taken apart again from their number
pub to_from : (s : List ℕ) → Bytes s → to_bytes (length s) (from_bytes s) ≡ s
unfolding from_bytes to_bytes
to_from [] b = refl
to_from (x ∷ s) b =
    let hx : x < 256 = b 0 (zero-lt-suc (length s)) in
    let low : (x + 256 * from_bytes s) % 256 ≡ x = omega arith in
    let rest : (x + 256 * from_bytes s) / 256 ≡ from_bytes s = omega arith in
    ap₂ ◌∷◌ low (ap (to_bytes (length s)) rest ∙ to_from s (λ i h. b (suc i) (suc-le-suc h)))

pub from_bytes_lt : (s : List ℕ) → Bytes s → from_bytes s < 256 ^ length s
unfolding from_bytes
from_bytes_lt [] b = omega arith
from_bytes_lt (x ∷ s) b =
    let hx : x < 256 = b 0 (zero-lt-suc (length s)) in
    let hs : from_bytes s < 256 ^ length s = from_bytes_lt s (λ i h. b (suc i) (suc-le-suc h)) in
    rw (pow-suc 256 (length s)) (omega arith)

-- ---- at a place of a list

-- a number written as n bytes is read back
pub read_written : (a n x : ℕ) (t : List ℕ) → a + n ≤ length t → x < 256 ^ n → from_bytes (part_at n a (written a (to_bytes n x) t)) ≡ x
read_written a n x t fits small =
    ap (λ (k : ℕ). from_bytes (part_at k a (written a (to_bytes n x) t))) (sym (length-to_bytes n x))
    ∙ ap from_bytes (part_same a (to_bytes n x) t (rw (length-to_bytes n x) fits))
    ∙ from_to n x small

-- the bytes one by one
pub to_bytes_each : (n x : ℕ) (s : List ℕ) → length s ≡ n → ((i : ℕ) → i < n → get_or s i 0 ≡ x / 2 ^ (8 * i) % 256) → s ≡ to_bytes n x
unfolding to_bytes
to_bytes_each zero x [] e h = refl
to_bytes_each zero x (b ∷ s) e h = absurd (omega arith)
to_bytes_each (suc n) x [] e h = absurd (omega arith)
to_bytes_each (suc n) x (b ∷ s) e h =
    ap₂ ◌∷◌ (h 0 (omega arith) ∙ rw div-one)
    (to_bytes_each n (x / 256) s (omega arith) (λ i l. h (suc i) (omega arith) ∙ ap (λ (y : ℕ). y % 256) (deeper i)))
  where
    deeper : (i : ℕ) → x / 2 ^ (8 * suc i) ≡ x / 256 / 2 ^ (8 * i)
    deeper i = let e : 8 * suc i ≡ 8 + 8 * i = omega arith in rw (e, pow-add) (sym (div-div-eq-div-mul x 256 (2 ^ (8 * i))))
