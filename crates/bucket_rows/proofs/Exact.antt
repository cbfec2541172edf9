-- `sound_rows` is exact both ways, at every width: the rows of a matrix that fits, or none does.
-- Assumes nothing.
use mathlib.Core.Path.{◌≡◌, refl, sym, ap, ◌∙◌, subst}
use mathlib.Core.Bool.{true, false, true≢false}
use Rattle.std.specs.Prelude.{Option, Some, None}
use mathlib.Core.List.{List}
use Prim.Native.Nat.{ℕ, ◌^◌, ◌<◌}
use native.Mathlib.Decide.{dec_lt}
use native.Mathlib.Omega.{arith}
use Rattle.lists.proofs.Tests.{by_test}
use lib.Pow.{pow-lt}
use lib.ListN.{length, get_or}
use lib.Seq.{ext_get_or}
use Rattle.gf2.specs.Vectors.{bit, product, combine, units, Inverse}
use Rattle.gf2.proofs.Bit.{bit_zero, bit_high, bit_ext, bit-pow_swap, dot-pow}
use Rattle.gf2.proofs.Linear.{product-bit, combine_zero}
use Rattle.gf2.proofs.Inverse.{unique, row_is, empty, length-units, get_d_units}
use Rattle.bucket_pairs.specs.declared.Guess.{Guess}
use Rattle.bucket_pairs.specs.declared.Guess.TheVariants.{Rows, Singular, Unknown}
use Rattle.bucket_pairs.specs.Pairs.{Guessed}
use Rattle.bucket_rows.specs.Exact.{FreeRows, Rowed, FoundFree}
use Rattle.bucket_rows.specs.Elimination.{eliminated, free_cols, sound_rows}
use Rattle.bucket_rows.proofs.Found.{Found, decides, units-found}
use Rattle.bucket_rows.proofs.Free.{FreeBits, cols→bits, bits→cols}

-- ---- the bits of the columns, and the rows

module _ (n mark : ℕ) (cs K : List ℕ) (inv : Inverse n K cs) where
  bits→rows : FreeBits n mark cs → FreeRows n mark K
  bits→rows f j hj z = row_is n K cs inv j (2 ^ j) hj (pow-lt hj) (λ a h. dot-pow j (get_or cs a 0) ∙ f j z a h ∙ bit-pow_swap j a)

  rows→bits : FreeRows n mark K → FreeBits n mark cs
  rows→bits free j z k h = elim (dec_lt j n) [
    | yes l ↦ sym (dot-pow j (get_or cs k 0)) ∙ sym (product-bit cs (2 ^ j) k) ∙ ap (bit k) (ap (product cs) (sym (free j l z)) ∙ inv.unit j l) ∙ bit-pow_swap k j
    | no f ↦ bit_high n j (get_or cs k 0) (inv.cols_lt k) (omega arith) ∙ sym (bit_high n j (2 ^ k) (pow-lt h) (omega arith))
  ]

-- ---- THE MEANING of `sound_rows`

pub decides_free : (n mark : ℕ) (cs : List ℕ) → length cs ≡ n → ((i : ℕ) → get_or cs i 0 < 2 ^ n) → FoundFree n mark cs (sound_rows n mark cs)
unfolding sound_rows
decides_free n mark cs hl hc =
    by_test (FoundFree n mark cs) (free_cols 0 mark cs) (λ e. yes (eliminated n cs) e (decides n cs hl hc))
    (λ e K r. true≢false (sym (bits→cols n mark cs hl (rows→bits n mark cs K r.inverse r.free)) ∙ e))
  where
    yes : (r : Option (List ℕ)) → free_cols 0 mark cs ≡ true → Found n cs r → FoundFree n mark cs r
    yes None e f = λ K r. f K r.inverse
    yes (Some K) e f = record { inverse = f; free = bits→rows n mark cs K f (cols→bits n mark cs hl e) }

-- a matrix that fits is the answer
pub found_is : (n mark : ℕ) (cs K : List ℕ) → Rowed n mark cs K → sound_rows n mark cs ≡ Some K
found_is n mark cs K w = go (sound_rows n mark cs) (decides_free n mark cs w.inverse.cols w.inverse.cols_lt)
  where
    go : (r : Option (List ℕ)) → FoundFree n mark cs r → r ≡ Some K
    go None f = absurd (f K w)
    go (Some R) v = ap Some (unique n R K cs v.inverse w.inverse)

-- where none fits, there is none
pub none_is : (n mark : ℕ) (cs : List ℕ) → length cs ≡ n → ((i : ℕ) → get_or cs i 0 < 2 ^ n) → ((K : List ℕ) → Rowed n mark cs K → ⊥) → sound_rows n mark cs ≡ None
none_is n mark cs hl hc f = go (sound_rows n mark cs) (decides_free n mark cs hl hc)
  where
    go : (r : Option (List ℕ)) → FoundFree n mark cs r → r ≡ None
    go None g = refl
    go (Some K) w = absurd (f K w)

-- ---- the code's ways to the answer

pub sound_empty : (n mark : ℕ) (cs : List ℕ) → length cs ≡ n → mark ≡ 0 → free_cols 0 mark cs ≡ true → Some cs ≡ sound_rows n mark cs
sound_empty n mark cs hl z e = sym (found_is n mark cs cs (record { inverse = subst (λ (l : List ℕ). Inverse n l l) (sym same) (empty n); free = λ j h f. at j h }))
  where
    at : (j : ℕ) → j < n → get_or cs j 0 ≡ 2 ^ j
    at j h = bit_ext (get_or cs j 0) (2 ^ j) (λ a. cols→bits n mark cs hl e a (ap (bit a) z ∙ bit_zero a) j h)

    same : cs ≡ units n
    same = ext_get_or 0 cs (units n) (hl ∙ sym (length-units n)) (λ i h. let l : i < n = subst (λ (x : ℕ). i < x) hl h in at i l ∙ sym (get_d_units n i l))

pub sound_yes : (n mark : ℕ) (cs : List ℕ) (r : Option (List ℕ)) → free_cols 0 mark cs ≡ true → r ≡ eliminated n cs → r ≡ sound_rows n mark cs
unfolding sound_rows
sound_yes n mark cs r e q = rw (e, q)

pub sound_no : (n mark : ℕ) (cs : List ℕ) → free_cols 0 mark cs ≡ false → None ≡ sound_rows n mark cs
unfolding sound_rows
sound_no n mark cs e = rw e

-- the rows of a guess have n bits
abbrev pub Within : ℕ → Guess → Type 0
Within n (Rows rows) = (i : ℕ) → get_or rows i 0 < 2 ^ n
Within n Singular = Unit {0}
Within n Unknown = Unit {0}

-- r is what a guess tells, if it tells something
abbrev pub Tells : Guess → Option (List ℕ) → Type 0
Tells (Rows rows) r = Some rows ≡ r
Tells Singular r = None ≡ r
Tells Unknown r = Unit {0}

-- a guess that tells something tells that
pub sound_guess : (n mark : ℕ) (cs : List ℕ) (g : Guess) → length cs ≡ n → ((i : ℕ) → get_or cs i 0 < 2 ^ n) → Within n g → free_cols 0 mark cs ≡ true → Guessed n cs g
    → Tells g (sound_rows n mark cs)
sound_guess n mark cs (Rows rows) hl hc hr e t = sound_yes n mark cs (Some rows) e (units-found n cs hl hc rows t.0 (λ i h. hr i) t.1)
sound_guess n mark cs Singular hl hc hr e t = sym (none_is n mark cs hl hc (λ K w. t.2 (sym (w.inverse.back t.0 t.1) ∙ ap (combine K) t.3 ∙ combine_zero K)))
sound_guess n mark cs Unknown hl hc hr e t = tt
