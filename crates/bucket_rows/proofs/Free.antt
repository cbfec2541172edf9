-- The test of the columns, bit by bit: outside the mark each column has its own bit alone.
-- Assumes nothing.
use mathlib.Core.Path.{◌≡◌, refl, sym, ap, ◌∙◌, subst}
use mathlib.Core.Bool.{true, false}
use mathlib.Core.List.{List, [], ◌∷◌}
use Prim.Native.Nat.{ℕ, zero, suc, ◌+◌, ◌-◌, ◌^◌, ◌≤◌, ◌<◌}
use native.Mathlib.Nat.{not-suc-le-zero, le_of_suc-le-suc, zero-lt-suc}
use native.Mathlib.Decide.{ℕ_discrete}
use native.Mathlib.Numerals.{add-one}
use native.Mathlib.Omega.{arith}
use borrow.Author.Tests.{eq-eqb, ne_eqb, eqb-true}
use lib.Dec.{eqb}
use lib.ListN.{length, get_or, drop, drop_of_length-le}
use lib.Seq.{drop-cons}
use Rattle.lists.proofs.Tests.{and_one, and_two, and_both}
use Rattle.gf2.specs.Vectors.{bit, outside}
use Rattle.gf2.proofs.Bit.{bit_lt, bit_ext}
use Rattle.gf2.proofs.Lowest.{bit-outside}
use Rattle.bucket_pairs.specs.Pairs.{OwnOutside}
use Rattle.bucket_rows.specs.Elimination.{free_cols}

-- outside the mark each of n numbers has its own bit alone
abbrev pub FreeBits : ℕ → ℕ → List ℕ → Type 0
FreeBits n mark cs = (a : ℕ) → bit a mark ≡ 0 → (k : ℕ) → k < n → bit a (get_or cs k 0) ≡ bit a (2 ^ k)

-- ---- the test of the columns, bit by bit

outside→bit : (x y m : ℕ) → outside x m ≡ outside y m → (a : ℕ) → bit a m ≡ 0 → bit a x ≡ bit a y
outside→bit x y m e a z =
    let d : bit a x - bit a m ≡ bit a y - bit a m = sym (bit-outside a x m) ∙ ap (bit a) e ∙ bit-outside a y m in
    omega arith

bit→outside : (x y m : ℕ) → ((a : ℕ) → bit a m ≡ 0 → bit a x ≡ bit a y) → outside x m ≡ outside y m
bit→outside x y m f = bit_ext (outside x m) (outside y m) (λ a. bit-outside a x m ∙ go a (ℕ_discrete (bit a m) 0) ∙ sym (bit-outside a y m))
  where
    go : (a : ℕ) → Dec (bit a m ≡ 0) → bit a x - bit a m ≡ bit a y - bit a m
    go a (yes z) = ap (λ (b : ℕ). b - bit a m) (f a z)
    go a (no ne) = omega (arith, bit_lt a m, bit_lt a x, bit_lt a y)

free_at : (i mark : ℕ) (cs : List ℕ) (a : ℕ) → a < length cs → free_cols i mark cs ≡ true → outside (get_or cs a 0) mark ≡ outside (2 ^ (i + a)) mark
free_at i mark [] a h e = absurd (not-suc-le-zero h)
free_at i mark (c ∷ cs) zero h e =
    let z : i + 0 ≡ i = omega arith in
    rw z (eqb-true _ _ (and_one _ (free_cols (suc i) mark cs) e))
free_at i mark (c ∷ cs) (suc a) h e =
    let z : i + suc a ≡ suc i + a = omega arith in
    rw z (free_at (suc i) mark cs a (le_of_suc-le-suc h) (and_two (eqb (outside c mark) (outside (2 ^ i) mark)) _ e))

free_all : (i mark : ℕ) (cs : List ℕ) → ((a : ℕ) → a < length cs → outside (get_or cs a 0) mark ≡ outside (2 ^ (i + a)) mark) → free_cols i mark cs ≡ true
free_all i mark [] f = refl
free_all i mark (c ∷ cs) f =
    let z : i + 0 ≡ i = omega arith in
    let e : outside c mark ≡ outside (2 ^ i) mark = rw z at (f 0 (zero-lt-suc (length cs))) in
    and_both (eq-eqb (outside c mark) (outside (2 ^ i) mark) e)
    (free_all (suc i) mark cs (λ a h. let y : suc i + a ≡ i + suc a = omega arith in rw y (f (suc a) (omega arith))))

module _ (n mark : ℕ) (cs : List ℕ) (hl : length cs ≡ n) where
  pub cols→own : free_cols 0 mark cs ≡ true → OwnOutside n mark cs
  cols→own e k h =
      let y : 0 + k ≡ k = omega arith in
      rw y at (free_at 0 mark cs k (subst (λ (l : ℕ). k < l) (sym hl) h) e)

  pub cols→bits : free_cols 0 mark cs ≡ true → FreeBits n mark cs
  cols→bits e a z k h = outside→bit (get_or cs k 0) (2 ^ k) mark (cols→own e k h) a z

  pub bits→cols : FreeBits n mark cs → free_cols 0 mark cs ≡ true
  bits→cols f =
      free_all 0 mark cs
      (λ k h.
      let y : 0 + k ≡ k = omega arith in
      rw y (bit→outside (get_or cs k 0) (2 ^ k) mark (λ a z. f a z k (subst (λ (l : ℕ). k < l) hl h))))

-- ---- the loop of the test

pub free_more : (mark : ℕ) (cs : List ℕ) (i : ℕ) → i < length cs → outside (get_or cs i 0) mark ≡ outside (2 ^ i) mark
    → free_cols i mark (drop i cs) ≡ free_cols (i + 1) mark (drop (i + 1) cs)
free_more mark cs i h e = rw (add-one, drop-cons cs i 0 h, eq-eqb (outside (get_or cs i 0) mark) (outside (2 ^ i) mark) e)

pub free_stop : (mark : ℕ) (cs : List ℕ) (i : ℕ) → i < length cs → (outside (get_or cs i 0) mark ≡ outside (2 ^ i) mark → ⊥) → free_cols i mark (drop i cs) ≡ false
free_stop mark cs i h ne = rw (drop-cons cs i 0 h, ne_eqb (outside (get_or cs i 0) mark) (outside (2 ^ i) mark) ne)

pub free_end : (mark : ℕ) (cs : List ℕ) (i : ℕ) → length cs ≤ i → free_cols i mark (drop i cs) ≡ true
free_end mark cs i h = rw (drop_of_length-le cs h)
