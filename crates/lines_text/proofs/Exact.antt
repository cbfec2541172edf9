-- A field is read as the number n exactly if n is not above the limit and the field is the decimal of n; for every limit that has no
-- more digits than are printed. Then the fields of a line: B1 and B2, KIND, PLAN.
-- Assumes nothing.
use mathlib.Core.Path.{◌≡◌, refl, sym, ◌∙◌, subst}
use mathlib.Core.Bool.{Bool, true, false, cond, ◌&&◌}
use mathlib.Core.List.{List, [], ◌∷◌}
use Prim.Native.Nat.{ℕ, zero, suc, ◌+◌, ◌-◌, ◌*◌, ◌/◌, ◌%◌, ◌^◌, ◌≤◌, ◌<◌}
use native.Mathlib.Nat.{pow-suc}
use native.Mathlib.Omega.{arith}
use lib.Dec.{eqb, leb, ltb}
use borrow.Author.Tests.{le-leb, ne_eqb, eqb-true, eqb-false, leb-true, ltb-true, ltb-false}
use Rattle.lists.proofs.Tests.{cases}
use Rattle.std.specs.Prelude.{Option, Some, None, IfSome}
use Rattle.lines_text.specs.Decimal.{digit_of, grown, read_on, only_zero, number_to, digits_then, most_digits, decimal}
use Rattle.lines_text.specs.Line.{most_buckets, most_kind, most_plan}
use Rattle.lines_text.proofs.Decimal.{digits_more, digits_last, number_most}

-- a field s is read as n if n is not above the limit and s is its decimal, and only then
abbrev pub Exactly : ℕ → Type 0
Exactly limit =
    (n : ℕ) (s : List ℕ) → (number_to limit s ≡ Some n → (n ≤ limit) × (s ≡ decimal n)) × ((n ≤ limit) × (s ≡ decimal n) → number_to limit s ≡ Some n)

none_some : (n : ℕ) → None ≡ Some n → ⊥
none_some n e = let z : ◌≡◌ {A = ℕ} 0 1 = cc in omega arith

-- one digit less to print
tenth : (k n : ℕ) → n < 10 ^ suc k → n / 10 < 10 ^ k
tenth k n h = let p : n < 10 ^ k * 10 = rw (pow-suc 10 k) at h in omega arith

-- what holds of one digit, and of more by what holds of all but the last, holds of k + 1 digits
by_digits : (P : ℕ → ℕ → List ℕ → Type 0) → ((k n : ℕ) (s : List ℕ) → n < 10 → P k n s)
    → ((k n : ℕ) (s : List ℕ) → 10 ≤ n → P k (n / 10) (digit_of (n % 10) ∷ s) → P (suc k) n s) → (k n : ℕ) (s : List ℕ) → n < 10 ^ suc k → P k n s
by_digits P one more zero n s h = one zero n s (omega arith)
by_digits P one more (suc k) n s h =
    cases (ltb n 10)
    (λ t. one (suc k) n s (ltb-true n 10 t))
    (λ t. more k n s (ltb-false n 10 t) (by_digits P one more k (n / 10) (digit_of (n % 10) ∷ s) (tenth (suc k) n h)))

module _ (limit : ℕ) where
  -- ---- what is printed is read

  -- the digit d after those of m
  digit_read : (m d n : ℕ) (s : List ℕ) → d < 10 → 10 * m + d ≡ n → n ≤ limit → read_on limit m (digit_of d ∷ s) ≡ read_on limit n s
  unfolding read_on
  digit_read m d n s h e l =
      let g : grown m (digit_of d) ≡ n = omega arith in
      rw (le-leb 0x30 (digit_of d) (omega arith), le-leb (digit_of d) 0x39 (omega arith), g, le-leb n limit l)

  digits_read : (k n : ℕ) (s : List ℕ) → n < 10 ^ suc k → n ≤ limit → read_on limit 0 (digits_then (suc k) n s) ≡ read_on limit n s
  digits_read =
      by_digits (λ k n s. n ≤ limit → read_on limit 0 (digits_then (suc k) n s) ≡ read_on limit n s)
      (λ k n s h l. rw (digits_last k n s h) (digit_read 0 n n s h (omega arith) l))
      (λ k n s h ih l. rw (digits_more (suc k) n s h) (ih (omega arith) ∙ digit_read (n / 10) (n % 10) n s (omega arith) (omega arith) l))

  -- the first digit of a number that is not 0 is not 0
  first_read : (k n : ℕ) (s : List ℕ) → n < 10 ^ suc k → 0 < n → number_to limit (digits_then (suc k) n s) ≡ read_on limit 0 (digits_then (suc k) n s)
  unfolding number_to
  first_read =
      by_digits (λ k n s. 0 < n → number_to limit (digits_then (suc k) n s) ≡ read_on limit 0 (digits_then (suc k) n s))
      (λ k n s h p. rw (digits_last k n s h, ne_eqb (digit_of n) 0x30 (λ e. omega arith)))
      (λ k n s h ih p. rw (digits_more (suc k) n s h) (ih (omega arith)))

  number_decimal : (n : ℕ) → n < 10 ^ most_digits → n ≤ limit → number_to limit (decimal n) ≡ Some n
  unfolding number_to digits_then read_on
  number_decimal zero h l = refl
  number_decimal (suc n) h l = first_read (most_digits - 1) (suc n) [] h (omega arith) ∙ digits_read (most_digits - 1) (suc n) [] h l

  -- ---- what is read is printed so

  -- a digit more to print with changes nothing
  digits_enough : (k n : ℕ) (s : List ℕ) → n < 10 ^ suc k → digits_then (suc (suc k)) n s ≡ digits_then (suc k) n s
  digits_enough =
      by_digits (λ k n s. digits_then (suc (suc k)) n s ≡ digits_then (suc k) n s)
      (λ k n s h. rw (digits_last k n s h, digits_last (suc k) n s h))
      (λ k n s h ih. rw (digits_more (suc k) n s h, digits_more (suc (suc k)) n s h) ih)

  -- the byte b is a digit, and the number that it makes is not above the limit
  abbrev Taken : ℕ → ℕ → Type 0
  Taken m b = (0x30 ≤ b) × (b ≤ 0x39) × (grown m b ≤ limit)

  read_on-taken : (m b n : ℕ) (s : List ℕ) → read_on limit m (b ∷ s) ≡ Some n → Taken m b × (read_on limit (grown m b) s ≡ Some n)
  unfolding read_on
  read_on-taken m b n s e = by_tests (leb 0x30 b) (leb b 0x39) (leb (grown m b) limit) refl refl refl e
    where
      by_tests : (t u v : Bool) → leb 0x30 b ≡ t → leb b 0x39 ≡ u → leb (grown m b) limit ≡ v
          → cond (t && u) (cond v (read_on limit (grown m b) s) None) None ≡ Some n → Taken m b × (read_on limit (grown m b) s ≡ Some n)
      by_tests true true true p q r e = ((leb-true 0x30 b p, leb-true b 0x39 q, leb-true (grown m b) limit r), e)
      by_tests true true false p q r e = absurd (none_some n e)
      by_tests true false v p q r e = absurd (none_some n e)
      by_tests false u v p q r e = absurd (none_some n e)

  -- the digits of m, which is not 0, and then s: those of the number that is read
  digits_printed : (k m n : ℕ) (s : List ℕ) → limit < 10 ^ suc (suc k) → 0 < m → read_on limit m s ≡ Some n
      → digits_then (suc (suc k)) m s ≡ digits_then (suc (suc k)) n []
  unfolding read_on
  digits_printed k m n [] h p e = let q : m ≡ n = cc in rw q
  digits_printed k m n (b ∷ s) h p e =
      let (t, r) = read_on-taken m b n s e in
      let u : grown m b / 10 ≡ m = omega arith in
      let v : digit_of (grown m b % 10) ≡ b = omega arith in
      let l : m < 10 ^ suc k = rw u at (tenth (suc k) (grown m b) (omega arith)) in
      digits_enough k m (b ∷ s) l ∙ sym (rw (u, v) at (digits_more (suc k) (grown m b) s (omega arith))) ∙ digits_printed k (grown m b) n s h (omega arith) r

  number_printed : (n : ℕ) (s : List ℕ) → limit < 10 ^ most_digits → number_to limit s ≡ Some n → s ≡ decimal n
  unfolding number_to
  number_printed n [] h e = absurd (none_some n e)
  number_printed n (b ∷ s) h e = by_test (eqb b 0x30) refl s e
    where
      by_test : (t : Bool) → eqb b 0x30 ≡ t → (s : List ℕ) → cond t (only_zero s) (read_on limit 0 (b ∷ s)) ≡ Some n → b ∷ s ≡ decimal n
      by_test true z [] e =
          let q : 0 ≡ n = cc in
          rw (← q, eqb-true b 0x30 z) (sym (digits_last (most_digits - 1) 0 [] (omega arith)))
      by_test true z (c ∷ s) e = absurd (none_some n e)
      by_test false z s e =
          let (t, r) = read_on-taken 0 b n s e in
          let f : b ≡ 0x30 → ⊥ = eqb-false b 0x30 z in
          let u : digit_of (grown 0 b) ≡ b = omega arith in
          sym (rw u at (digits_last (most_digits - 1) (grown 0 b) s (omega arith))) ∙ digits_printed (most_digits - 2) (grown 0 b) n s h (omega arith) r

  -- ---- both ways

  pub number_exactly : limit < 10 ^ most_digits → Exactly limit
  number_exactly h n s = (
    λ e. (subst (λ r. IfSome r (λ k. k ≤ limit)) e (number_most limit s), number_printed n s h e),
    λ e. rw e.1 (number_decimal n (omega arith) e.0),
  )

-- what is no number to a limit is none to a smaller one
pub number_smaller : (a b : ℕ) (s : List ℕ) → a ≤ b → b < 10 ^ most_digits → number_to b s ≡ None → number_to a s ≡ None
number_smaller a b s l h e = by_option (number_to a s) refl
  where
    by_option : (r : Option ℕ) → number_to a s ≡ r → r ≡ None
    by_option None z = refl
    by_option (Some n) z =
        let (m, f) = (number_exactly a (omega arith) n s).0 z in
        absurd (none_some n (sym e ∙ (number_exactly b h n s).1 (omega arith, f)))

-- B1 and B2
pub buckets_exactly : Exactly most_buckets
buckets_exactly = number_exactly most_buckets (omega arith)

-- PLAN
pub plan_exactly : Exactly most_plan
plan_exactly = number_exactly most_plan (omega arith)

-- KIND, "a digit field": one digit, and nothing else
pub digit_field : (k : ℕ) (s : List ℕ) → (number_to most_kind s ≡ Some k → (k ≤ most_kind) × (s ≡ digit_of k ∷ [])) × ((k ≤ most_kind) × (s ≡ digit_of k ∷ []) → number_to most_kind s ≡ Some k)
digit_field k s =
    let (there, back) = number_exactly most_kind (omega arith) k s in
    let one : k ≤ most_kind → decimal k ≡ digit_of k ∷ [] = λ h. digits_last (most_digits - 1) k [] (omega arith) in
    (λ e. let (h, f) = there e in (h, f ∙ one h), λ e. back (e.0, e.1 ∙ sym (one e.0)))
