-- Decimal numbers: a field read from index i on, and a number printed digit by digit from the last on.
-- Assumes nothing.
use mathlib.Core.Path.{◌≡◌, refl, sym, ◌∙◌}
use mathlib.Core.List.{List, [], ◌∷◌}
use Prim.Native.Nat.{ℕ, zero, suc, ◌+◌, ◌-◌, ◌*◌, ◌/◌, ◌%◌, ◌^◌, ◌≤◌, ◌<◌}
use native.Mathlib.Nat.{pow-suc}
use native.Mathlib.Numerals.{add-one}
use native.Mathlib.Omega.{arith}
use lib.Dec.{eqb, leb}
use lib.ListN.{length, get_or, take, drop, set, length-set, length-drop, drop_of_length-le}
use lib.Seq.{take_all, drop-cons}
use mathlib.Core.Bool.{true, false}
use borrow.Author.Tests.{le-leb, lt-leb, lt-ltb, le-ltb, eq-eqb, ne_eqb, eqb-true, leb-true}
use Rattle.lists.proofs.Parts.{drop-set}
use Rattle.lists.proofs.Tests.{cases}
use Rattle.lines_text.specs.Decimal.{digit_of, is_digit, grown, read_on, number_to, digits_then, most_digits}
use Rattle.std.specs.Prelude.{Some, None, IfSome}

-- ---- a field

module _ (limit : ℕ) where
  pub number_none : (s : List ℕ) → length s ≡ 0 → number_to limit s ≡ None
  unfolding number_to
  number_none [] e = refl
  number_none (b ∷ s) e = absurd (omega arith)

  pub number_leading : (s : List ℕ) → 1 < length s → get_or s 0 0 ≡ 48 → number_to limit s ≡ None
  unfolding number_to
  number_leading [] h z = refl
  number_leading (b ∷ []) h z = absurd (omega arith)
  number_leading (b ∷ c ∷ s) h z = rw (eq-eqb b 48 z)

  pub number_read : (s : List ℕ) → (length s ≡ 0 → ⊥) → (1 < length s → get_or s 0 0 ≡ 48 → ⊥) → read_on limit 0 s ≡ number_to limit s
  unfolding number_to read_on
  number_read [] h z = absurd (h refl)
  number_read (b ∷ []) h z = cases (eqb b 48) (λ e. rw (eqb-true b 48 e, le-leb 0 limit (omega arith))) (λ e. rw e)
  number_read (b ∷ c ∷ s) h z = rw (ne_eqb b 48 (z (omega arith)))

  pub read_end : (n i : ℕ) (s : List ℕ) → length s ≤ i → read_on limit n (drop i s) ≡ Some n
  unfolding read_on
  read_end n i s h = rw drop_of_length-le

  module _ (n i : ℕ) (s : List ℕ) (h : i < length s) where
    pub read_other : is_digit (get_or s i 0) ≡ false → read_on limit n (drop i s) ≡ None
    unfolding read_on
    read_other d = rw (drop-cons s i 0, d)

    pub read_over : is_digit (get_or s i 0) ≡ true → limit < grown n (get_or s i 0) → read_on limit n (drop i s) ≡ None
    unfolding read_on
    read_over d o = rw (drop-cons s i 0, d, lt-leb (grown n (get_or s i 0)) limit o)

    pub read_more : is_digit (get_or s i 0) ≡ true → grown n (get_or s i 0) ≤ limit
        → read_on limit (grown n (get_or s i 0)) (drop (i + 1) s) ≡ read_on limit n (drop i s)
    unfolding read_on
    read_more d o = rw (add-one i, drop-cons s i 0, d, le-leb (grown n (get_or s i 0)) limit o)

  -- what is read is at most the limit
  read_most : (n : ℕ) (s : List ℕ) → n ≤ limit → IfSome (read_on limit n s) (λ k. k ≤ limit)
  unfolding read_on
  read_most n [] l = l
  read_most n (b ∷ s) l =
      cases (is_digit b)
      (λ d. cases (leb (grown n b) limit) (λ e. rw (d, e) (read_most (grown n b) s (leb-true (grown n b) limit e))) (λ e. rw (d, e) tt))
      (λ d. rw d tt)

  pub number_most : (s : List ℕ) → IfSome (number_to limit s) (λ k. k ≤ limit)
  unfolding number_to
  number_most [] = tt
  number_most (b ∷ []) = cases (eqb b 48) (λ e. rw e (omega arith)) (λ e. rw e (read_most 0 (b ∷ []) (omega arith)))
  number_most (b ∷ c ∷ s) = cases (eqb b 48) (λ e. rw e tt) (λ e. rw e (read_most 0 (b ∷ c ∷ s) (omega arith)))

-- ---- a number printed

pub digits_more : (k n : ℕ) (s : List ℕ) → 10 ≤ n → digits_then (suc k) n s ≡ digits_then k (n / 10) (digit_of (n % 10) ∷ s)
unfolding digits_then
digits_more k n s h = rw (le-ltb n 10 h)

pub digits_last : (k n : ℕ) (s : List ℕ) → n < 10 → digits_then (suc k) n s ≡ digit_of n ∷ s
unfolding digits_then
digits_last k n s h = rw (lt-ltb n 10 h)

-- a place for the digit before the last
pub room : (i n : ℕ) → n < 10 ^ (i + 1) → 10 ≤ n → 0 < i
room zero n h l = absurd (omega arith)
room (suc i) n h l = omega arith

pub fewer : (i n : ℕ) → n < 10 ^ (i + 1) → 0 < i → n / 10 < 10 ^ (i - 1 + 1)
fewer zero n h l = absurd (omega arith)
fewer (suc i) n h l =
    let e : suc i - 1 + 1 ≡ suc i = omega arith in
    let k : n < 10 ^ suc i * 10 = rw (add-one (suc i), pow-suc 10 (suc i)) at h in
    rw e (omega arith)

pub digits_step : (i n : ℕ) (l : List ℕ) → 0 < i → i < length l → 10 ≤ n
    → digits_then (i - 1 + 1) (n / 10) (drop (i - 1 + 1) (set l i (digit_of (n % 10)))) ≡ digits_then (i + 1) n (drop (i + 1) l)
digits_step i n l p h t =
    let e : i - 1 + 1 ≡ i = omega arith in
    rw (e, drop-set l i (digit_of (n % 10)) h) (sym (rw (add-one i) (digits_more i n (drop (suc i) l) t)))

pub digits_end : (i n : ℕ) (l : List ℕ) → i < length l → n < 10 → drop i (set l i (digit_of n)) ≡ digits_then (i + 1) n (drop (i + 1) l)
digits_end i n l h t = drop-set l i (digit_of n) h ∙ sym (rw (add-one i) (digits_last i n (drop (suc i) l) t))

-- what the digits from index i on are cut out as
pub digits_cut : (i v : ℕ) (l : List ℕ) → i < most_digits → length l ≡ most_digits
    → (length (drop i (set l i v)) ≡ most_digits - i) × (take (most_digits - i) (drop i (set l i v)) ≡ drop i (set l i v))
digits_cut i v l h e =
    let n : length (drop i (set l i v)) ≡ most_digits - i = rw (length-drop, length-set, e) in
    (n, take_all (most_digits - i) (drop i (set l i v)) (omega arith))
