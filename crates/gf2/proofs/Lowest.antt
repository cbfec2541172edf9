-- Words of bits: a bit set, cleared, or outside a mark; the lowest set bit.
-- Assumes nothing.
use mathlib.Core.Path.{◌≡◌, refl, sym, ap, ap₂, ◌∙◌, subst}
use Prim.Native.Nat.{ℕ, zero, suc, ◌-◌, ◌/◌, ◌%◌, ◌^◌, ◌<◌, min, max}
use native.Mathlib.Nat.{not-suc-le-zero, le_of_suc-le-suc}
use native.Mathlib.Omega.{arith}
use lib.Arith.{lt_of_le-ne}
use lib.Pow.{pow_pos}
use lib.Bits.{bit_and, bit_or, differ, xor_lt, and_lt, or_step, or_shr}
use lib.Count.{count_trailing_zeros, under, trailing_le}
use lib.Dec.{T, eqb, eqb→eq}
use Rattle.gf2.specs.Vectors.{outside, bit}
use Rattle.gf2.proofs.Bit.{by_place, every2, at2, low2, bit_zero, bit-low, bit_suc, bit_lt, half_pow, even_pow, bit-and, bit-xor, bit_ext, bit-pow-same, bit-pow-other, bit_below}

-- ---- bits of a mark

pub or_low : (a b : ℕ) → bit_or a b % 2 ≡ max (a % 2) (b % 2)
or_low a b = omega (arith, or_step a b)

pub or_half : (a b : ℕ) → bit_or a b / 2 ≡ bit_or (a / 2) (b / 2)
or_half a b = omega (arith, or_step a b)

pub bit-or : (i a b : ℕ) → bit i (bit_or a b) ≡ max (bit i a) (bit i b)
bit-or i a b = ap (λ (x : ℕ). x % 2) (or_shr a b i) ∙ or_low (a / 2 ^ i) (b / 2 ^ i)

less : T (every2 (λ x. every2 (λ y. eqb (differ x (min x y)) (x - y))))
unfolding every2
less = tt

pub bit-outside : (i p m : ℕ) → bit i (outside p m) ≡ bit i p - bit i m
bit-outside i p m =
    bit-xor i p (bit_and p m) ∙ ap (differ (bit i p)) (bit-and i p m)
    ∙ eqb→eq _ _ (at2 _ (at2 _ less (bit i p) (bit_lt i p)) (bit i m) (bit_lt i m))

-- a bit cleared and set again
pub or_outside : (m i : ℕ) → bit i m ≡ 1 → bit_or (outside m (2 ^ i)) (2 ^ i) ≡ m
or_outside m i h =
    bit_ext _ m (λ a. bit-or a (outside m (2 ^ i)) (2 ^ i) ∙ ap (λ (b : ℕ). max b (bit a (2 ^ i))) (bit-outside a m (2 ^ i))
    ∙ by_place (λ a. max (bit a m - bit a (2 ^ i)) (bit a (2 ^ i)) ≡ bit a m) i (omega (arith, bit-pow-same i)) (λ a ne. omega (arith, bit-pow-other a i ne)) a)

pub outside_lt : (n p m : ℕ) → p < 2 ^ n → m < 2 ^ n → outside p m < 2 ^ n
outside_lt n p m hp hm = xor_lt n p (bit_and p m) hp (and_lt n p m hp hm)

-- ---- the lowest set bit

pub tz_bit : (n x : ℕ) → count_trailing_zeros n x < n → bit (count_trailing_zeros n x) x ≡ 1
unfolding count_trailing_zeros
tz_bit zero x h = absurd (not-suc-le-zero h)
tz_bit (suc n) x h = go (x % 2) refl (low2 x) (count_trailing_zeros n (x / 2)) (tz_bit n (x / 2)) h
  where
    go : (d : ℕ) → x % 2 ≡ d → d < 2 → (t : ℕ) → (t < n → bit t (x / 2) ≡ 1) → under d t < suc n → bit (under d t) x ≡ 1
    go zero e l t ih h = bit_suc t x ∙ ih (le_of_suc-le-suc h)
    go (suc d) e l t ih h = bit-low x ∙ omega arith

pub tz_low : (n x j : ℕ) → j < count_trailing_zeros n x → bit j x ≡ 0
unfolding count_trailing_zeros
tz_low zero x j h = absurd (not-suc-le-zero h)
tz_low (suc n) x j h = go (x % 2) refl (count_trailing_zeros n (x / 2)) (λ j. tz_low n (x / 2) j) j h
  where
    go : (d : ℕ) → x % 2 ≡ d → (t : ℕ) → ((j : ℕ) → j < t → bit j (x / 2) ≡ 0) → (j : ℕ) → j < under d t → bit j x ≡ 0
    go zero e t ih zero h = bit-low x ∙ e
    go zero e t ih (suc j) h = bit_suc j x ∙ ih j (le_of_suc-le-suc h)
    go (suc d) e t ih j h = absurd (not-suc-le-zero h)

pub tz_lt : (n x : ℕ) → x < 2 ^ n → (x ≡ 0 → ⊥) → count_trailing_zeros n x < n
tz_lt n x h ne =
    lt_of_le-ne (trailing_le n x) (λ e. ne (bit_below n x 0 h (pow_pos n) (λ i l. tz_low n x i (subst (λ (t : ℕ). i < t) (sym e) l) ∙ sym (bit_zero i))))

pub tz_pow : (n i : ℕ) → i < n → count_trailing_zeros n (2 ^ i) ≡ i
unfolding count_trailing_zeros
tz_pow zero i h = absurd (not-suc-le-zero h)
tz_pow (suc n) zero h = refl
tz_pow (suc n) (suc i) h = ap₂ (λ (d x : ℕ). under d (count_trailing_zeros n x)) (even_pow i) (half_pow i) ∙ ap suc (tz_pow n i (le_of_suc-le-suc h))
