-- The chosen rows: a row more, a row less, and a member by its row.
-- Assumes nothing.
use mathlib.Core.Path.{◌≡◌, refl, sym, ap, ap₂, ◌∙◌, subst, subst₂}
use mathlib.Core.Logic.{⊎_elim}
use mathlib.Core.List.Permᴰ
use mathlib.Core.List.{List, [], ◌∷◌, Sublistᴰ, Permᴰ}
use Prim.Native.Nat.{ℕ, zero, suc, ◌-◌, ◌/◌, ◌%◌, ◌^◌, ◌≤◌, ◌<◌}
use native.Mathlib.Nat.{zero-lt-suc, not-suc-le-zero, le_of_suc-le-suc}
use native.Mathlib.Omega.{arith}
use lib.Bits.{bit_xor, bit_and, bit_or, or_zero_r, differ, xor_zero_r}
use lib.Count.{count_trailing_zeros}
use lib.Dec.{T, eqb, eqb→eq, eqb_refl}
use lib.ListN.{length, get_or, set, length-set}
use lib.Seq.{set-set, set-get_or}
use Rattle.gf2.specs.Vectors.{outside, bit}
use Rattle.gf2.specs.Select.{elem, put_if, chosen}
use Rattle.gf2.proofs.Bit.{low2, bit-low, bit_suc, xor_low, xor_half, half_pow, even_pow, differ_zero, bit-pow-same}
use Rattle.lists.proofs.Tests.{or_l, or_r, or_cases}
use Rattle.lists.proofs.Keep.{length-sub}
use Rattle.gf2.proofs.Lowest.{or_low, or_half, bit-outside, or_outside, tz_lt, tz_bit, tz_low}
use Rattle.gf2.proofs.Loops.{without_lt, low_off}

-- ---- how many

pub chosen_none : (rs : List ℕ) → chosen 0 rs ≡ []
chosen_none [] = refl
chosen_none (r ∷ rs) = chosen_none rs

pub chosen-sub : (m : ℕ) (rs : List ℕ) → Sublistᴰ (chosen m rs) rs
chosen-sub m [] = Sublistᴰ.slnil
chosen-sub m (r ∷ rs) = go (m % 2) (chosen-sub (m / 2) rs)
  where
    go : (d : ℕ) → Sublistᴰ (chosen (m / 2) rs) rs → Sublistᴰ (put_if d r (chosen (m / 2) rs)) (r ∷ rs)
    go zero s = Sublistᴰ.cons s
    go (suc d) s = Sublistᴰ.cons-cons refl s

pub chosen-length : (m : ℕ) (rs : List ℕ) → length (chosen m rs) ≤ length rs
chosen-length m rs = length-sub (chosen-sub m rs)

-- ---- row by row, the lowest first

chosen_at : (rs : List ℕ) (a d : ℕ) → a < length rs → bit a d ≡ 1 → ((j : ℕ) → j < a → bit j d ≡ 0) → chosen d rs ≡ get_or rs a 0 ∷ chosen (bit_xor d (2 ^ a)) rs
chosen_at [] a d h e f = absurd (not-suc-le-zero h)
chosen_at (x ∷ rs) zero d h e f =
    let o : d % 2 ≡ 1 = sym (bit-low d) ∙ e in
    let z : bit_xor d 1 % 2 ≡ 0 = xor_low d 1 ∙ ap (λ (y : ℕ). differ y 1) o in
    let g : bit_xor d 1 / 2 ≡ d / 2 = xor_half d 1 ∙ xor_zero_r (d / 2) in
    ap (λ (k : ℕ). put_if k x (chosen (d / 2) rs)) o ∙ ap {B = List ℕ} (λ l. x ∷ l) (sym (ap₂ (λ (k j : ℕ). put_if k x (chosen j rs)) z g))
chosen_at (x ∷ rs) (suc a) d h e f =
    let o : d % 2 ≡ 0 = sym (bit-low d) ∙ f 0 (omega arith) in
    let z : bit_xor d (2 ^ suc a) % 2 ≡ 0 = xor_low d (2 ^ suc a) ∙ ap (differ (d % 2)) (even_pow a) ∙ differ_zero (d % 2) ∙ o in
    let g : bit_xor d (2 ^ suc a) / 2 ≡ bit_xor (d / 2) (2 ^ a) = xor_half d (2 ^ suc a) ∙ ap (bit_xor (d / 2)) (half_pow a) in
    ap (λ (k : ℕ). put_if k x (chosen (d / 2) rs)) o
    ∙ chosen_at rs a (d / 2) (le_of_suc-le-suc h) (sym (bit_suc a d) ∙ e) (λ j l. sym (bit_suc j d) ∙ f (suc j) (omega arith))
    ∙ ap {B = List ℕ} (λ l. get_or rs a 0 ∷ l) (sym (ap₂ (λ (k j : ℕ). put_if k x (chosen j rs)) z g))

-- the row of the lowest bit, then the others
pub chosen-low : (n d : ℕ) (rs : List ℕ) → length rs ≡ n → d < 2 ^ n → (d ≡ 0 → ⊥) → chosen d rs ≡ get_or rs (count_trailing_zeros n d) 0 ∷ chosen (bit_and d (d - 1)) rs
chosen-low n d rs h hd ne =
    let l : count_trailing_zeros n d < n = tz_lt n d hd ne in
    rw (low_off n d hd ne) (chosen_at rs (count_trailing_zeros n d) d (omega arith) (tz_bit n d l) (λ j. tz_low n d j))

-- a word without its lowest bit is less
pub low_lt : (n d : ℕ) → d < 2 ^ n → (d ≡ 0 → ⊥) → bit_and d (d - 1) < d
low_lt n d hd ne = rw (low_off n d hd ne) (without_lt d (count_trailing_zeros n d) (tz_bit n d (tz_lt n d hd ne)))

-- ---- the live vectors of an occupied row more, and of one less

pub chosen-add : (rs : List ℕ) (i m k : ℕ) → i < length rs → bit i m ≡ 0 → Permᴰ (chosen (bit_or m (2 ^ i)) (set rs i k)) (k ∷ chosen m rs)
chosen-add [] i m k h z = absurd (not-suc-le-zero h)
chosen-add (r ∷ rs) zero m k h z =
    let e : m % 2 ≡ 0 = sym (bit-low m) ∙ z in
    let l : bit_or m 1 % 2 ≡ 1 = or_low m 1 ∙ omega arith in
    let q : bit_or m 1 / 2 ≡ m / 2 = or_half m 1 ∙ or_zero_r (m / 2) in
    rw (l, q, e) (Permᴰ.refl (k ∷ chosen (m / 2) rs))
chosen-add (r ∷ rs) (suc i) m k h z =
    let l : bit_or m (2 ^ suc i) % 2 ≡ m % 2 = or_low m (2 ^ suc i) ∙ omega (arith, even_pow i) in
    let q : bit_or m (2 ^ suc i) / 2 ≡ bit_or (m / 2) (2 ^ i) = or_half m (2 ^ suc i) ∙ ap (bit_or (m / 2)) (half_pow i) in
    rw (l, q) (go (m % 2) (chosen-add rs i (m / 2) k (le_of_suc-le-suc h) (sym (bit_suc i m) ∙ z)))
  where
    go : (d : ℕ) → Permᴰ (chosen (bit_or (m / 2) (2 ^ i)) (set rs i k)) (k ∷ chosen (m / 2) rs)
        → Permᴰ (put_if d r (chosen (bit_or (m / 2) (2 ^ i)) (set rs i k))) (k ∷ put_if d r (chosen (m / 2) rs))
    go zero p = p
    go (suc d) p = Permᴰ.trans (Permᴰ.cons refl p) (Permᴰ.swap refl refl)

-- row i leaves, whatever stands there afterwards
pub chosen-drop : (rs : List ℕ) (i m x : ℕ) → i < length rs → bit i m ≡ 1 → Permᴰ (chosen m rs) (get_or rs i 0 ∷ chosen (outside m (2 ^ i)) (set rs i x))
chosen-drop rs i m x h b =
    subst₂ (λ (a : ℕ) (l : List ℕ). Permᴰ (chosen a l) (get_or rs i 0 ∷ chosen (outside m (2 ^ i)) (set rs i x)))
    (or_outside m i b) (set-set rs i x (get_or rs i 0) ∙ set-get_or rs i 0)
    (chosen-add (set rs i x) i (outside m (2 ^ i)) (get_or rs i 0) (subst (λ (l : ℕ). i < l) (sym (length-set rs i x)) h)
    (bit-outside i m (2 ^ i) ∙ omega (arith, bit-pow-same i)))

unfoldable pub Row : ℕ → ℕ → List ℕ → Type 0
Row x m rs = (i : ℕ) × (i < length rs) × (bit i m ≡ 1) × (get_or rs i 0 ≡ x)

pub elem→row : (x m : ℕ) (rs : List ℕ) → T (elem x (chosen m rs)) → Row x m rs
unfolding Row
elem→row x m [] t = absurd t
elem→row x m (r ∷ rs) t = go (m % 2) refl (elem→row x (m / 2) rs) t
  where
    later : Row x (m / 2) rs → Row x m (r ∷ rs)
    later w = (suc w.0, omega (arith, w.1), bit_suc w.0 m ∙ w.2, w.3)

    go : (d : ℕ) → m % 2 ≡ d → (T (elem x (chosen (m / 2) rs)) → Row x (m / 2) rs) → T (elem x (put_if d r (chosen (m / 2) rs))) → Row x m (r ∷ rs)
    go zero e ih t = later (ih t)
    go (suc d) e ih t =
        ⊎_elim (λ a. (0, zero-lt-suc (length rs), bit-low m ∙ omega (arith, low2 m), sym (eqb→eq x r a))) (λ c. later (ih c)) (or_cases (eqb x r) (elem x (chosen (m / 2) rs)) t)

pub row→elem : (m : ℕ) (rs : List ℕ) (i : ℕ) → i < length rs → bit i m ≡ 1 → T (elem (get_or rs i 0) (chosen m rs))
row→elem m [] i h b = absurd (not-suc-le-zero h)
row→elem m (r ∷ rs) zero h b = subst (λ (d : ℕ). T (elem r (put_if d r (chosen (m / 2) rs)))) (sym (sym (bit-low m) ∙ b)) (or_l (eqb r r) _ (eqb_refl r))
row→elem m (r ∷ rs) (suc i) h b = go (m % 2) (row→elem (m / 2) rs i (le_of_suc-le-suc h) (sym (bit_suc i m) ∙ b))
  where
    go : (d : ℕ) → T (elem (get_or rs i 0) (chosen (m / 2) rs)) → T (elem (get_or rs i 0) (put_if d r (chosen (m / 2) rs)))
    go zero t = t
    go (suc d) t = or_r (eqb (get_or rs i 0) r) _ t
