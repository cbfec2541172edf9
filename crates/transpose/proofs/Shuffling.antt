-- Words shuffled in pairs: a turn of the loop; where each bit of a shuffled word comes from; and that m steps are the transpose of 2 ^ m words, by induction.
-- Assumes nothing.
use mathlib.Core.Path.{◌≡◌, refl, sym, ap, ap₂, ◌∙◌, subst}
use mathlib.Core.Bool.{Bool}
use mathlib.Core.List.{List}
use Prim.Native.Nat.{ℕ, zero, suc, ◌+◌, ◌-◌, ◌*◌, ◌/◌, ◌%◌, ◌^◌, ◌<◌, min}
use native.Mathlib.Nat.{mod-lt, mod-add-div, div-eq_of_lt, add-mul-div_left, div-lt_iff_lt-mul, pow-suc, mul_comm, mul-one, mul-zero, one-mul, zero-mul, add-zero, zero-add}
use native.Mathlib.Decide.{ℕ_discrete}
use native.Mathlib.Omega.{arith}
use lib.Arith.{lt-one, digits_lt}
use lib.Bits.{bit_and, differ, and_shifted, xor_shifted}
use lib.Pow.{pow-lt, pow_pos, shl-shr, shr-shr, split}
use lib.Dec.{T, eqb, eqb→eq, lit<}
use lib.ListN.{length, get_or, set, length-set}
use lib.Seq.{get_or-set_same, get_or-set_other}
use Rattle.gf2.specs.Vectors.{bit, outside}
use Rattle.gf2.proofs.Bit.{two, differ_zero, bit_zero, bit_lt, bit-and, bit-xor, bit-pow-same}
use Rattle.gf2.proofs.Lowest.{bit-outside}
use Rattle.transpose.specs.Shuffle.{even_of, odd_of, ShuffledAt, Shuffled}
use Rattle.transpose.specs.Transposed.{transposed}
use Rattle.transpose.proofs.Below.{every, every-at}
use Rattle.transpose.proofs.Transposed.{transposed_is}

-- ---- a turn of the loop

pub shuffle_step : (half n h m : ℕ) (t u : List ℕ) (x y : ℕ) → 2 * n + 1 < length u → x ≡ even_of (2 * half) h m (get_or t n 0) (get_or t (n + half) 0)
    → y ≡ odd_of h m (get_or t n 0) (get_or t (n + half) 0) → ((i : ℕ) → i < n → ShuffledAt half h m t u i)
    → (i : ℕ) → i < n + 1 → ShuffledAt half h m t (set (set u (2 * n) x) (2 * n + 1) y) i
shuffle_step half n h m t u x y hl ex ey s i hi = go (ℕ_discrete i n)
  where
    v : List ℕ
    v = set u (2 * n) x

    hv : 2 * n + 1 < length v
    hv = subst (λ (l : ℕ). 2 * n + 1 < l) (sym (length-set u (2 * n) x)) hl

    go : Dec (i ≡ n) → ShuffledAt half h m t (set v (2 * n + 1) y) i
    go (yes e) =
        subst (ShuffledAt half h m t (set v (2 * n + 1) y)) (sym e) (
          get_or-set_other v (2 * n + 1) (2 * n) y 0 (λ q. omega arith) ∙ get_or-set_same u (2 * n) x 0 (omega arith) ∙ ex,
          get_or-set_same v (2 * n + 1) y 0 hv ∙ ey,
        )
    go (no ne) = (
      get_or-set_other v (2 * n + 1) (2 * i) y 0 (λ q. omega arith) ∙ get_or-set_other u (2 * n) (2 * i) x 0 (λ q. omega arith) ∙ (s i (omega arith)).0,
      get_or-set_other v (2 * n + 1) (2 * i + 1) y 0 (λ q. omega arith) ∙ get_or-set_other u (2 * n) (2 * i + 1) x 0 (λ q. omega arith) ∙ (s i (omega arith)).1,
    )

-- ---- bits of a shifted word

bit_down : (h k x : ℕ) → bit k (x / 2 ^ h) ≡ bit (h + k) x
bit_down h k x = ap (λ (y : ℕ). y % 2) (shr-shr x h k)

bit_up : (h k z : ℕ) → bit (h + k) (z * 2 ^ h) ≡ bit k z
bit_up h k z = sym (bit_down h k (z * 2 ^ h)) ∙ ap (bit k) (shl-shr z h)

bit_up_low : (h k z : ℕ) → k < h → bit k (z * 2 ^ h) ≡ 0
bit_up_low h k z l =
    let e : min (bit k (z * 2 ^ h)) (bit k (2 ^ k)) ≡ 0 = sym (bit-and k (z * 2 ^ h) (2 ^ k)) ∙ ap (bit k) (and_shifted z h (2 ^ k) (pow-lt l)) ∙ bit_zero k in
    omega (arith, bit-pow-same k)

-- the bits below the width are kept
bit-mod : (w k x : ℕ) → k < w → bit k (x % 2 ^ w) ≡ bit k x
bit-mod w k x l =
    sym (ap (bit k) (sym (split x w) ∙ sym (xor_shifted (x / 2 ^ w) w (x % 2 ^ w) (mod-lt x (pow_pos w)))) ∙ bit-xor k (x / 2 ^ w * 2 ^ w) (x % 2 ^ w)
    ∙ ap (λ (a : ℕ). differ a (bit k (x % 2 ^ w))) (bit_up_low w k (x / 2 ^ w) l))

-- ---- where the bits of a pair of shuffled words come from

-- bit r of block d, 0 or 1, of pair p of blocks of h bits
abbrev place : ℕ → ℕ → ℕ → ℕ → ℕ
place h r p d = r + h * (d + 2 * p)

place-digit : (h r p d : ℕ) → r < h → d < 2 → place h r p d / h % 2 ≡ d
place-digit h r p d hr hd =
    let z : 0 < h = omega arith in
    ap (λ (n : ℕ). n % 2) (add-mul-div_left r (d + 2 * p) z ∙ ap (λ (n : ℕ). n + (d + 2 * p)) (div-eq_of_lt hr)) ∙ omega arith

-- bit k of the mask is that of an even block
unfoldable pub mask_test : ℕ → ℕ → ℕ → Bool
mask_test h m k = eqb (bit k m) (1 - k / h % 2)

even_bit : (w h m x y k : ℕ) → k < w → bit k (even_of w h m x y) ≡ differ (min (bit k x) (bit k m)) (bit k (bit_and y m * 2 ^ h))
unfolding even_of
even_bit w h m x y k l = bit-xor k (bit_and x m) ((bit_and y m * 2 ^ h) % 2 ^ w) ∙ ap₂ differ (bit-and k x m) (bit-mod w k (bit_and y m * 2 ^ h) l)

odd_bit : (h m x y k : ℕ) → bit k (odd_of h m x y) ≡ differ (min (bit (h + k) x) (bit k m)) (bit k y - bit k m)
unfolding odd_of
odd_bit h m x y k =
    bit-xor k (bit_and (x / 2 ^ h) m) (outside y m)
    ∙ ap₂ differ (bit-and k (x / 2 ^ h) m ∙ ap (λ (a : ℕ). min a (bit k m)) (bit_down h k x)) (bit-outside k y m)

-- the XOR of two bits of which one is masked away is the other
mask_on : (a b m : ℕ) → a < 2 → m ≡ 1 → b ≡ 0 → differ (min a m) b ≡ a
mask_on a b m ha hm hb = let e : min a m ≡ a = omega arith in ap₂ differ e hb ∙ differ_zero a

mask_off : (a b m : ℕ) → m ≡ 0 → differ (min a m) b ≡ b
mask_off a b m hm = let e : min a m ≡ 0 = omega arith in ap (λ (x : ℕ). differ x b) e

-- the blocks of the even word and of the odd one, in words of w bits
module _ (w h m : ℕ) (mt : T (every w (mask_test h m))) (x y r : ℕ) (hr : r < h) where
  at_mask : (p d : ℕ) → d < 2 → place h r p d < w → bit (place h r p d) m ≡ 1 - d
  unfolding mask_test
  at_mask p d hd l = eqb→eq _ _ (every-at w (mask_test h m) mt (place h r p d) l) ∙ ap (λ (n : ℕ). 1 - n) (place-digit h r p d hr hd)

  shifted : (k : ℕ) → bit (h + k) (bit_and y m * 2 ^ h) ≡ min (bit k y) (bit k m)
  shifted k = bit_up h k (bit_and y m) ∙ bit-and k y m

  -- nothing is shifted into an even block
  under : (p : ℕ) → place h r p 0 < w → bit (place h r p 0) (bit_and y m * 2 ^ h) ≡ 0
  under zero l = bit_up_low h (place h r 0 0) (bit_and y m) (omega arith)
  under (suc p) l =
      let e : place h r (suc p) 0 ≡ h + place h r p 1 = omega arith in
      ap (λ (k : ℕ). bit k (bit_and y m * 2 ^ h)) e ∙ shifted (place h r p 1) ∙ omega (arith, at_mask p 1 (lit< tt) (omega arith))

  even_0 : (p : ℕ) → place h r p 0 < w → bit (place h r p 0) (even_of w h m x y) ≡ bit (place h r p 0) x
  even_0 p l = even_bit w h m x y (place h r p 0) l ∙ mask_on (bit (place h r p 0) x) _ _ (bit_lt _ x) (at_mask p 0 (lit< tt) l) (under p l)

  even_1 : (p : ℕ) → place h r p 1 < w → bit (place h r p 1) (even_of w h m x y) ≡ bit (place h r p 0) y
  even_1 p l =
      let e : place h r p 1 ≡ h + place h r p 0 = omega arith in
      even_bit w h m x y (place h r p 1) l ∙ mask_off (bit (place h r p 1) x) _ _ (at_mask p 1 (lit< tt) l)
      ∙ ap (λ (k : ℕ). bit k (bit_and y m * 2 ^ h)) e ∙ shifted (place h r p 0) ∙ omega (arith, at_mask p 0 (lit< tt) (omega arith))

  odd_0 : (p : ℕ) → place h r p 0 < w → bit (place h r p 0) (odd_of h m x y) ≡ bit (place h r p 1) x
  odd_0 p l =
      let e : h + place h r p 0 ≡ place h r p 1 = omega arith in
      let z : bit (place h r p 0) m ≡ 1 = at_mask p 0 (lit< tt) l in
      odd_bit h m x y (place h r p 0) ∙ mask_on (bit (h + place h r p 0) x) _ _ (bit_lt _ x) z (omega arith) ∙ ap (λ (k : ℕ). bit k x) e

  odd_1 : (p : ℕ) → place h r p 1 < w → bit (place h r p 1) (odd_of h m x y) ≡ bit (place h r p 1) y
  odd_1 p l = odd_bit h m x y (place h r p 1) ∙ mask_off (bit (h + place h r p 1) x) _ _ (at_mask p 1 (lit< tt) l) ∙ omega (arith, at_mask p 1 (lit< tt) l)

-- ---- a step

-- the lowest digit e of a word's number and the digit d of a block change places, and d goes to the top of the word's number
abbrev Swap : ℕ → ℕ → List ℕ → List ℕ → ℕ → ℕ → ℕ → ℕ → ℕ → Type 0
Swap half h t u c p r e d = place h r p d < 2 * half → bit (place h r p d) (get_or u (2 * c + e) 0) ≡ bit (place h r p e) (get_or t (c + d * half) 0)

-- so each bit of u comes from t
abbrev pub Stage : ℕ → ℕ → List ℕ → List ℕ → Type 0
Stage half h t u = (c p r e d : ℕ) → c < half → r < h → e < 2 → d < 2 → Swap half h t u c p r e d

pub stage : (half h m : ℕ) (t u : List ℕ) → Shuffled half h m t u → T (every (2 * half) (mask_test h m)) → Stage half h t u
stage half h m t u s mt c p r e d hc hr he hd =
    let w = 2 * half in
    let x = get_or t c 0 in
    let y = get_or t (c + half) 0 in
    two (λ e. Swap half h t u c p r e d)
    (two (Swap half h t u c p r 0)
    (λ l. rw (add-zero (2 * c), zero-mul half, add-zero c) (ap (bit (place h r p 0)) (s c hc).0 ∙ even_0 w h m mt x y r hr p l))
    (λ l. rw (add-zero (2 * c), one-mul half) (ap (bit (place h r p 1)) (s c hc).0 ∙ even_1 w h m mt x y r hr p l)) d hd)
    (two (Swap half h t u c p r 1)
    (λ l. rw (zero-mul half, add-zero c) (ap (bit (place h r p 0)) (s c hc).1 ∙ odd_0 w h m mt x y r hr p l))
    (λ l. rw (one-mul half) (ap (bit (place h r p 1)) (s c hc).1 ∙ odd_1 w h m mt x y r hr p l)) d hd) e he

-- ---- m steps

-- u comes from t by i steps with blocks of 2 ^ (i - 1), .., 2, 1 bits
abbrev pub Steps : ℕ → ℕ → List ℕ → List ℕ → Type 0
Steps half zero u t = u ≡ t
Steps half (suc i) u t = (v : List ℕ) × Steps half i u v × Stage half (2 ^ i) t v

-- n * q words of n * q bits, in blocks of n: bit k of block p in word b + n * c comes from bit b of that block, in word c + q * k
abbrev Moved : ℕ → ℕ → List ℕ → List ℕ → Type 0
Moved n q u t = (b k c p : ℕ) → b < n → k < n → c < q → p < q → bit (k + n * p) (get_or u (b + n * c) 0) ≡ bit (b + n * p) (get_or t (c + q * k) 0)

-- the same bit
same : (l : List ℕ) {j k a b : ℕ} → j ≡ k → a ≡ b → bit j (get_or l a 0) ≡ bit k (get_or l b 0)
same l e f = ap₂ (λ (j a : ℕ). bit j (get_or l a 0)) e f

-- a number by its digits: that below n, the next, which is binary, and the rest
digits : (n x p : ℕ) → x + 2 * n * p ≡ place n (x % n) p (x / n)
digits n x p = omega (arith, mod-add-div x n)

-- one step more, before them
moved_more : (n q : ℕ) (u v t : List ℕ) → Moved n (2 * q) u v → Stage (n * q) n t v → Moved (2 * n) q u t
moved_more n q u v t f g b k c p hb hk hc hp =
    let z : 0 < n = omega arith in
    let d : k / n < 2 = (div-lt_iff_lt-mul z).1 hk in
    let e : b / n < 2 = (div-lt_iff_lt-mul z).1 hb in
    let h : k / n + 2 * p < 2 * q = omega arith in
    let q₁ : b / n + 2 * c + 2 * q * (k % n) ≡ 2 * (c + q * (k % n)) + b / n = omega arith in
    let q₂ : c + q * (k % n) + k / n * (n * q) ≡ c + q * k = omega (arith, ap (λ (k : ℕ). q * k) (mod-add-div k n)) in
    same u (digits n k p) (digits n b c)
    ∙ f (b % n) (k % n) (b / n + 2 * c) (k / n + 2 * p) (mod-lt b z) (mod-lt k z) (omega arith) h
    ∙ same v refl q₁
    ∙ g (c + q * (k % n)) p (b % n) (b / n) (k / n) (omega (arith, digits_lt (mod-lt k z) hc)) (mod-lt b z) e d (omega (arith, digits_lt h (mod-lt b z)))
    ∙ same t (sym (digits n b p)) q₂

-- i steps, by induction
moved : (half i q : ℕ) (u t : List ℕ) → 2 * half ≡ 2 ^ i * q → Steps half i u t → Moved (2 ^ i) q u t
moved half zero q u t e s = subst (Moved 1 q u) s (λ b k c p hb hk hc hp. same u (omega arith) (omega (arith, ap (λ (k : ℕ). q * k) (lt-one hk))))
moved half (suc i) q u t e s =
    let e₁ : 2 ^ suc i ≡ 2 * 2 ^ i = pow-suc 2 i ∙ mul_comm (2 ^ i) 2 in
    let e₂ : half ≡ 2 ^ i * q = omega (arith, ap (λ (n : ℕ). n * q) e₁) in
    subst (λ (n : ℕ). Moved n q u t) (sym e₁)
    (moved_more (2 ^ i) q u s.0 t (moved half i (2 * q) u s.0 (omega arith) s.1) (subst (λ (n : ℕ). Stage n (2 ^ i) t s.0) e₂ s.2))

-- m steps are the transpose of 2 ^ m words of 2 ^ m bits
pub steps_transposed : (half m : ℕ) (t u : List ℕ) → 2 * half ≡ 2 ^ m → length t ≡ 2 * half → length u ≡ 2 * half → ((a : ℕ) → get_or u a 0 < 2 ^ (2 * half))
    → Steps half m u t → u ≡ transposed (2 * half) t
steps_transposed half m t u e ht hu f s =
    transposed_is (2 * half) (2 * half) t u ht hu f
    (λ a k ha hk. simp (mul-zero, add-zero, one-mul, zero-add) at (moved half m 1 u t (e ∙ sym (mul-one (2 ^ m))) s a k 0 0 (omega arith) (omega arith) (lit< tt) (lit< tt)))
