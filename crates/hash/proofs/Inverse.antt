-- The steps of S and of its inverse undo each other, at every width and shift; so S and its inverse do, below 2^64, and S is one to one.
-- Assumes nothing.
use Rattle.std.proofs.Common.{◌≡◌, ℕ, zero, suc, ◌+◌, ◌*◌, ◌/◌, ◌%◌, ◌^◌, ◌<◌, ◌≤◌, sym, refl, ap, ◌∙◌, lt_of_lt_of_le, lt_of_le_of_lt, add_assoc, mod-lt, mod-eq_of_lt, mul_assoc, mul_comm, add-mul, one-mul, lit≤, pow_pos, pow_mono, shr_lt}
use native.Mathlib.Nat.{mod-add-mod, add-mod_right, mul-add-mod_self_right, div-eq_of_lt}
use lib.Bits.{bit_xor, xor_shr, xor_lt, xor_zero_r}
use lib.Pow.{shr_le}
use Rattle.gf2.proofs.Bit.{xor_out, xor_4}
use Rattle.hash.specs.Mix.{add_mod, mul_mod, xor_shift, summand, factor₁, factor₂, mix_of, un_xor_shift, un_summand, un_factor₁, un_factor₂, unmix_of}
use Rattle.hash.proofs.Product.{mod-mul-mod}

-- ---- XOR with a shift

-- how many bits k + 1 shifts by s cover
abbrev pub span : ℕ → ℕ → ℕ
span s zero = s
span s (suc k) = span s k + s

pub un_shift : (s k x : ℕ) → x < 2 ^ span s k → un_xor_shift s k (xor_shift s x) ≡ x
un_shift s zero x h = ap (bit_xor x) (div-eq_of_lt h) ∙ xor_zero_r x
un_shift s (suc k) x h =
    ap (bit_xor (xor_shift s x)) (ap (un_xor_shift s k) (xor_shr x (x / 2 ^ s) s) ∙ un_shift s k (x / 2 ^ s) (shr_lt (span s k) s h))
    ∙ xor_out x (x / 2 ^ s)

pub shift_un : (s k x : ℕ) → x < 2 ^ span s k → xor_shift s (un_xor_shift s k x) ≡ x
shift_un s zero x h = ap (bit_xor x) (div-eq_of_lt h) ∙ xor_zero_r x
shift_un s (suc k) x h =
    ap (bit_xor (bit_xor x u)) (xor_shr x u s)
    ∙ cancel x u (x / 2 ^ s) (u / 2 ^ s) (shift_un s k (x / 2 ^ s) (shr_lt (span s k) s h))
  where
    u : ℕ
    u = un_xor_shift s k (x / 2 ^ s)

    cancel : (x u y v : ℕ) → bit_xor u v ≡ y → bit_xor (bit_xor x u) (bit_xor y v) ≡ x
    cancel x u y v e = xor_4 x u y v ∙ ap (bit_xor (bit_xor x y)) e ∙ xor_out x y

pub shift_lt : (w s x : ℕ) → x < 2 ^ w → xor_shift s x < 2 ^ w
shift_lt w s x h = xor_lt w x (x / 2 ^ s) h (lt_of_le_of_lt (shr_le x s) h)

pub un_shift_lt : (w s k x : ℕ) → x < 2 ^ w → un_xor_shift s k x < 2 ^ w
un_shift_lt w s zero x h = h
un_shift_lt w s (suc k) x h = xor_lt w x (un_xor_shift s k (x / 2 ^ s)) h (un_shift_lt w s k (x / 2 ^ s) (lt_of_le_of_lt (shr_le x s) h))

-- ---- products and sums modulo 2 ^ w

-- from one computed product: c * d is 1 more than q times 2 ^ w
pub un_mul : (w c d q x : ℕ) → c * d ≡ q * 2 ^ w + 1 → x < 2 ^ w → mul_mod w d (mul_mod w c x) ≡ x
un_mul w c d q x e h =
    mod-mul-mod (2 ^ w) (x * c) d
    ∙ ap (λ (n : ℕ). n % 2 ^ w) (mul_assoc x c d ∙ mul_comm x (c * d) ∙ ap (λ (n : ℕ). n * x) e ∙ regroup (2 ^ w))
    ∙ mul-add-mod_self_right (q * x) (2 ^ w) x
    ∙ mod-eq_of_lt h
  where
    regroup : (m : ℕ) → (q * m + 1) * x ≡ q * x * m + x
    regroup m = simp (add-mul, one-mul, mul_assoc, mul_comm) refl

pub un_add : (w c d x : ℕ) → c + d ≡ 2 ^ w → x < 2 ^ w → add_mod w d (add_mod w c x) ≡ x
un_add w c d x e h =
    mod-add-mod (x + c) (2 ^ w) d
    ∙ ap (λ (n : ℕ). n % 2 ^ w) (add_assoc x c d ∙ ap (λ (n : ℕ). x + n) e)
    ∙ add-mod_right x (2 ^ w)
    ∙ mod-eq_of_lt h

-- ---- S

-- g undoes f on numbers of w bits, which f keeps
pub record Undoes (w : ℕ) (g f : ℕ → ℕ) : Type 0 where
  pub undo : (x : ℕ) → x < 2 ^ w → g (f x) ≡ x
  pub keeps : (x : ℕ) → x < 2 ^ w → f x < 2 ^ w

-- first f, then f'; undone last first
then : {w : ℕ} {f f' g g' : ℕ → ℕ} → Undoes w g f → Undoes w g' f' → Undoes w (λ x. g (g' x)) (λ x. f' (f x))
then {g} u v = record { undo = λ x h. ap g (v.undo _ (u.keeps x h)) ∙ u.undo x h; keeps = λ x h. v.keeps _ (u.keeps x h) }

add_undone : (w c d : ℕ) → c + d ≡ 2 ^ w → Undoes w (add_mod w d) (add_mod w c)
add_undone w c d e = record { undo = λ x h. un_add w c d x e h; keeps = λ x h. mod-lt (x + c) (pow_pos w) }

mul_undone : (w c d q : ℕ) → c * d ≡ q * 2 ^ w + 1 → Undoes w (mul_mod w d) (mul_mod w c)
mul_undone w c d q e = record { undo = λ x h. un_mul w c d q x e h; keeps = λ x h. mod-lt (x * c) (pow_pos w) }

shift_undone : (w s k : ℕ) → w ≤ span s k → Undoes w (un_xor_shift s k) (xor_shift s)
shift_undone w s k l = record { undo = λ x h. un_shift s k x (lt_of_lt_of_le h (pow_mono l)); keeps = shift_lt w s }

un_shift_undone : (w s k : ℕ) → w ≤ span s k → Undoes w (xor_shift s) (un_xor_shift s k)
un_shift_undone w s k l = record { undo = λ x h. shift_un s k x (lt_of_lt_of_le h (pow_mono l)); keeps = un_shift_lt w s k }

-- the number after a factor and its inverse is the quotient of their computed product by 2^64
pub mix_undone : Undoes 64 unmix_of mix_of
unfolding mix_of unmix_of
mix_undone =
    then (add_undone 64 summand un_summand refl)
    (then (shift_undone 64 30 2 (lit≤ tt))
    (then (mul_undone 64 factor₁ un_factor₁ 0x70c3bca78f27f46c refl)
    (then (shift_undone 64 27 2 (lit≤ tt)) (then (mul_undone 64 factor₂ un_factor₂ 0x1cd336eda85f1453 refl) (shift_undone 64 31 2 (lit≤ tt))))))

pub unmix_undone : Undoes 64 mix_of unmix_of
unfolding mix_of unmix_of
unmix_undone =
    then (un_shift_undone 64 31 2 (lit≤ tt))
    (then (mul_undone 64 un_factor₂ factor₂ 0x1cd336eda85f1453 refl)
    (then (un_shift_undone 64 27 2 (lit≤ tt))
    (then (mul_undone 64 un_factor₁ factor₁ 0x70c3bca78f27f46c refl) (then (un_shift_undone 64 30 2 (lit≤ tt)) (add_undone 64 un_summand summand refl)))))

-- S and its inverse give numbers below 2^64, of whatever number
pub mix_lt : (n : ℕ) → mix_of n < 2 ^ 64
unfolding mix_of
mix_lt n = rw mod-add-mod at (mix_undone.keeps (n % 2 ^ 64) (mod-lt n (pow_pos 64)))

pub unmix_lt : (n : ℕ) → unmix_of n < 2 ^ 64
unfolding unmix_of
unmix_lt n = mod-lt _ (pow_pos 64)

pub unmix_mix : (n : ℕ) → n < 2 ^ 64 → unmix_of (mix_of n) ≡ n
unmix_mix = mix_undone.undo

pub mix_unmix : (n : ℕ) → n < 2 ^ 64 → mix_of (unmix_of n) ≡ n
mix_unmix = unmix_undone.undo

pub mix_one_to_one : (m n : ℕ) → m < 2 ^ 64 → n < 2 ^ 64 → mix_of m ≡ mix_of n → m ≡ n
mix_one_to_one m n hm hn e = sym (unmix_mix m hm) ∙ ap unmix_of e ∙ unmix_mix n hn
