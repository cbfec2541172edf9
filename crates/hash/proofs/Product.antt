-- Products modulo a number, and the product of two numbers of two digits each in a base P modulo P * P.
-- Assumes nothing.
use Rattle.std.proofs.Common.{◌≡◌, ℕ, ◌+◌, ◌*◌, ◌/◌, ◌%◌, sym, refl, ap, ◌∙◌, add_assoc, mul_assoc, mul_comm, add-mul, add_comm, div-add-mod', mul-add, mul_left_comm}
use native.Mathlib.Nat.{add_left_comm, mod-add-mod, mul-add-mod_self_right}

-- a factor counts modulo m only
pub mod-mul-mod : (m x c : ℕ) → (x % m * c) % m ≡ (x * c) % m
mod-mul-mod m x c =
    sym (mul-add-mod_self_right (x / m * c) m (x % m * c)) ∙ ap (λ (n : ℕ). n % m) (regroup (x / m) (x % m) ∙ ap (λ (n : ℕ). n * c) (div-add-mod' x m))
  where
    regroup : (q r : ℕ) → q * c * m + r * c ≡ (q * m + r) * c
    regroup q r = simp (add-mul, mul_assoc, mul_comm, mul_left_comm) refl

columns : (P a₀ a₁ b₀ b₁ : ℕ) → a₁ * b₁ * (P * P) + ((a₁ * b₀ + a₀ * b₁) * P + a₀ * b₀) ≡ (a₁ * P + a₀) * (b₁ * P + b₀)
columns P a₀ a₁ b₀ b₁ = simp (mul-add, add-mul, mul_assoc, mul_comm, mul_left_comm, add_assoc, add_comm, add_left_comm) refl

-- the product of the high digits does not count, and the sum of the cross products counts modulo P * P only
pub low_product : (P a b : ℕ) → ((((a / P * (b % P) + a % P * (b / P)) % (P * P)) * P) % (P * P) + a % P * (b % P)) % (P * P) ≡ (a * b) % (P * P)
low_product P a b =
    ap (λ (n : ℕ). (n + a % P * (b % P)) % (P * P)) (mod-mul-mod (P * P) cross P)
    ∙ mod-add-mod (cross * P) (P * P) (a % P * (b % P))
    ∙ sym (mul-add-mod_self_right (a / P * (b / P)) (P * P) (cross * P + a % P * (b % P)))
    ∙ ap (λ (n : ℕ). n % (P * P)) (columns P (a % P) (a / P) (b % P) (b / P))
    ∙ (λ i. (div-add-mod' a P i * div-add-mod' b P i) % (P * P))
  where
    cross : ℕ
    cross = a / P * (b % P) + a % P * (b / P)
