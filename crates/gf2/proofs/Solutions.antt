-- The solution words: what a step along a row's column does to the products of the rows; and the column step as a solution step.
-- Assumes nothing.
use mathlib.Core.Path.{◌≡◌, refl, sym, ap, ap₂, ◌∙◌}
use mathlib.Core.List.{List, [], ◌∷◌}
use Prim.Native.Nat.{ℕ, zero, suc, ◌+◌, ◌*◌, ◌/◌, ◌%◌, ◌^◌, ◌<◌}
use native.Mathlib.Omega.{arith}
use lib.Arith.{lt-one}
use lib.Bits.{bit_xor, differ, xor_comm, xor_lt}
use lib.ListN.{length, get_or, set}
use Rattle.gf2.specs.Vectors.{bit, on, flip_if, dot, product, col_step, sol_step, Inverse}
use Rattle.gf2.proofs.Bit.{low2, xor_low, xor_half, xor_cat, xor_assoc, xor_cancel, half_lt, half_pow, even_pow, bit-pow-same, bit-pow-other, dot_lt, differ_zero}
use Rattle.gf2.proofs.Linear.{on_zero, on_differ, on_cat, on_lt, flip_on, product-bit, product_lt, dot_flip}

pub product-sol_step : (u d : ℕ) (ss : List ℕ) (x : ℕ) → d < 2 ^ length ss → product (sol_step u d ss) x ≡ bit_xor (product ss x) (on (dot x u) d)
product-sol_step u d [] x h = sym (ap (on (dot x u)) (lt-one h) ∙ on_zero (dot x u))
product-sol_step u d (s ∷ ss) x h =
    let e : d ≡ d % 2 + 2 * (d / 2) = omega arith in
    ap₂ (λ (p q : ℕ). p + 2 * q) (dot_flip x (d % 2) u s (low2 d)) (product-sol_step u (d / 2) ss x (half_lt d (length ss) h))
    ∙ sym (ap (bit_xor (dot x s + 2 * product ss x)) (ap (on (dot x u)) e ∙ on_cat (dot x u) (d % 2) (d / 2))
    ∙ xor_cat (dot x s) (on (dot x u) (d % 2)) (product ss x) (on (dot x u) (d / 2)) (dot_lt x s) (on_lt 1 (dot x u) (d % 2) (low2 d)))

-- a step along a word that x does not see leaves x's product
pub product_unseen : (u d : ℕ) (ss : List ℕ) (x : ℕ) → dot x u ≡ 0 → product (sol_step u d ss) x ≡ product ss x
product_unseen u d [] x h = refl
product_unseen u d (s ∷ ss) x h =
    ap₂ (λ (p q : ℕ). p + 2 * q) (dot_flip x (d % 2) u s (low2 d) ∙ ap (λ (e : ℕ). differ (dot x s) (on e (d % 2))) h ∙ differ_zero (dot x s)) (product_unseen u (d / 2) ss x h)

-- ---- steps one after the other

pub sol_step_none : (u : ℕ) (l : List ℕ) → sol_step u 0 l ≡ l
sol_step_none u [] = refl
sol_step_none u (x ∷ l) = ap (λ (r : List ℕ). x ∷ r) (sol_step_none u l)

pub sol_step_xor : (u d e : ℕ) (ss : List ℕ) → sol_step u d (sol_step u e ss) ≡ sol_step u (bit_xor d e) ss
sol_step_xor u d e [] = refl
sol_step_xor u d e (s ∷ ss) =
    ap₂ {C = List ℕ} ◌∷◌ (flip_on (d % 2) u (flip_if (e % 2) u s) ∙ ap (λ (x : ℕ). bit_xor x (on (d % 2) u)) (flip_on (e % 2) u s) ∙ xor_assoc s (on (e % 2) u) (on (d % 2) u)
    ∙ ap (bit_xor s) (xor_comm (on (e % 2) u) (on (d % 2) u) ∙ sym (on_differ (d % 2) (e % 2) u (low2 d) (low2 e)) ∙ ap (λ (x : ℕ). on x u) (sym (xor_low d e)))
    ∙ sym (flip_on (bit_xor d e % 2) u s))
    (sol_step_xor u (d / 2) (e / 2) ss ∙ ap (λ (x : ℕ). sol_step u x ss) (sym (xor_half d e)))

-- one bit: one word
pub sol_step-pow : (u j : ℕ) (ss : List ℕ) → sol_step u (2 ^ j) ss ≡ set ss j (bit_xor (get_or ss j 0) u)
sol_step-pow u j [] = refl
sol_step-pow u zero (s ∷ ss) = ap (λ (l : List ℕ). bit_xor s u ∷ l) (sol_step_none u ss)
sol_step-pow u (suc j) (s ∷ ss) = ap₂ (λ (d e : ℕ). flip_if d u s ∷ sol_step u e ss) (even_pow j) (half_pow j) ∙ ap (λ (l : List ℕ). s ∷ l) (sol_step-pow u j ss)

-- a step along row i's column leaves the products of the other rows, for add, change and withdrawal alike
module _ (n : ℕ) (K cs ss : List ℕ) (inv : Inverse n K cs) (i : ℕ) (hi : i < n) where
  dot-row : (a : ℕ) → a < n → dot (get_or K a 0) (get_or cs i 0) ≡ bit i (2 ^ a)
  dot-row a h = sym (product-bit cs (get_or K a 0) i) ∙ ap (bit i) (inv.unit a h)

  pub plan-kept : (d a : ℕ) → a < n → (i ≡ a → ⊥) → product (sol_step (get_or cs i 0) d ss) (get_or K a 0) ≡ product ss (get_or K a 0)
  plan-kept d a h ne = product_unseen (get_or cs i 0) d ss (get_or K a 0) (dot-row a h ∙ bit-pow-other i a ne)

  -- and by the old plan XOR the new one it gives row i the new one
  pub plan-set : (plan : ℕ) → plan < 2 ^ length ss → product (sol_step (get_or cs i 0) (bit_xor (product ss (get_or K i 0)) plan) ss) (get_or K i 0) ≡ plan
  plan-set plan hp =
      let old : ℕ = product ss (get_or K i 0) in
      product-sol_step (get_or cs i 0) (bit_xor old plan) ss (get_or K i 0) (xor_lt (length ss) old plan (product_lt ss (get_or K i 0)) hp)
      ∙ ap (λ (d : ℕ). bit_xor old (on d (bit_xor old plan))) (dot-row i hi ∙ bit-pow-same i)
      ∙ xor_cancel old plan

-- ---- the step on the columns, by the product of v alone

pub col_step-product : (u v : ℕ) (cs : List ℕ) → col_step u v cs ≡ sol_step u (product cs v) cs
col_step-product u v [] = refl
col_step-product u v (c ∷ cs) =
    let l : (dot v c + 2 * product cs v) % 2 ≡ dot v c = omega (arith, dot_lt v c) in
    let q : (dot v c + 2 * product cs v) / 2 ≡ product cs v = omega (arith, dot_lt v c) in
    ap₂ (λ (x : ℕ) (r : List ℕ). flip_if x u c ∷ r) (sym l) (col_step-product u v cs ∙ ap (λ (w : ℕ). sol_step u w cs) (sym q))

pub product-col_step : (u v : ℕ) (cs : List ℕ) (x : ℕ) → product (col_step u v cs) x ≡ bit_xor (product cs x) (on (dot x u) (product cs v))
product-col_step u v cs x = ap (λ (l : List ℕ). product l x) (col_step-product u v cs) ∙ product-sol_step u (product cs v) cs x (product_lt cs v)
