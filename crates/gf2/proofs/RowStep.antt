-- The step on the columns by a row and a product, with no vector: for the vector that comes to a row, and for the one that leaves it.
-- Assumes nothing.
use mathlib.Core.Path.{◌≡◌, refl, sym, ap, ap₂, ◌∙◌}
use mathlib.Core.List.{List, [], ◌∷◌}
use Prim.Native.Nat.{ℕ, zero, suc, ◌+◌, ◌*◌, ◌/◌, ◌%◌, ◌^◌, ◌<◌}
use native.Mathlib.Omega.{arith}
use lib.Bits.{bit_xor, differ}
use lib.Pow.{pow-lt}
use lib.ListN.{length, get_or, set, length-set}
use lib.Seq.{get_or-set_same, get_or-set_other}
use Rattle.gf2.specs.Vectors.{bit, flip_if, dot, product, col_step, row_step, exchange}
use Rattle.gf2.proofs.Bit.{by_place, xor_low, bit-pow-same, bit-pow-other, dot_lt, dot-pow, dot_xor_l, dot_zero_r}
use Rattle.gf2.proofs.Linear.{product-bit, product_is}

-- document 02, order 5: the parity of (v AND column a), v being k XOR 2 ^ i, is bit a of k's product XOR bit i of column a
pub parity_by_product : (cs : List ℕ) (k i a : ℕ) → dot (bit_xor k (2 ^ i)) (get_or cs a 0) ≡ differ (bit a (product cs k)) (bit i (get_or cs a 0))
parity_by_product cs k i a = dot_xor_l k (2 ^ i) (get_or cs a 0) ∙ ap₂ differ (sym (product-bit cs k a)) (dot-pow i (get_or cs a 0))

-- so the step by the row and the product is the step by the vector
pub row_step-col_step : (u k i : ℕ) (cs : List ℕ) → row_step u i (product cs k) cs ≡ col_step u (bit_xor k (2 ^ i)) cs
row_step-col_step u k i [] = refl
row_step-col_step u k i (c ∷ cs) =
    let p : ℕ = dot k c + 2 * product cs k in
    let l : p % 2 ≡ dot k c = omega (arith, dot_lt k c) in
    let q : p / 2 ≡ product cs k = omega (arith, dot_lt k c) in
    let d : bit_xor p (c / 2 ^ i) % 2 ≡ dot (bit_xor k (2 ^ i)) c = xor_low p (c / 2 ^ i) ∙ ap₂ differ l (sym (dot-pow i c)) ∙ sym (dot_xor_l k (2 ^ i) c) in
    ap₂ {C = List ℕ} (λ x r. flip_if x u c ∷ r) d (ap (λ (w : ℕ). row_step u i w cs) q ∙ row_step-col_step u k i cs)

-- ---- two columns exchanged first

module _ (u v : ℕ) where
  pub col_step_get_d : (cs : List ℕ) (a : ℕ) → get_or (col_step u v cs) a 0 ≡ flip_if (dot v (get_or cs a 0)) u (get_or cs a 0)
  col_step_get_d [] a = ap (λ (d : ℕ). flip_if d u 0) (sym (dot_zero_r v))
  col_step_get_d (c ∷ cs) zero = refl
  col_step_get_d (c ∷ cs) (suc a) = col_step_get_d cs a

  col_step-set : (cs : List ℕ) (a x : ℕ) → col_step u v (set cs a x) ≡ set (col_step u v cs) a (flip_if (dot v x) u x)
  col_step-set [] a x = refl
  col_step-set (c ∷ cs) zero x = refl
  col_step-set (c ∷ cs) (suc a) x = ap (λ (r : List ℕ). flip_if (dot v c) u c ∷ r) (col_step-set cs a x)

  col_step-exchange : (i j : ℕ) (cs : List ℕ) → col_step u v (exchange i j cs) ≡ exchange i j (col_step u v cs)
  col_step-exchange i j cs =
      col_step-set (set cs i (get_or cs j 0)) j (get_or cs i 0)
      ∙ ap₂ (λ (l : List ℕ) (x : ℕ). set l j x) (col_step-set cs i (get_or cs j 0) ∙ ap (set (col_step u v cs) i) (sym (col_step_get_d cs j))) (sym (col_step_get_d cs i))

-- column i stands at j then; and a product that is its bit alone goes with it
module _ (n i j k : ℕ) (cs : List ℕ) (h : length cs ≡ n) (hi : i < n) (hj : j < n) where
  abbrev once : List ℕ
  once = set cs i (get_or cs j 0)

  length-once : length once ≡ n
  length-once = length-set cs i (get_or cs j 0) ∙ h

  exchanged_at : get_or (exchange i j cs) j 0 ≡ get_or cs i 0
  exchanged_at = get_or-set_same once j (get_or cs i 0) 0 (omega (arith, length-once))

  module _ (p : product cs k ≡ 2 ^ i) where
    at : (a : ℕ) → dot k (get_or cs a 0) ≡ bit a (2 ^ i)
    at a = sym (product-bit cs k a) ∙ ap (bit a) p

    others : (a : ℕ) → (a ≡ j → ⊥) → dot k (get_or once a 0) ≡ 0
    others = by_place (λ a. (a ≡ j → ⊥) → dot k (get_or once a 0) ≡ 0) i
        (λ ne. ap (dot k) (get_or-set_same cs i (get_or cs j 0) 0 (omega arith)) ∙ at j ∙ bit-pow-other j i (λ e. ne (sym e)))
        (λ a ni ne. ap (dot k) (get_or-set_other cs i a (get_or cs j 0) 0 ni) ∙ at a ∙ bit-pow-other a i ni)

    product-exchange : product (exchange i j cs) k ≡ 2 ^ j
    product-exchange =
        product_is n k (2 ^ j) (exchange i j cs) (length-set once j (get_or cs i 0) ∙ length-once) (pow-lt hj) (λ a l.
        by_place (λ a. dot k (get_or (exchange i j cs) a 0) ≡ bit a (2 ^ j)) j
        (ap (dot k) exchanged_at ∙ at i ∙ bit-pow-same i ∙ sym (bit-pow-same j))
        (λ a ne. ap (dot k) (get_or-set_other once j a (get_or cs i 0) 0 ne) ∙ others a ne ∙ sym (bit-pow-other a j ne)) a)

    -- the vector that leaves row i: the columns exchanged first, the step for row j
    pub row_step-leaving : row_step (get_or (exchange i j cs) j 0) j (2 ^ j) (exchange i j cs) ≡ exchange i j (col_step (get_or cs i 0) (bit_xor k (2 ^ j)) cs)
    row_step-leaving =
        ap₂ (λ (u q : ℕ). row_step u j q (exchange i j cs)) exchanged_at (sym product-exchange)
        ∙ row_step-col_step (get_or cs i 0) k j (exchange i j cs) ∙ col_step-exchange (get_or cs i 0) (bit_xor k (2 ^ j)) i j cs
