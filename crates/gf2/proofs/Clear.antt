-- Solution words whose rows are 0 outside a mark: what a step keeps and what it clears; what they give to any vector, and that the
-- products of the marked rows settle them; at every width and number of words.
-- Assumes nothing.
use mathlib.Core.Path.{◌≡◌, refl, sym, ap, ap₂, ◌∙◌, subst, subst⁻¹}
use mathlib.Core.List.{List, [], ◌∷◌, map}
use Prim.Native.Nat.{ℕ, zero, suc, ◌-◌, ◌/◌, ◌%◌, ◌^◌, ◌≤◌, ◌<◌, min}
use native.Mathlib.Decide.{dec_lt}
use native.Mathlib.Omega.{arith}
use lib.Bits.{bit_xor, bit_and, differ, xor_self, and_le_r}
use lib.ListN.{length, get_or, set, replicate, length-set, get_or-eq_default, get_or-map}
use lib.Pow.{pow-lt}
use lib.Seq.{ext_get_or, get_or-set_same}
use Rattle.lists.proofs.Parts.{zero_at}
use Rattle.gf2.specs.Vectors.{bit, on, flip_if, outside, dot, product, combine, col_step, sol_step, exchange, row_in, Clear, Inverse}
use Rattle.gf2.proofs.Bit.{two, by_place, bit_zero, bit-low, bit_suc, bit_lt, bit_ext, bit_below, bit_high, xor_out, bit-pow-same, bit-pow-other, bit-pow_swap, and_low, and_half, bit_and-r, dot-pow, dot_xor_l}
use Rattle.gf2.proofs.Linear.{on_zero, product_xor, product_zero, product-bit, product_lt}
use Rattle.gf2.proofs.Lowest.{bit-outside}
use Rattle.gf2.proofs.Solutions.{product-sol_step, product_unseen, sol_step_xor}
use Rattle.gf2.proofs.Inverse.{length-col_step}
use Rattle.gf2.proofs.RowStep.{col_step_get_d}

-- bit c of row j is bit j of word c
pub row-bit : (ss : List ℕ) (j c : ℕ) → bit c (row_in ss j) ≡ bit j (get_or ss c 0)
row-bit ss j c = product-bit ss (2 ^ j) c ∙ dot-pow j (get_or ss c 0)

-- ---- the same by the words: none has a bit outside the mark

pub words-clear : (mark : ℕ) (ss : List ℕ) → ((c : ℕ) → outside (get_or ss c 0) mark ≡ 0) → Clear mark ss
words-clear mark ss f j z =
    bit_ext (row_in ss j) 0 (λ c.
    let y : bit j (get_or ss c 0) - bit j mark ≡ 0 = sym (bit-outside j (get_or ss c 0) mark) ∙ ap (bit j) (f c) ∙ bit_zero j in
    row-bit ss j c ∙ omega arith ∙ sym (bit_zero c))

pub clear-words : (mark : ℕ) (ss : List ℕ) → Clear mark ss → (c : ℕ) → outside (get_or ss c 0) mark ≡ 0
clear-words mark ss h c =
    bit_ext (outside (get_or ss c 0) mark) 0 (λ j.
    bit-outside j (get_or ss c 0) mark
    ∙ two (λ m. bit j mark ≡ m → bit j (get_or ss c 0) - m ≡ 0) (λ z. let y : bit j (get_or ss c 0) ≡ 0 = sym (row-bit ss j c) ∙ ap (bit c) (h j z) ∙ bit_zero c in omega arith) (λ z. omega (arith, bit_lt j (get_or ss c 0))) (bit j mark) (bit_lt j mark) refl
    ∙ sym (bit_zero j))

-- so no word is above the mark
pub clear_le : (mark : ℕ) (ss : List ℕ) → Clear mark ss → (c : ℕ) → get_or ss c 0 ≤ mark
clear_le mark ss h c =
    let s : ℕ = get_or ss c 0 in
    let e : s ≡ bit_and s mark = sym (xor_out s (bit_and s mark)) ∙ ap (λ (x : ℕ). bit_xor x (bit_and s mark)) (clear-words mark ss h c) in
    subst⁻¹ (λ (x : ℕ). x ≤ mark) e (and_le_r s mark)

-- words that are 0
pub clear-zeros : (r : ℕ) → Clear 0 (replicate r 0)
clear-zeros r = words-clear 0 (replicate r 0) (λ c. ap (λ (x : ℕ). outside x 0) (zero_at r c))

module _ (n mark : ℕ) (K cs ss : List ℕ) (inv : Inverse n K cs) (free : (j : ℕ) → j < n → bit j mark ≡ 0 → get_or K j 0 ≡ 2 ^ j) where
  -- ---- a step along a column

  -- outside the mark column i has its own bit alone
  own_bit : (i : ℕ) → i < n → (a : ℕ) → bit a mark ≡ 0 → dot (2 ^ a) (get_or cs i 0) ≡ bit a (2 ^ i)
  own_bit i hi a z = elim (dec_lt a n) [
    | yes l ↦ ap (λ (x : ℕ). dot x (get_or cs i 0)) (sym (free a l z)) ∙ sym (product-bit cs (get_or K a 0) i) ∙ ap (bit i) (inv.unit a l) ∙ bit-pow_swap i a
    | no g ↦ dot-pow a (get_or cs i 0) ∙ bit_high n a (get_or cs i 0) (inv.cols_lt i) (omega arith) ∙ sym (bit_high n a (2 ^ i) (pow-lt hi) (omega arith))
  ]

  -- along the column of a row that is named, free rows stay as they are
  pub clear_step : (i d : ℕ) → i < n → bit i mark ≡ 1 → Clear mark ss → Clear mark (sol_step (get_or cs i 0) d ss)
  clear_step i d hi m h a z =
      let ne : a ≡ i → ⊥ = (λ e. let o : bit a mark ≡ 1 = ap (λ (x : ℕ). bit x mark) e ∙ m in omega arith) in
      product_unseen (get_or cs i 0) d ss (2 ^ a) (own_bit i hi a z ∙ bit-pow-other a i ne) ∙ h a z

  -- the bits of row j, which is free, XORed away along its column: the other free rows are 0 already
  pub clear-row : (j : ℕ) → j < n → bit j mark ≡ 0 → ((a : ℕ) → (a ≡ j → ⊥) → bit a mark ≡ 0 → row_in ss a ≡ 0) → Clear mark (sol_step (get_or cs j 0) (row_in ss j) ss)
  clear-row j hj m h = by_place (λ a. bit a mark ≡ 0 → row_in (sol_step (get_or cs j 0) (row_in ss j) ss) a ≡ 0) j
      (λ z. product-sol_step (get_or cs j 0) (row_in ss j) ss (2 ^ j) (product_lt ss (2 ^ j)) ∙ ap (λ (d : ℕ). bit_xor (row_in ss j) (on d (row_in ss j))) (own_bit j hj j z ∙ bit-pow-same j) ∙ xor_self (row_in ss j))
      (λ a ne z. product_unseen (get_or cs j 0) (row_in ss j) ss (2 ^ a) (own_bit j hj a z ∙ bit-pow-other a j ne) ∙ h a ne z)

-- ---- a row that is freed

-- its new column is the column of the vector that leaves
pub leaving_column : (n i j k : ℕ) (cs : List ℕ) → length cs ≡ n → j < n → product cs k ≡ 2 ^ i → bit j (get_or cs i 0) ≡ 1
    → get_or (exchange i j (col_step (get_or cs i 0) (bit_xor k (2 ^ j)) cs)) j 0 ≡ get_or cs i 0
leaving_column n i j k cs h hj p b =
    let u : ℕ = get_or cs i 0 in
    let l : List ℕ = col_step u (bit_xor k (2 ^ j)) cs in
    let even : dot (bit_xor k (2 ^ j)) u ≡ 0 = dot_xor_l k (2 ^ j) u ∙ ap₂ differ (sym (product-bit cs k i) ∙ ap (bit i) p ∙ bit-pow-same i) (dot-pow j u ∙ b) in
    get_or-set_same (set l i (get_or l j 0)) j (get_or l i 0) 0 (omega (arith, length-set l i (get_or l j 0), length-col_step u (bit_xor k (2 ^ j)) cs))
    ∙ col_step_get_d u (bit_xor k (2 ^ j)) cs i ∙ ap (λ (d : ℕ). flip_if d u u) even

-- what an earlier step along that column did is undone where the row is cleared
pub step_forgotten : (u j d : ℕ) (ss : List ℕ) → bit j u ≡ 1 → d < 2 ^ length ss → sol_step u (row_in (sol_step u d ss) j) (sol_step u d ss) ≡ sol_step u (row_in ss j) ss
step_forgotten u j d ss b h =
    let row : row_in (sol_step u d ss) j ≡ bit_xor (row_in ss j) d = product-sol_step u d ss (2 ^ j) h ∙ ap (λ (e : ℕ). bit_xor (row_in ss j) (on e d)) (dot-pow j u ∙ b) in
    sol_step_xor u (row_in (sol_step u d ss) j) d ss ∙ ap (λ (x : ℕ). sol_step u x ss) (ap (λ (x : ℕ). bit_xor x d) row ∙ xor_out (row_in ss j) d)

-- ---- what the words give to any vector

-- the product of a combination is the combination of the products
pub product-combine : (ss K : List ℕ) (p : ℕ) → product ss (combine K p) ≡ combine (map (product ss) K) p
product-combine ss [] p = product_zero ss
product-combine ss (k ∷ K) p =
    product_xor ss (on (p % 2) k) (combine K (p / 2)) ∙ ap₂ bit_xor (on_in (p % 2)) (product-combine ss K (p / 2))
  where
    on_in : (d : ℕ) → product ss (on d k) ≡ on d (product ss k)
    on_in zero = product_zero ss
    on_in (suc d) = refl

-- elements that are 0 where the mark is may be left out
combine_named : (mark : ℕ) (L : List ℕ) (p : ℕ) → ((i : ℕ) → bit i mark ≡ 0 → get_or L i 0 ≡ 0) → combine L p ≡ combine L (bit_and p mark)
combine_named mark [] p h = refl
combine_named mark (x ∷ L) p h =
    ap₂ bit_xor
    (two (λ m. mark % 2 ≡ m → on (p % 2) x ≡ on (min (p % 2) m) x)
    (λ z. let e : x ≡ 0 = h 0 (bit-low mark ∙ z) in ap (on (p % 2)) e ∙ on_zero (p % 2) ∙ (let q : min (p % 2) 0 ≡ 0 = omega arith in ap (λ (d : ℕ). on d x) (sym q)))
    (λ z. let q : p % 2 ≡ min (p % 2) 1 = omega arith in ap (λ (d : ℕ). on d x) q)
    (mark % 2) (omega arith) refl
    ∙ ap (λ (d : ℕ). on d x) (sym (and_low p mark)))
    (combine_named (mark / 2) L (p / 2) (λ i z. h (suc i) (bit_suc i mark ∙ z)) ∙ ap (combine L) (sym (and_half p mark)))

-- elements chosen alike that are equal where they are chosen
pub combine-alike : (f g : ℕ → ℕ) (K : List ℕ) (p : ℕ) → ((i : ℕ) → bit i p ≡ 1 → f (get_or K i 0) ≡ g (get_or K i 0)) → combine (map f K) p ≡ combine (map g K) p
combine-alike f g [] p h = refl
combine-alike f g (k ∷ K) p h =
    ap₂ bit_xor
    (two (λ d. p % 2 ≡ d → on d (f k) ≡ on d (g k)) (λ z. refl) (λ z. h 0 (bit-low p ∙ z)) (p % 2) (omega arith) refl)
    (combine-alike f g K (p / 2) (λ i z. h (suc i) (bit_suc i p ∙ z)))

module _ (n mark : ℕ) (K cs : List ℕ) (inv : Inverse n K cs) (free : (j : ℕ) → j < n → bit j mark ≡ 0 → get_or K j 0 ≡ 2 ^ j) (hm : mark < 2 ^ n) where
  -- the XOR of the products of the marked rows in k's combination
  pub clear-combined : (ss : List ℕ) → Clear mark ss → (k : ℕ) → k < 2 ^ n → product ss k ≡ combine (map (product ss) K) (bit_and (product cs k) mark)
  clear-combined ss h k hk =
      ap (product ss) (sym (inv.back k hk)) ∙ product-combine ss K (product cs k)
      ∙ combine_named mark (map (product ss) K) (product cs k)
      (λ i z. subst (λ (d : ℕ). get_or (map (product ss) K) i d ≡ product ss (get_or K i 0)) (product_zero ss) (get_or-map (product ss) K i 0) ∙ row_zero i z)
    where
      row_zero : (i : ℕ) → bit i mark ≡ 0 → product ss (get_or K i 0) ≡ 0
      row_zero i z = elim (dec_lt i n) [
        | yes l ↦ ap (product ss) (free i l z) ∙ h i z
        | no g ↦ ap (product ss) (get_or-eq_default K 0 (let e = inv.rows in omega arith)) ∙ product_zero ss
      ]

  module _ (ss ts : List ℕ) (hs : Clear mark ss) (ht : Clear mark ts) (same : (i : ℕ) → bit i mark ≡ 1 → product ss (get_or K i 0) ≡ product ts (get_or K i 0)) where
    -- the products of the marked rows settle that of any vector
    pub combined-alike : (k : ℕ) → k < 2 ^ n → product ss k ≡ product ts k
    combined-alike k hk =
        clear-combined ss hs k hk
        ∙ combine-alike (product ss) (product ts) K (bit_and (product cs k) mark) (λ i z. same i (bit_and-r i (product cs k) mark z))
        ∙ sym (clear-combined ts ht k hk)

    -- so they settle the words
    pub words-alike : length ss ≡ length ts → ss ≡ ts
    words-alike e =
        ext_get_or 0 ss ts e (λ c l.
        bit_below n (get_or ss c 0) (get_or ts c 0) (omega (arith, clear_le mark ss hs c)) (omega (arith, clear_le mark ts ht c))
        (λ j g. sym (row-bit ss j c) ∙ ap (bit c) (combined-alike (2 ^ j) (pow-lt g)) ∙ row-bit ts j c))
