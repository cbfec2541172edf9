-- The elimination finds the rows exactly where there are any, at every width.
-- Assumes nothing.
use mathlib.Core.Path.{◌≡◌, refl, sym, ap, ap₂, ◌∙◌, subst}
use mathlib.Core.Logic.{◌⊎◌, inl, inr}
use mathlib.Core.Bool.{Bool, true, false, cond, ◌&&◌}
use Rattle.std.specs.Prelude.{Option, Some, None, MatchOption}
use mathlib.Core.List.Permᴰ
use mathlib.Core.List.{List, [], ◌∷◌, Permᴰ}
use Prim.Native.Nat.{ℕ, zero, suc, ◌-◌, ◌^◌, ◌≤◌, ◌<◌}
use native.Mathlib.Nat.{le_refl, not-suc-le-zero}
use native.Mathlib.Decide.{dec_lt}
use native.Mathlib.Omega.{arith}
use borrow.Author.Tests.{lt-ltb, le-ltb}
use lib.Bits.{bit_xor, bit_and, bit_or, xor_comm, or_lt}
use lib.Count.{count_trailing_zeros}
use lib.Dec.{T, T_not, ltb}
use lib.Pow.{pow-lt, pow_pos}
use lib.ListN.{length, get_or, set, take}
use lib.Seq.{take-suc, take_all, ext_get_or, get_or-set_same, get_or-set_other}
use Rattle.lists.proofs.Tests.{and_r, eq_T}
use Rattle.lists.proofs.Parts.{take-sub}
use Rattle.lists.proofs.Keep.{sub_same, perm_length}
use Rattle.gf2.specs.Vectors.{bit, on, flip_if, outside, product, combine, col_step, sol_step, units, Inverse}
use Rattle.gf2.specs.Select.{elem, sums, indep, chosen}
use Rattle.gf2.proofs.Bit.{by_place, bit_lt, bit-pow-same, xor_cancel}
use Rattle.gf2.proofs.Linear.{flip_on, product_xor, product-bit, product_lt, combine-pow}
use Rattle.gf2.proofs.Inverse.{replace_row, product-units, empty}
use Rattle.gf2.proofs.Lowest.{bit-or, bit-outside, outside_lt, tz_pow}
use Rattle.gf2.proofs.Chosen.{chosen_none, chosen-sub, chosen-add}
use Rattle.gf2.proofs.Solutions.{col_step-product, product-col_step}
use Rattle.gf2.proofs.Select.{indep_cons, indep_subᴰ, indep_permᴰ, sums_permᴰ}
use Rattle.gf2.proofs.Depend.{depends_test}
use Rattle.gf2.proofs.Invert.{units-indep, invertible, rows_read}
use Rattle.bucket_rows.specs.Elimination.{clear_from, pick, Work, row_at, step_at, after, placed, ordered, eliminated}
use Rattle.bucket_rows.proofs.Laws.{length-clear_from, clear_from-before, clear_from-at, length-ordered, get_d_ordered, pick-bit, pick_none}

-- what is to be known of an answer: the rows are found exactly where there are any
abbrev pub Found : ℕ → List ℕ → Option (List ℕ) → Type 0
Found n cs r = MatchOption r ((K : List ℕ) → Inverse n K cs → ⊥) (λ K. Inverse n K cs)

-- the products of the rows with the columns are the units
abbrev Units : ℕ → List ℕ → List ℕ → Type 0
Units n K cs = (i : ℕ) → i < n → product cs (get_or K i 0) ≡ 2 ^ i

-- ---- what holds after j columns

-- column k stands in a row
record Stands (cs R P : List ℕ) (mark n k : ℕ) : Type 0 where
  row : ℕ
  row_lt : row < n
  prod : get_or P k 0 ≡ 2 ^ row
  at : get_or R row 0 ≡ get_or cs k 0
  taken : bit row mark ≡ 1

-- the duals are the columns to the rows; the columns passed stand in the rows taken, and the others have their products
record Good (n : ℕ) (cs : List ℕ) (j : ℕ) (s : Work) : Type 0 where
  rows : List ℕ
  inverse : Inverse n rows s.duals
  prods_length : length s.prods ≡ n
  todo : (k : ℕ) → j ≤ k → k < n → get_or s.prods k 0 ≡ product s.duals (get_or cs k 0)
  done : (k : ℕ) → k < j → Stands cs rows s.prods s.mark n k
  mark_lt : s.mark < 2 ^ n
  perm : Permᴰ (chosen s.mark rows) (take j cs)

module _ (n : ℕ) (cs : List ℕ) (hl : length cs ≡ n) (hc : (i : ℕ) → get_or cs i 0 < 2 ^ n) where
  start : Good n cs 0 (after n cs 0)
  unfolding after
  start = record {
    rows = units n;
    inverse = empty n;
    prods_length = hl;
    todo = λ k h l. sym (product-units n (get_or cs k 0) (hc k));
    done = λ k h. absurd (not-suc-le-zero h);
    mark_lt = pow_pos n;
    perm = subst (λ (l : List ℕ). Permᴰ l []) (sym (chosen_none (units n))) Permᴰ.nil;
  }

  module _ (j p : ℕ) (s : Work) (g : Good n cs j s) (hj : j < n) (hp : p < n) (hb : bit p (outside (get_or s.prods j 0) s.mark) ≡ 1) where
    abbrev x : ℕ
    x = get_or s.prods j 0

    abbrev m : ℕ
    m = get_or cs j 0

    abbrev w : ℕ
    w = bit_xor (get_or s.prods j 0) (2 ^ p)

    abbrev u : ℕ
    u = get_or s.duals p 0

    abbrev v : ℕ
    v = bit_xor (get_or g.rows p 0) (get_or cs j 0)

    bits : bit p x - bit p s.mark ≡ 1
    bits = sym (bit-outside p x s.mark) ∙ hb

    x-bit : bit p x ≡ 1
    x-bit = omega (arith, bits, bit_lt p x)

    free : bit p s.mark ≡ 0
    free = omega (arith, bits, bit_lt p x)

    x_is : x ≡ product s.duals m
    x_is = g.todo j (le_refl j) hj

    w_is : product s.duals v ≡ w
    w_is = product_xor s.duals (get_or g.rows p 0) m ∙ ap₂ bit_xor (g.inverse.unit p hp) (sym x_is) ∙ xor_comm (2 ^ p) x

    duals_is : col_step u v s.duals ≡ sol_step u w s.duals
    duals_is = col_step-product u v s.duals ∙ ap (λ (y : ℕ). sol_step u y s.duals) w_is

    inverse_after : Inverse n (set g.rows p m) (sol_step u w s.duals)
    inverse_after =
        subst (λ (d : List ℕ). Inverse n (set g.rows p m) d) duals_is
        (replace_row n g.rows s.duals p m g.inverse hp (hc j) (ap (bit p) (sym x_is) ∙ x-bit))

    todo_after : (k : ℕ) → suc j ≤ k → k < n → get_or (clear_from j p w s.prods) k 0 ≡ product (sol_step u w s.duals) (get_or cs k 0)
    todo_after k h l =
        let c : ℕ = get_or cs k 0 in
        clear_from-at j p w s.prods k (omega arith) (omega (arith, g.prods_length))
        ∙ flip_on (bit p (get_or s.prods k 0)) w (get_or s.prods k 0)
        ∙ ap (λ (y : ℕ). bit_xor y (on (bit p y) w)) (g.todo k (omega arith) l)
        ∙ ap₂ (λ (d y : ℕ). bit_xor (product s.duals c) (on d y)) (product-bit s.duals c p) (sym w_is)
        ∙ sym (product-col_step u v s.duals c)
        ∙ ap (λ (d : List ℕ). product d c) duals_is

    other : (a : ℕ) → bit a s.mark ≡ 1 → a ≡ p → ⊥
    other a h e = let z : bit p s.mark ≡ 1 = subst (λ (a : ℕ). bit a s.mark ≡ 1) e h in omega (arith, free)

    abbrev Stands-after : ℕ → Type 0
    Stands-after k = Stands cs (set g.rows p m) (clear_from j p w s.prods) (bit_or s.mark (2 ^ p)) n k

    here : Stands-after j
    here = record {
      row = p;
      row_lt = hp;
      prod = clear_from-at j p w s.prods j (le_refl j) (omega (arith, g.prods_length)) ∙ ap (λ (d : ℕ). flip_if d w x) x-bit ∙ xor_cancel x (2 ^ p);
      at = get_or-set_same g.rows p m 0 (omega (arith, g.inverse.rows));
      taken = bit-or p s.mark (2 ^ p) ∙ omega (arith, bit-pow-same p, bit_lt p s.mark);
    }

    others : (k : ℕ) → (k ≡ j → ⊥) → k < suc j → Stands-after k
    others k ne h =
        let d = g.done k (omega arith) in
        record {
          row = d.row;
          row_lt = d.row_lt;
          prod = clear_from-before j p w s.prods k (omega arith) ∙ d.prod;
          at = get_or-set_other g.rows p d.row m 0 (other d.row d.taken) ∙ d.at;
          taken = bit-or d.row s.mark (2 ^ p) ∙ omega (arith, d.taken, bit_lt d.row (2 ^ p));
        }

    perm_after : Permᴰ (chosen (bit_or s.mark (2 ^ p)) (set g.rows p m)) (take (suc j) cs)
    perm_after =
        subst (λ (l : List ℕ). Permᴰ (chosen (bit_or s.mark (2 ^ p)) (set g.rows p m)) l) (sym (take-suc cs j 0 (omega (arith, hl))))
        (Permᴰ.trans (chosen-add g.rows p s.mark m (omega (arith, g.inverse.rows)) free)
        (Permᴰ.trans (Permᴰ.cons refl g.perm) (Permᴰ.append_comm (m ∷ []) (take j cs))))

    step : Good n cs (suc j) (step_at j p s)
    unfolding step_at
    step = record {
      rows = set g.rows p m;
      inverse = inverse_after;
      prods_length = length-clear_from j p w s.prods ∙ g.prods_length;
      todo = todo_after;
      done = by_place (λ k. k < suc j → Stands-after k) j (λ h. here) others;
      mark_lt = or_lt n s.mark (2 ^ p) g.mark_lt (pow-lt hp);
      perm = perm_after;
    }

  -- a column without a row is a sum of columns before it: no rows have the units as products
  refuse : (j : ℕ) (s : Work) → Good n cs j s → j < n → (row_at n j s < n → ⊥) → (K : List ℕ) → Units n K cs → ⊥
  unfolding row_at
  refuse j s g hj none K un = T_not (elem c (sums before)) (and_r (indep before) _ (subst T (indep_cons c before) apart)) sum
    where
      c : ℕ
      c = get_or cs j 0

      before : List ℕ
      before = take j cs

      q : ℕ
      q = product s.duals c

      within : bit_and q s.mark ≡ q
      within =
          let h : q < 2 ^ n = subst (λ (l : ℕ). q < 2 ^ l) g.inverse.cols (product_lt s.duals c) in
          let z : outside q s.mark ≡ 0 =
          pick_none n j (outside q s.mark) hj (outside_lt n q s.mark h g.mark_lt)
          (subst (λ (y : ℕ). pick n j (outside y s.mark) < n → ⊥) (g.todo j (le_refl j) hj) none) in
          sym (xor_cancel q (bit_and q s.mark)) ∙ ap (bit_xor q) z ∙ xor_comm q 0

      sum : T (elem c (sums before))
      sum = subst T (sums_permᴰ g.perm c) (subst T (sym (depends_test n g.rows s.duals g.inverse s.mark c (hc j))) (eq_T within))

      apart : T (indep (c ∷ before))
      apart =
          subst T (sym (indep_permᴰ (Permᴰ.append_comm (c ∷ []) before)))
          (subst (λ (l : List ℕ). T (indep l)) (take-suc cs j 0 (omega (arith, hl))) (indep_subᴰ (take-sub (suc j) cs) (units-indep n K cs hl un)))

  finish : (s : Work) → Good n cs n s → Inverse n (ordered n s.duals s.prods) cs
  finish s g = subst (λ (l : List ℕ). Inverse n l cs) same k.1
    where
      whole : take n cs ≡ cs
      whole = take_all n cs (omega (arith, hl))

      full : chosen s.mark g.rows ≡ g.rows
      full = sub_same (chosen-sub s.mark g.rows) (perm_length g.perm ∙ ap length whole ∙ hl ∙ sym g.inverse.rows)

      perm : Permᴰ g.rows cs
      perm = subst (λ (l : List ℕ). Permᴰ l cs) full (subst (λ (l : List ℕ). Permᴰ (chosen s.mark g.rows) l) whole g.perm)

      k : (K : List ℕ) × Inverse n K cs
      k = invertible n g.rows s.duals cs g.inverse perm

      ρ : ℕ → ℕ
      ρ i = count_trailing_zeros n (get_or s.prods i 0)

      ρ_is : (i : ℕ) (h : i < n) → ρ i ≡ (g.done i h).row
      ρ_is i h = ap (count_trailing_zeros n) (g.done i h).prod ∙ tz_pow n (g.done i h).row (g.done i h).row_lt

      at : (i : ℕ) → i < n → (ρ i < n) × (get_or g.rows (ρ i) 0 ≡ get_or cs i 0)
      at i h =
          let d = g.done i h in
          (subst (λ (y : ℕ). y < n) (sym (ρ_is i h)) d.row_lt, ap (λ (y : ℕ). get_or g.rows y 0) (ρ_is i h) ∙ d.at)

      same : k.0 ≡ ordered n s.duals s.prods
      same =
          ext_get_or 0 k.0 (ordered n s.duals s.prods) (k.1.rows ∙ sym g.prods_length ∙ sym (length-ordered n s.duals s.prods))
          (λ i h.
          let l : i < n = subst (λ (y : ℕ). i < y) k.1.rows h in
          rows_read n k.0 cs g.rows s.duals k.1 g.inverse ρ at i l
          ∙ sym (get_d_ordered n s.duals s.prods i (subst (λ (y : ℕ). i < y) (sym g.prods_length) l)))

  abbrev Run : ℕ → Type 0
  Run j = ((placed n cs j ≡ true) × Good n cs j (after n cs j)) ⊎ ((placed n cs j ≡ false) × ((K : List ℕ) → Units n K cs → ⊥))

  more : (j : ℕ) → j < n → Run j → Dec (row_at n j (after n cs j) < n) → Run (suc j)
  unfolding placed after row_at
  more j h (inr t) d = inr (ap (λ (b : Bool). b && ltb (row_at n j (after n cs j)) n) t.0, t.1)
  more j h (inl t) (yes l) =
      inl (rw (t.0, lt-ltb (row_at n j (after n cs j)) n l), step j (row_at n j (after n cs j)) (after n cs j) t.1 h l (pick-bit n j _ l))
  more j h (inl t) (no f) = inr (rw (t.0, le-ltb (row_at n j (after n cs j)) n (omega arith)), refuse j (after n cs j) t.1 h f)

  run : (j : ℕ) → j ≤ n → Run j
  unfolding placed
  run zero h = inl (refl, start)
  run (suc j) h = more j h (run j (omega arith)) (dec_lt (row_at n j (after n cs j)) n)

  -- THE MEANING of `eliminated`: the rows are found exactly where there are any
  pub decides : Found n cs (eliminated n cs)
  unfolding eliminated
  decides = go (run n (le_refl n))
    where
      go : Run n → Found n cs (cond (placed n cs n) (Some (ordered n (after n cs n).duals (after n cs n).prods)) None)
      go (inl t) = rw t.0 (finish (after n cs n) t.1)
      go (inr t) = rw t.0 (λ K inv. t.1 K inv.unit)

  -- rows whose products are the units are the rows
  pub units-found : (K : List ℕ) → length K ≡ n → ((i : ℕ) → i < n → get_or K i 0 < 2 ^ n) → Units n K cs → Some K ≡ eliminated n cs
  unfolding eliminated
  units-found K hk hb un = go (run n (le_refl n))
    where
      same : (R : List ℕ) → Inverse n R cs → K ≡ R
      same R inv =
          ext_get_or 0 K R (hk ∙ sym inv.rows)
          (λ i h.
          let l : i < n = subst (λ (m : ℕ). i < m) hk h in
          sym (inv.back (get_or K i 0) (hb i l)) ∙ ap (combine R) (un i l) ∙ combine-pow R i)

      go : Run n → Some K ≡ cond (placed n cs n) (Some (ordered n (after n cs n).duals (after n cs n).prods)) None
      go (inl t) = rw (t.0, same _ (finish (after n cs n) t.1))
      go (inr t) = absurd (t.1 K un)
