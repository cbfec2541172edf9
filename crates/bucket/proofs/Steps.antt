-- What the steps of a bucket keep, at every width and number of solution words: the columns are K's inverse, K's free rows are units and
-- those of the solutions are 0; the live vectors are the old ones and the new one, or without the one that left; a vector's plan is the one
-- last given.
-- Assumes nothing.
use mathlib.Core.Path.{◌≡◌, sym, ap, ap₂, ◌∙◌, subst, subst₂}
use mathlib.Core.Bool.{not, ◌&&◌}
use mathlib.Core.List.{List, ◌∷◌, Perm, Permᴰ}
use Prim.Native.Nat.{ℕ, ◌-◌, ◌^◌, ◌<◌, max}
use native.Mathlib.Decide.{ℕ_discrete}
use native.Mathlib.Omega.{arith}
use lib.Pow.{pow_pos, pow-lt}
use lib.Bits.{bit_xor, bit_or, xor_comm, or_lt}
use lib.Count.{count_trailing_zeros}
use lib.Dec.{T, T_not, eqb, eqb→eq, ltb, ltb→lt}
use Rattle.std.specs.Prelude.{Some, None, option_map}
use lib.ListN.{length, get_or, set, length-set}
use lib.Seq.{get_or-set_same, get_or-set_other, set-set}
use Rattle.lists.proofs.Tests.{bool_ext, cond_false, and_l, and_r, and_i, eq_T, n_t→false}
use Rattle.gf2.specs.Vectors.{bit, outside, product, combine, col_step, sol_step, exchange, row_in, Inverse, units}
use Rattle.gf2.specs.Select.{elem, sums, chosen, Within}
use Rattle.gf2.proofs.Bit.{by_place, bit_zero, bit_lt, bit-pow-same, bit-pow-other, bit-set_lt, dot-pow}
use Rattle.gf2.proofs.Linear.{product-bit, product_lt, combine-pow}
use Rattle.gf2.proofs.Inverse.{replace_row, exchange-rows, empty, get_d_units, exchange-same}
use Rattle.gf2.proofs.Lowest.{bit-or, bit-outside, outside_lt, tz_bit, tz_lt, tz_pow}
use Rattle.gf2.proofs.Chosen.{chosen-add, chosen-drop, Row, elem→row, row→elem}
use Rattle.gf2.proofs.Solutions.{plan-set, plan-kept}
use Rattle.gf2.proofs.Clear.{clear-zeros, clear_step, clear-row}
use Rattle.gf2.proofs.Depend.{depends_test, within→and, and→within}
use Rattle.bucket.specs.declared.Bucket.{Bucket}
use Rattle.bucket.specs.Bucket.{Sound, empty_bucket, lookup, live, add_at, add, withdraw_at}
use Rattle.bucket.proofs.Laws.{column_lowest, some-lowest}

-- ---- the empty bucket

pub empty_sound : (n r : ℕ) → Sound n (units n) (empty_bucket n r)
unfolding empty_bucket
empty_sound n r = record { inverse = empty n; free = λ j hj e. get_d_units n j hj; mark_lt = pow_pos n; clear = clear-zeros r }

-- ---- add

module _ (n : ℕ) (K : List ℕ) (b : Bucket) (i k plan : ℕ) (s : Sound n K b) (hi : i < n) (hk : k < 2 ^ n)
    (hm : bit i b.mark ≡ 0) (hb : bit i (product b.cols k) ≡ 1) where
  added_inverse : Inverse n (set K i k) (col_step (get_or b.cols i 0) (bit_xor k (2 ^ i)) b.cols)
  added_inverse =
      subst (λ (v : ℕ). Inverse n (set K i k) (col_step (get_or b.cols i 0) v b.cols)) (ap (λ (x : ℕ). bit_xor x k) (s.free i hi hm) ∙ xor_comm (2 ^ i) k)
      (replace_row n K b.cols i k s.inverse hi hk hb)

  -- a row that is free still is another one, and was free
  still_free : (j : ℕ) → bit j (bit_or b.mark (2 ^ i)) ≡ 0 → (j ≡ i → ⊥) × (bit j b.mark ≡ 0)
  still_free j e =
      let o : max (bit j b.mark) (bit j (2 ^ i)) ≡ 0 = sym (bit-or j b.mark (2 ^ i)) ∙ e in
      (λ (q : j ≡ i). let z : bit j (2 ^ i) ≡ 1 = subst (λ (x : ℕ). bit x (2 ^ i) ≡ 1) (sym q) (bit-pow-same i) in omega arith, omega arith)

  added_free : (j : ℕ) → j < n → bit j (bit_or b.mark (2 ^ i)) ≡ 0 → get_or (set K i k) j 0 ≡ 2 ^ j
  added_free j hj e = get_or-set_other K i j k 0 (still_free j e).0 ∙ s.free j hj (still_free j e).1

  pub add-sound : Sound n (set K i k) (add_at i k plan b)
  unfolding add_at
  add-sound = record {
    inverse = added_inverse;
    free = added_free;
    mark_lt = or_lt n b.mark (2 ^ i) s.mark_lt (pow-lt hi);
    clear = clear_step n (bit_or b.mark (2 ^ i)) (set K i k) _ b.sols added_inverse added_free i _ hi
        (bit-or i b.mark (2 ^ i) ∙ omega (arith, bit-pow-same i, bit_lt i b.mark)) (λ j z. s.clear j (still_free j z).1);
  }

  pub add-live : Permᴰ (chosen (bit_or b.mark (2 ^ i)) (set K i k)) (k ∷ chosen b.mark K)
  add-live = chosen-add K i b.mark k (subst (λ (l : ℕ). i < l) (sym s.inverse.rows) hi) hm

-- ---- withdraw

module _ (n : ℕ) (K : List ℕ) (b : Bucket) (i k : ℕ) (s : Sound n K b) (hi : i < n) (hk : get_or K i 0 ≡ k) (hm : bit i b.mark ≡ 1) where
  abbrev row-of : ℕ
  row-of = count_trailing_zeros n (get_or b.cols i 0)

  row_lt : row-of < n
  row_lt = column_lowest n b.cols i (get_or K i 0) (s.inverse.unit i hi) (s.inverse.cols_lt i)

  row-bit : bit row-of (get_or b.cols i 0) ≡ 1
  row-bit = tz_bit n (get_or b.cols i 0) row_lt

  -- what stands in row i before the exchange
  abbrev middle : List ℕ
  middle = set K i (2 ^ row-of)

  middle-i : get_or middle i 0 ≡ 2 ^ row-of
  middle-i = get_or-set_same K i (2 ^ row-of) 0 (omega (arith, s.inverse.rows))

  -- the columns and the mark afterwards
  abbrev columns : List ℕ
  columns = exchange i row-of (col_step (get_or b.cols i 0) (bit_xor k (2 ^ row-of)) b.cols)

  abbrev marked : ℕ
  marked = outside b.mark (2 ^ row-of)

  left_inverse : Inverse n (exchange i row-of middle) columns
  left_inverse =
      exchange-rows n i row-of middle _ (subst (λ (v : ℕ). Inverse n middle (col_step (get_or b.cols i 0) v b.cols)) (ap (λ (x : ℕ). bit_xor x (2 ^ row-of)) hk)
      (replace_row n K b.cols i (2 ^ row-of) s.inverse hi (pow-lt row_lt) (product-bit b.cols (2 ^ row-of) i ∙ dot-pow row-of (get_or b.cols i 0) ∙ row-bit))) hi row_lt

  -- another row that is free now was free
  was_free : (a : ℕ) → (a ≡ row-of → ⊥) → bit a marked ≡ 0 → bit a b.mark ≡ 0
  was_free a ne e = let f : bit a b.mark - bit a (2 ^ row-of) ≡ 0 = sym (bit-outside a b.mark (2 ^ row-of)) ∙ e in omega (arith, bit-pow-other a row-of ne)

  left_free : (a : ℕ) → a < n → bit a marked ≡ 0 → get_or (exchange i row-of middle) a 0 ≡ 2 ^ a
  left_free = by_place (λ a. a < n → bit a marked ≡ 0 → get_or (exchange i row-of middle) a 0 ≡ 2 ^ a) row-of
      (λ ha e. get_or-set_same (set middle i (get_or middle row-of 0)) row-of (get_or middle i 0) 0
      (omega (arith, length-set middle i (get_or middle row-of 0), length-set K i (2 ^ row-of), s.inverse.rows, row_lt)) ∙ middle-i)
      (λ a ne ha e.
      let m0 : bit a b.mark ≡ 0 = was_free a ne e in
      let ni : a ≡ i → ⊥ = (λ q. let z : bit a b.mark ≡ 1 = subst (λ (x : ℕ). bit x b.mark ≡ 1) (sym q) hm in omega arith) in
      get_or-set_other (set middle i (get_or middle row-of 0)) row-of a (get_or middle i 0) 0 ne
      ∙ get_or-set_other middle i a (get_or middle row-of 0) 0 ni ∙ get_or-set_other K i a (2 ^ row-of) 0 ni ∙ s.free a ha m0)

  -- K without k
  abbrev pub left-rows : List ℕ
  left-rows = exchange i row-of middle

  -- the freed row is a row, and free
  pub freed-row : row-of < n
  freed-row = row_lt

  pub freed-clear : bit row-of marked ≡ 0
  freed-clear = bit-outside row-of b.mark (2 ^ row-of) ∙ omega (arith, bit-pow-same row-of, bit_lt row-of b.mark)

  pub withdraw-sound : Sound n left-rows (withdraw_at n i k b)
  unfolding withdraw_at
  withdraw-sound = record {
    inverse = left_inverse;
    free = left_free;
    mark_lt = outside_lt n b.mark (2 ^ row-of) s.mark_lt (pow-lt row_lt);
    clear = clear-row n marked (exchange i row-of middle) columns b.sols left_inverse left_free row-of row_lt
        freed-clear (λ a ne z. s.clear a (was_free a ne z));
  }

  -- another row that has the bit is occupied
  row-occupied : (i ≡ row-of → ⊥) → bit row-of b.mark ≡ 1
  row-occupied ne =
      let f : bit row-of b.mark ≡ 0 → ⊥ =
      (λ e. let z : ◌≡◌ {A = ℕ} 1 0 = sym row-bit ∙ sym (dot-pow row-of (get_or b.cols i 0)) ∙ sym (product-bit b.cols (2 ^ row-of) i)
      ∙ ap (λ (x : ℕ). bit i (product b.cols x)) (sym (s.free row-of row_lt e)) ∙ ap (bit i) (s.inverse.unit row-of row_lt) ∙ bit-pow-other i row-of ne in omega arith) in
      omega (arith, bit_lt row-of b.mark)

  pub withdraw-live : Perm (chosen b.mark K) (k ∷ chosen (outside b.mark (2 ^ row-of)) (exchange i row-of middle))
  withdraw-live = pick (ℕ_discrete i row-of)
    where
      pick : Dec (i ≡ row-of) → Perm (chosen b.mark K) (k ∷ chosen (outside b.mark (2 ^ row-of)) (exchange i row-of middle))
      pick (yes e) =
          subst (λ (l : List ℕ). Perm (chosen b.mark K) (k ∷ chosen (outside b.mark (2 ^ row-of)) l))
          (sym (ap (λ (j : ℕ). exchange i j middle) (sym e) ∙ exchange-same i middle))
          (subst (λ (j : ℕ). Perm (chosen b.mark K) (k ∷ chosen (outside b.mark (2 ^ j)) (set K i (2 ^ row-of)))) e
          (subst (λ (x : ℕ). Perm (chosen b.mark K) (x ∷ chosen (outside b.mark (2 ^ i)) (set K i (2 ^ row-of)))) hk
          ∣ chosen-drop K i b.mark (2 ^ row-of) (omega (arith, s.inverse.rows)) hm ∣₁))
      pick (no ne) =
          let kj : ℕ = get_or K row-of 0 in
          let c0 : List ℕ = chosen (outside b.mark (2 ^ i)) (set K i 0) in
          let whole : exchange i row-of middle ≡ set (set K i kj) row-of (2 ^ row-of) =
          ap₂ (λ (x y : ℕ). set (set middle i x) row-of y) (get_or-set_other K i row-of (2 ^ row-of) 0 (λ e. ne (sym e))) middle-i
          ∙ ap (λ (l : List ℕ). set l row-of (2 ^ row-of)) (set-set K i (2 ^ row-of) kj) in
          let left : Perm (chosen b.mark (set K i kj)) (kj ∷ chosen (outside b.mark (2 ^ row-of)) (exchange i row-of middle)) =
          subst₂ (λ (x : ℕ) (l : List ℕ). Perm (chosen b.mark (set K i kj)) (x ∷ chosen (outside b.mark (2 ^ row-of)) l))
          (get_or-set_other K i row-of kj 0 (λ e. ne (sym e))) (sym whole)
          ∣ chosen-drop (set K i kj) row-of b.mark (2 ^ row-of) (omega (arith, length-set K i kj, s.inverse.rows, row_lt)) (row-occupied ne) ∣₁ in
          let right : Perm (chosen b.mark (set K i kj)) (kj ∷ c0) =
          subst₂ (λ (x : ℕ) (l : List ℕ). Perm (chosen b.mark (set K i kj)) (x ∷ chosen (outside b.mark (2 ^ i)) l))
          (get_or-set_same K i kj 0 (omega (arith, s.inverse.rows))) (set-set K i kj 0)
          ∣ chosen-drop (set K i kj) i b.mark 0 (omega (arith, length-set K i kj, s.inverse.rows)) hm ∣₁ in
          let own : Perm (chosen b.mark K) (k ∷ c0) =
          subst (λ (x : ℕ). Perm (chosen b.mark K) (x ∷ c0)) hk ∣ chosen-drop K i b.mark 0 (omega (arith, s.inverse.rows)) hm ∣₁ in
          mathlib.Core.List.Perm.trans own (mathlib.Core.List.Perm.cons k (mathlib.Core.List.Perm.cons_inv {a = kj} (mathlib.Core.List.Perm.trans (mathlib.Core.List.Perm.symm right) left)))

-- what a withdrawal does to the plans: the others' stay
module _ (n : ℕ) (K : List ℕ) (b : Bucket) (i k : ℕ) (s : Sound n K b) (hi : i < n) (hk : get_or K i 0 ≡ k) (hm : bit i b.mark ≡ 1) where
  pub withdraw-others : (a : ℕ) → bit a (withdraw_at n i k b).mark ≡ 1
      → lookup (withdraw_at n i k b) (get_or (left-rows n K b i k s hi hk hm) a 0) ≡ lookup b (get_or (left-rows n K b i k s hi hk hm) a 0)
  unfolding withdraw_at
  withdraw-others a m =
      let w = withdraw-sound n K b i k s hi hk hm in
      let j : ℕ = count_trailing_zeros n (get_or b.cols i 0) in
      let l : a < n = bit-set_lt n a (outside b.mark (2 ^ j)) w.mark_lt m in
      let ne : j ≡ a → ⊥ = (λ e. let z : bit a (outside b.mark (2 ^ j)) ≡ 0 = subst (λ (x : ℕ). bit x (outside b.mark (2 ^ j)) ≡ 0) e (freed-clear n K b i k s hi hk hm) in omega arith) in
      plan-kept n (left-rows n K b i k s hi hk hm) _ b.sols w.inverse j (freed-row n K b i k s hi hk hm) (row_in b.sols j) a l ne

-- ---- live

-- the test of the document: k is live exactly when its product is one bit and that row is occupied
pub live_test : (n : ℕ) (K : List ℕ) (b : Bucket) → Sound n K b → (k : ℕ) → k < 2 ^ n → live n k b ≡ elem k (chosen b.mark K)
unfolding live Row
live_test n K b s k hk = bool_ext (eqb p (2 ^ i) && eqb (bit i b.mark) 1) (elem k (chosen b.mark K)) to fro
  where
    p : ℕ
    p = product b.cols k

    i : ℕ
    i = count_trailing_zeros n p

    to : T (eqb p (2 ^ i) && eqb (bit i b.mark) 1) → T (elem k (chosen b.mark K))
    to t =
        let e : p ≡ 2 ^ i = eqb→eq p (2 ^ i) (and_l (eqb p (2 ^ i)) (eqb (bit i b.mark) 1) t) in
        let m : bit i b.mark ≡ 1 = eqb→eq (bit i b.mark) 1 (and_r (eqb p (2 ^ i)) (eqb (bit i b.mark) 1) t) in
        let row : get_or K i 0 ≡ k = sym (combine-pow K i) ∙ ap (combine K) (sym e) ∙ s.inverse.back k hk in
        let l : i < n = bit-set_lt n i b.mark s.mark_lt m in
        subst (λ (x : ℕ). T (elem x (chosen b.mark K))) row (row→elem b.mark K i (subst (λ (w : ℕ). i < w) (sym s.inverse.rows) l) m)

    fro : T (elem k (chosen b.mark K)) → T (eqb p (2 ^ i) && eqb (bit i b.mark) 1)
    fro t =
        let w = elem→row k b.mark K t in
        let l : w.0 < n = subst (λ (x : ℕ). w.0 < x) s.inverse.rows w.1 in
        let e : p ≡ 2 ^ w.0 = ap (product b.cols) (sym w.3) ∙ s.inverse.unit w.0 l in
        let q : i ≡ w.0 = ap (count_trailing_zeros n) e ∙ tz_pow n w.0 l in
        and_i (eqb p (2 ^ i)) (eqb (bit i b.mark) 1) (eq_T (e ∙ ap (λ (x : ℕ). 2 ^ x) (sym q))) (eq_T (ap (λ (x : ℕ). bit x b.mark) q ∙ w.2))

-- ---- what add does to the plans

module _ (n : ℕ) (K : List ℕ) (b : Bucket) (i k plan : ℕ) (s : Sound n K b) (hi : i < n) (hk : k < 2 ^ n)
    (hm : bit i b.mark ≡ 0) (hb : bit i (product b.cols k) ≡ 1) (hp : plan < 2 ^ length b.sols) where
  at_i : get_or (set K i k) i 0 ≡ k
  at_i = get_or-set_same K i k 0 (subst (λ (l : ℕ). i < l) (sym s.inverse.rows) hi)

  pub add-plan : lookup (add_at i k plan b) k ≡ plan
  unfolding add_at
  add-plan =
      subst (λ (x : ℕ). product (sol_step (get_or (col_step (get_or b.cols i 0) (bit_xor k (2 ^ i)) b.cols) i 0) (bit_xor (product b.sols x) plan) b.sols) x ≡ plan) at_i
      (plan-set n (set K i k) (col_step (get_or b.cols i 0) (bit_xor k (2 ^ i)) b.cols) b.sols (add-sound n K b i k plan s hi hk hm hb).inverse i hi plan hp)

  pub add-others : (a : ℕ) → a < n → (i ≡ a → ⊥) → lookup (add_at i k plan b) (get_or K a 0) ≡ lookup b (get_or K a 0)
  unfolding add_at
  add-others a ha ne =
      subst (λ (y : ℕ). product (sol_step (get_or (col_step (get_or b.cols i 0) (bit_xor k (2 ^ i)) b.cols) i 0) (bit_xor (product b.sols k) plan) b.sols) y ≡ product b.sols y)
      (get_or-set_other K i a k 0 (λ e. ne (sym e)))
      (plan-kept n (set K i k) (col_step (get_or b.cols i 0) (bit_xor k (2 ^ i)) b.cols) b.sols (add-sound n K b i k plan s hi hk hm hb).inverse i hi _ a ha ne)

-- ---- the whole add: the row that it takes, or the dependence

-- the row that add takes, and what is known of it
pub record Goes (n : ℕ) (k plan : ℕ) (b : Bucket) : Type 0 where
  pub row : ℕ
  pub row_lt : row < n
  pub was_free : bit row b.mark ≡ 0
  pub has-bit : bit row (product b.cols k) ≡ 1
  pub result : add n k plan b ≡ Some (add_at row k plan b)

module _ (n : ℕ) (K : List ℕ) (b : Bucket) (s : Sound n K b) (k plan : ℕ) (hk : k < 2 ^ n) where
  p_lt : product b.cols k < 2 ^ n
  p_lt = subst (λ (l : ℕ). product b.cols k < 2 ^ l) s.inverse.cols (product_lt b.cols k)

  -- k is a sum of live vectors: add says so
  pub add-depends : T (elem k (sums (chosen b.mark K))) → add n k plan b ≡ None
  unfolding add
  add-depends t =
      let o : ℕ = outside (product b.cols k) b.mark in
      let w : Within (product b.cols k) b.mark = and→within (product b.cols k) b.mark (eqb→eq _ _ (subst T (depends_test n K b.cols s.inverse b.mark k hk) t)) in
      ap (option_map (λ i. add_at i k plan b)) (cond_false (Some (count_trailing_zeros n o)) None
      (n_t→false (ltb (count_trailing_zeros n o) n) (λ u.
      let h : bit (count_trailing_zeros n o) o ≡ 1 = tz_bit n o (ltb→lt _ _ u) in
      let m : bit (count_trailing_zeros n o) (product b.cols k) - bit (count_trailing_zeros n o) b.mark ≡ 1 = sym (bit-outside (count_trailing_zeros n o) (product b.cols k) b.mark) ∙ h in
      let v : bit (count_trailing_zeros n o) b.mark ≡ 1 = w (count_trailing_zeros n o) (omega (arith, bit_lt (count_trailing_zeros n o) (product b.cols k))) in
      omega (arith, bit_lt (count_trailing_zeros n o) (product b.cols k)))))

  -- k is none: add finds a row
  pub add_goes : T (not (elem k (sums (chosen b.mark K)))) → Goes n k plan b
  unfolding add
  add_goes t =
      let p : ℕ = product b.cols k in
      let o : ℕ = outside p b.mark in
      let i : ℕ = count_trailing_zeros n o in
      let l : i < n = tz_lt n o (outside_lt n p b.mark p_lt s.mark_lt) (λ e. T_not (elem k (sums (chosen b.mark K))) t
      (subst T (sym (depends_test n K b.cols s.inverse b.mark k hk))
      (eq_T (within→and p b.mark (λ a h.
      let z : bit a p - bit a b.mark ≡ 0 = sym (bit-outside a p b.mark) ∙ ap (bit a) e ∙ bit_zero a in
      omega (arith, bit_lt a b.mark)))))) in
      let m : bit i p - bit i b.mark ≡ 1 = sym (bit-outside i p b.mark) ∙ tz_bit n o l in
      record {
        row = i;
        row_lt = l;
        was_free = omega (arith, bit_lt i p);
        has-bit = omega (arith, bit_lt i p);
        result = ap (option_map (λ i. add_at i k plan b)) (some-lowest n o l);
      }
