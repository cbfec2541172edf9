-- What a bucket answers to any vector, live or not: a fact about the plans of the live vectors alone; and what a vector that was withdrawn
-- gets. Document 02, order 6, at every width and number of solution words.
-- Assumes nothing.
use mathlib.Core.Path.{◌≡◌, sym, ap, ◌∙◌, subst, subst⁻¹}
use mathlib.Core.Bool.{true}
use mathlib.Core.List.{List, map}
use Prim.Native.Nat.{ℕ, ◌^◌, ◌<◌}
use native.Mathlib.Omega.{arith}
use lib.Bits.{bit_xor, bit_and, and_zero_r, xor_lt}
use lib.Count.{count_trailing_zeros}
use lib.ListN.{length, get_or, replicate}
use lib.Seq.{ext_get_or}
use Rattle.lists.proofs.Tests.{T→true}
use Rattle.lists.proofs.Parts.{zeros}
use Rattle.gf2.specs.Vectors.{bit, outside, product, combine, col_step, sol_step, exchange, units, row_in, Inverse}
use Rattle.gf2.proofs.Bit.{bit_zero, bit-set_lt, bit_and-r}
use Rattle.gf2.proofs.Linear.{product_lt, combine_zero, combine-pow}
use Rattle.gf2.proofs.Lowest.{tz_bit}
use Rattle.gf2.proofs.Inverse.{unique, empty, length-units, get_d_units}
use Rattle.gf2.proofs.Transpose.{transpose}
use Rattle.gf2.proofs.Chosen.{row→elem}
use Rattle.gf2.proofs.Clear.{clear_le, leaving_column, step_forgotten, clear-combined, combine-alike, words-alike}
use Rattle.bucket.specs.declared.Bucket.{Bucket}
use Rattle.bucket.specs.Bucket.{Sound, lookup, live, row_of, change_at, change, changed, withdraw_at, without}
use Rattle.bucket.specs.Answers.{live_in, combined, Forgotten}
use Rattle.bucket.proofs.Laws.{column_lowest, has_row, row-product, row_lt, row-marked, withdraw-done}
use Rattle.std.specs.Prelude.{Option, Some, option_map, unwrap_or}
use Rattle.bucket.proofs.Steps.{live_test, left-rows, withdraw-sound, withdraw-live, withdraw-others}

module _ (n : ℕ) (K : List ℕ) (b : Bucket) (s : Sound n K b) where
  -- any vector gets the XOR of the plans of the live vectors in its combination of K's rows
  pub answers-combined : (k : ℕ) → k < 2 ^ n → lookup b k ≡ combined K b k
  answers-combined = clear-combined n b.mark K b.cols s.inverse s.free s.mark_lt b.sols s.clear

  -- 0 where there is none among them
  pub answers_none : (k : ℕ) → k < 2 ^ n → live_in b k ≡ 0 → lookup b k ≡ 0
  answers_none k hk e = answers-combined k hk ∙ ap (combine (map (lookup b) K)) e ∙ combine_zero (map (lookup b) K)

  -- as in a bucket without live vectors
  pub alone_none : b.mark ≡ 0 → (k : ℕ) → live_in b k ≡ 0
  alone_none m k = ap (bit_and (product b.cols k)) m ∙ and_zero_r (product b.cols k)

  -- an occupied row is a live vector
  pub row-live : (i : ℕ) → bit i b.mark ≡ 1 → live n (get_or K i 0) b ≡ true
  row-live i m =
      live_test n K b s (get_or K i 0) (s.inverse.rows_lt i)
      ∙ T→true _ (row→elem b.mark K i (subst⁻¹ (λ (l : ℕ). i < l) s.inverse.rows (bit-set_lt n i b.mark s.mark_lt m)) m)

-- columns, mark and the plans of the live vectors settle the solution words
pub solutions-settled : (n : ℕ) (K L : List ℕ) (a b : Bucket) → Sound n K a → Sound n L b → a.cols ≡ b.cols → a.mark ≡ b.mark → length a.sols ≡ length b.sols
    → ((k : ℕ) → k < 2 ^ n → live n k a ≡ true → lookup a k ≡ lookup b k) → a.sols ≡ b.sols
solutions-settled n K L a b s t c m e same =
    words-alike n a.mark K a.cols s.inverse s.free s.mark_lt a.sols b.sols s.clear (λ j z. t.clear j (ap (bit j) (sym m) ∙ z))
    (λ i o. same (get_or K i 0) (s.inverse.rows_lt i) (row-live n K a s i o)) e

-- a bucket without live vectors is the empty one, but for its bound
pub emptied : (n r : ℕ) (K : List ℕ) (b : Bucket) → Sound n K b → length b.sols ≡ r → b.mark ≡ 0 → b ≡ record { cols = units n; mark = 0; sols = replicate r 0; bound = b.bound }
emptied n r K b s e m =
    let k : K ≡ units n = ext_get_or 0 K (units n) (s.inverse.rows ∙ sym (length-units n)) (λ j l.
    let hj : j < n = subst (λ (x : ℕ). j < x) s.inverse.rows l in
    s.free j hj (ap (bit j) m ∙ bit_zero j) ∙ sym (get_d_units n j hj)) in
    let c : b.cols ≡ units n = unique n b.cols (units n) (units n) (subst (Inverse n b.cols) k (transpose n K b.cols s.inverse)) (empty n) in
    let z : b.sols ≡ replicate r 0 = sym (zeros b.sols (λ a. omega (arith, clear_le b.mark b.sols s.clear a))) ∙ ap (λ (l : ℕ). replicate l 0) e in
    λ i. record { cols = c i; mark = m i; sols = z i; bound = b.bound }

-- ---- a vector that was withdrawn

-- the plan that it had makes no difference: given another one first, it leaves the same bucket
module _ (n : ℕ) (b : Bucket) (k q : ℕ) (h : length b.cols ≡ n) (f : (i : ℕ) → get_or b.cols i 0 < 2 ^ n) (hl : live n k b ≡ true) (hq : q < 2 ^ length b.sols) where
  abbrev row : ℕ
  row = (has_row n k b hl).0

  l : row_of n k b ≡ Some row
  l = (has_row n k b hl).1

  abbrev freed : ℕ
  freed = count_trailing_zeros n (get_or b.cols row 0)

  freed_lt : freed < n
  freed_lt = column_lowest n b.cols row k (row-product n k b l) (f row)

  old_column : get_or (exchange row freed (col_step (get_or b.cols row 0) (bit_xor k (2 ^ freed)) b.cols)) freed 0 ≡ get_or b.cols row 0
  old_column = leaving_column n row freed k b.cols h freed_lt (row-product n k b l) (tz_bit n (get_or b.cols row 0) freed_lt)

  forgotten_at : withdraw_at n row k (change_at row k q b) ≡ withdraw_at n row k b
  unfolding withdraw_at change_at
  forgotten_at =
      let u : ℕ = get_or b.cols row 0 in
      let d : ℕ = bit_xor (lookup b k) q in
      let cs : List ℕ = exchange row freed (col_step u (bit_xor k (2 ^ freed)) b.cols) in
      ap (λ (ss : List ℕ). record { cols = cs; mark = outside b.mark (2 ^ freed); sols = ss; bound = b.bound })
      (ap (λ (x : ℕ). sol_step x (row_in (sol_step u d b.sols) freed) (sol_step u d b.sols)) old_column
      ∙ step_forgotten u freed d b.sols (tz_bit n u freed_lt) (xor_lt (length b.sols) (lookup b k) q (product_lt b.sols k) hq)
      ∙ ap (λ (x : ℕ). sol_step x (row_in b.sols freed) b.sols) (sym old_column))

  changed-is : changed n k q b ≡ change_at row k q b
  unfolding change
  changed-is = ap (λ o. unwrap_or (option_map (λ i. change_at i k q b) o) b) l

  pub plan_forgotten : without n k (changed n k q b) ≡ without n k b
  unfolding row_of change_at
  plan_forgotten =
      rw (changed-is, withdraw-done n k (change_at row k q b) l, withdraw-done n k b l) forgotten_at

module _ (n : ℕ) (K : List ℕ) (b : Bucket) (s : Sound n K b) (k : ℕ) (hk : k < 2 ^ n) where
  -- k leaves row i
  forgets_at : (i : ℕ) → i < n → get_or K i 0 ≡ k → bit i b.mark ≡ 1 → Forgotten n K k b (withdraw_at n i k b)
  unfolding withdraw_at
  forgets_at i hi e m =
      let w = withdraw-sound n K b i k s hi e m in
      let kept = withdraw-others n K b i k s hi e m in
      let p : ℕ = product (withdraw_at n i k b).cols k in
      let q : ℕ = (withdraw_at n i k b).mark in
      record {
        matrix = left-rows n K b i k s hi e m;
        sound = w;
        others = withdraw-live n K b i k s hi e m;
        plans = kept;
        answer = answers-combined n _ _ w k hk
            ∙ combine-alike (lookup (withdraw_at n i k b)) (lookup b) (left-rows n K b i k s hi e m) (bit_and p q)
            (λ a z. kept a (bit_and-r a p q z));
        none = answers_none n _ _ w k hk;
      }

  pub withdrawn_forgets : live n k b ≡ true → Forgotten n K k b (without n k b)
  withdrawn_forgets l =
      let w = has_row n k b l in
      let e = w.1 in
      subst⁻¹ (λ (t : Option Bucket). Forgotten n K k b (unwrap_or t b)) (withdraw-done n k b e)
      (forgets_at w.0 (row_lt n k b e s.inverse.cols) (sym (combine-pow K w.0) ∙ ap (combine K) (sym (row-product n k b e)) ∙ s.inverse.back k hk) (row-marked n k b e))
