-- What the code of the steps asks for of any bucket, sound or not: an add and a withdrawal by product and row; the row tells
-- whether k is live, and a live k's column is not 0.
-- Assumes nothing.
use mathlib.Core.Path.{◌≡◌, refl, sym, ap, ap₂, ◌∙◌, subst}
use mathlib.Core.Bool.{true, false, true≢false}
use mathlib.Core.List.{List}
use Prim.Native.Nat.{ℕ, ◌^◌, ◌<◌}
use native.Mathlib.Omega.{arith}
use lib.Bits.{bit_xor}
use lib.Pow.{pow_pos}
use lib.Count.{count_trailing_zeros}
use lib.Dec.{eqb, eqb→eq}
use lib.ListN.{length, get_or}
use borrow.Author.Tests.{lt-ltb}
use Rattle.std.proofs.lemmas.Option.{cond_some, none-some}
use Rattle.std.specs.Prelude.{Option, Some, None, is_some, option_map, unwrap_or}
use Rattle.lists.proofs.Tests.{cases, cond_true, cond_false, true→T, and_l, and_r}
use Rattle.gf2.specs.Vectors.{bit, outside, dot, product, col_step, row_step, exchange}
use Rattle.gf2.proofs.Bit.{bit-pow-same, dot_zero_r}
use Rattle.gf2.proofs.Linear.{product-bit, product_lt}
use Rattle.gf2.proofs.RowStep.{row_step-col_step, row_step-leaving}
use Rattle.gf2.proofs.Lowest.{tz_lt}
use Rattle.bucket.specs.declared.Bucket.{Bucket}
use Rattle.bucket.specs.Bucket.{lowest, live_by, row_by, live, row_of, free_row, add_at, add, withdraw_at, withdraw}

-- a column that has a bit of a product has a lowest bit
pub column_lowest : (n : ℕ) (cs : List ℕ) (i k : ℕ) → product cs k ≡ 2 ^ i → get_or cs i 0 < 2 ^ n → count_trailing_zeros n (get_or cs i 0) < n
column_lowest n cs i k p f =
    tz_lt n (get_or cs i 0) f
    (λ z. let o : ◌≡◌ {A = ℕ} 1 0 = sym (bit-pow-same i) ∙ ap (bit i) (sym p) ∙ product-bit cs k i ∙ ap (dot k) z ∙ dot_zero_r k in omega arith)

-- ---- the lowest set bit

-- what a step that was made left, and one that was not
pub some_of : {A : Type 0} (o : Option A) (d : A) → is_some o ≡ true → o ≡ Some (unwrap_or o d)
some_of None d e = absurd (true≢false (sym e))
some_of (Some x) d e = refl

pub none_of : {A : Type 0} (o : Option A) → is_some o ≡ false → o ≡ None
none_of None e = refl
none_of (Some x) e = absurd (true≢false e)

module _ (n x : ℕ) where
  abbrev first : ℕ
  first = count_trailing_zeros n x

  pub some-lowest : first < n → lowest n x ≡ Some first
  some-lowest h = cond_true (Some first) None (lt-ltb first n h)

-- ---- add, by the product p of k

module _ (n k p plan : ℕ) (b : Bucket) (e : p ≡ product b.cols k) {o : Option ℕ} (q : o ≡ lowest n (outside p b.mark)) where
  -- by the row that there is
  pub add-by : add n k plan b ≡ option_map (λ i. add_at i k plan b) o
  unfolding add
  add-by = ap (option_map (λ i. add_at i k plan b)) (ap (λ (x : ℕ). lowest n (outside x b.mark)) (sym e) ∙ sym q)

-- by the columns and the mark alone
pub still_depends : (n k plan : ℕ) (b c : Bucket) → b.cols ≡ c.cols → b.mark ≡ c.mark → add n k plan b ≡ None → add n k plan c ≡ None
unfolding add
still_depends n k plan b c p q e =
    ap (option_map (λ i. add_at i k plan c))
    (ap₂ (λ (cs : List ℕ) (m : ℕ). lowest n (outside (product cs k) m)) (sym p) (sym q) ∙ none (free_row n k b) e)
  where
    none : (o : Option ℕ) → option_map (λ i. add_at i k plan b) o ≡ None → o ≡ None
    none None f = refl
    none (Some i) f = absurd (none-some _ (sym f))

-- the columns then
pub add_cols : (k p plan i : ℕ) (b : Bucket) → p ≡ product b.cols k → row_step (get_or b.cols i 0) i p b.cols ≡ (add_at i k plan b).cols
unfolding add_at
add_cols k p plan i b e = ap (λ (x : ℕ). row_step (get_or b.cols i 0) i x b.cols) e ∙ row_step-col_step (get_or b.cols i 0) k i b.cols

-- ---- the row of a live vector

-- the row of k, by its product
pub row-by : (n k : ℕ) (b : Bucket) → row_by n (product b.cols k) b.mark ≡ row_of n k b
unfolding live row_of
row-by n k b = refl

-- k is live exactly when it has a row
pub live-row : (n k : ℕ) (b : Bucket) → live n k b ≡ is_some (row_of n k b)
unfolding live row_of
live-row n k b = cases (live_by n (product b.cols k) b.mark) (λ e. rw e) (λ e. rw e)

pub has_row : (n k : ℕ) (b : Bucket) → live n k b ≡ true → (i : ℕ) × (row_of n k b ≡ Some i)
unfolding live row_of
has_row n k b e = (count_trailing_zeros n (product b.cols k), cond_true (Some (count_trailing_zeros n (product b.cols k))) None e)

pub no_row : (n k : ℕ) (b : Bucket) → live n k b ≡ false → row_of n k b ≡ None
unfolding live row_of
no_row n k b e = cond_false (Some (count_trailing_zeros n (product b.cols k))) None e

-- the row i of a live k
module _ (n k : ℕ) (b : Bucket) {i : ℕ} (hr : row_of n k b ≡ Some i) where
  row-live : live n k b ≡ true
  row-live = live-row n k b ∙ ap is_some hr

  row-first : count_trailing_zeros n (product b.cols k) ≡ i
  unfolding live row_of
  row-first = (cond_some _ _ _ hr).1

  -- its product is the one bit of its row
  pub row-product : product b.cols k ≡ 2 ^ i
  unfolding live row_of
  row-product =
      let p : ℕ = product b.cols k in
      let j : ℕ = count_trailing_zeros n p in
      eqb→eq p (2 ^ j) (and_l (eqb p (2 ^ j)) (eqb (bit j b.mark) 1) (true→T row-live)) ∙ ap (λ (x : ℕ). 2 ^ x) row-first

  pub row_lt : length b.cols ≡ n → i < n
  row_lt h =
      let p : ℕ = product b.cols k in
      subst (λ (x : ℕ). x < n) row-first
      (tz_lt n p (subst (λ (l : ℕ). p < 2 ^ l) h (product_lt b.cols k)) (λ e. omega (arith, row-product, pow_pos i)))

  -- which is occupied
  pub row-marked : bit i b.mark ≡ 1
  unfolding live row_of
  row-marked =
      let p : ℕ = product b.cols k in
      let j : ℕ = count_trailing_zeros n p in
      ap (λ (x : ℕ). bit x b.mark) (sym row-first) ∙ eqb→eq (bit j b.mark) 1 (and_r (eqb p (2 ^ j)) (eqb (bit j b.mark) 1) (true→T row-live))

  -- its column has a lowest bit
  pub freed_lt : get_or b.cols i 0 < 2 ^ n → count_trailing_zeros n (get_or b.cols i 0) < n
  freed_lt f = column_lowest n b.cols i k row-product f

  -- ---- withdraw, by the row i of k

  pub withdraw-done : withdraw n k b ≡ Some (withdraw_at n i k b)
  unfolding withdraw
  withdraw-done = ap (option_map (λ j. withdraw_at n j k b)) hr

  -- the columns then: j is the row freed. Columns i and j are exchanged first, and k's product is bit j
  pub withdraw_cols : length b.cols ≡ n → (j : ℕ) → j ≡ count_trailing_zeros n (get_or b.cols i 0) → j < n
      → row_step (get_or (exchange i j b.cols) j 0) j (2 ^ j) (exchange i j b.cols) ≡ (withdraw_at n i k b).cols
  unfolding withdraw_at
  withdraw_cols h j q m =
      row_step-leaving n i j k b.cols h (row_lt h) m row-product
      ∙ ap (λ (x : ℕ). exchange i x (col_step (get_or b.cols i 0) (bit_xor k (2 ^ x)) b.cols)) q

pub withdraw_none : (n k : ℕ) (b : Bucket) → row_of n k b ≡ None → withdraw n k b ≡ None
unfolding withdraw
withdraw_none n k b e = ap (option_map (λ i. withdraw_at n i k b)) e
