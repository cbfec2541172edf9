-- An add and a withdrawal on the words of a bucket: what is stored is the bucket after the step; at every number n of rows and r of solution words.
-- Assumes nothing.
use Prim.Native.Nat.{ℕ, ◌+◌, ◌^◌, ◌<◌}
use mathlib.Core.Path.{◌≡◌, sym, ap, ◌∙◌}
use mathlib.Core.Bool.{Bool}
use mathlib.Core.List.{List}
use native.Mathlib.Omega.{arith}
use lib.Bits.{bit_xor, bit_or}
use lib.Count.{count_trailing_zeros}
use lib.ListN.{length, get_or, set, take, drop, length-set}
use Rattle.gf2.specs.Vectors.{outside, product, col_step, row_step, sol_step, exchange, row_in}
use Rattle.gf2.proofs.Loops.{length-sol_step}
use Rattle.gf2.proofs.Inverse.{length-col_step}
use Rattle.bucket.specs.declared.Bucket.{Bucket}
use Rattle.std.specs.Prelude.{Option, Some, None, option_map, unwrap_or}
use Rattle.bucket.specs.Bucket.{row_of, add_at, withdraw_at, withdraw, without}
use Rattle.bucket.proofs.Laws.{add_cols, withdraw_cols}
use Rattle.bucket_words.specs.Words.{bucket_words, words_of, bucket_from, Shaped, Stepped}
use Rattle.bucket_words.proofs.Words.{words-bucket, words-all, from-shaped}

-- k, whose product is p, goes to row i: the columns cs, the bit x, the plan d as it was and the solutions ss make the bucket after the step
pub added_is : (n r : ℕ) (t : List ℕ) (k p plan i : ℕ) → p ≡ product (bucket_from n r t).cols k → {cs ss : List ℕ} {x d : ℕ}
    → cs ≡ row_step (get_or (take n t) i 0) i p (take n t) → x ≡ 2 ^ i → d ≡ product (take r (drop (n + 1) t)) k → ss ≡ sol_step (get_or cs i 0) (bit_xor d plan) (take r (drop (n + 1) t))
    → record { cols = cs; mark = bit_or (get_or t n 0) x; sols = ss; bound = get_or t (n + 1 + r) 0 } ≡ add_at i k plan (bucket_from n r t)
unfolding add_at bucket_from
added_is n r t k p plan i e q y w z = let c = q ∙ add_cols k p plan i (bucket_from n r t) e in rw (z, w, c, y)

-- ---- withdraw

length-exchange : (i j : ℕ) (l : List ℕ) → length (exchange i j l) ≡ length l
length-exchange i j l = length-set (set l i (get_or l j 0)) j (get_or l i 0) ∙ length-set l i (get_or l j 0)

pub withdrawn_shaped : (n r i k : ℕ) (b : Bucket) → Shaped n r b → Shaped n r (withdraw_at n i k b)
unfolding withdraw_at
withdrawn_shaped n r i k b h =
    let u : ℕ = get_or b.cols i 0 in
    let v : ℕ = bit_xor k (2 ^ count_trailing_zeros n u) in
    record { cols = length-exchange i (count_trailing_zeros n u) (col_step u v b.cols) ∙ length-col_step u v b.cols ∙ h.cols; sols = length-sol_step _ _ b.sols ∙ h.sols }

-- k leaves row i, and row j is freed: the columns cs, the bit x, the row d of the solutions as it was and the solutions ss make the bucket after the step
pub withdrawn_is : (n r : ℕ) (t : List ℕ) → length t ≡ bucket_words n r → (k i : ℕ) → row_of n k (bucket_from n r t) ≡ Some i → (j : ℕ) → j ≡ count_trailing_zeros n (get_or (take n t) i 0) → j < n
    → {cs ss : List ℕ} {x d : ℕ} → cs ≡ row_step (get_or (exchange i j (take n t)) j 0) j (2 ^ j) (exchange i j (take n t)) → x ≡ 2 ^ j → d ≡ row_in (take r (drop (n + 1) t)) j
    → ss ≡ sol_step (get_or cs j 0) d (take r (drop (n + 1) t))
    → record { cols = cs; mark = outside (get_or t n 0) x; sols = ss; bound = get_or t (n + 1 + r) 0 } ≡ withdraw_at n i k (bucket_from n r t)
unfolding withdraw_at bucket_from
withdrawn_is n r t ht k i e j q hj c y w z =
    let f = c ∙ withdraw_cols n k (bucket_from n r t) e (from-shaped n r t (omega (arith, ht))).cols j q hj in
    rw (z, w, f, y, q)

-- the words after a withdrawal, done or not, and the bucket that they stand for
module _ (n r k : ℕ) (xs : List ℕ) (h : length xs ≡ bucket_words n r) {done : Bool} {after : List ℕ} (g : Stepped n r (withdraw n k) xs done after) where
  abbrev here : Bucket
  here = bucket_from n r xs

  whole : Shaped n r here
  whole = from-shaped n r xs (omega (arith, h))

  pub withdrawn_all : after ≡ words_of (without n k here)
  withdrawn_all = go (withdraw n k here) g.words
    where
      go : (o : Option Bucket) → after ≡ unwrap_or (option_map words_of o) xs → after ≡ words_of (unwrap_or o here)
      go None w = w ∙ sym (words-all n r xs h)
      go (Some b) w = w

  after-shaped : Shaped n r (without n k here)
  unfolding withdraw
  after-shaped = go (row_of n k here)
    where
      go : (o : Option ℕ) → Shaped n r (unwrap_or (option_map (λ i. withdraw_at n i k here) o) here)
      go None = whole
      go (Some i) = withdrawn_shaped n r i k here whole

  pub withdrawn_bucket : bucket_from n r after ≡ without n k here
  withdrawn_bucket = ap (bucket_from n r) withdrawn_all ∙ words-bucket n r _ after-shaped
