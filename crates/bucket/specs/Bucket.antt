-- One bucket, at every number n of rows and r of solution words; document 01, "One bucket". K is the matrix whose occupied rows are
-- the live vectors and whose free row j is the unit vector; it is not kept.
-- Assumes nothing.
use Rattle.std.specs.Prelude.{◌≡◌, Bool, cond, ◌&&◌, List, ℕ, ◌^◌, ◌<◌, ltb, eqb, get_or, replicate, Option, Some, None, option_map, unwrap_or}
use Rattle.std.specs.Int.Bits.{bit_xor, bit_or}
use Rattle.std.specs.Int.Count.{count_trailing_zeros}
use Rattle.bits.specs.Width.{width}
use Rattle.gf2.specs.Vectors.{bit, outside, product, col_step, sol_step, exchange, units, row_in, Clear, Inverse}
use Rattle.bucket.specs.declared.Bucket.{Bucket}

-- document 01's bucket: as many rows as a word has bits, 64
abbrev pub rows : ℕ
rows = width

-- and 8 solution words
abbrev pub solutions : ℕ
solutions = 8

-- the bound of an empty bucket: a bound is 0 to this
abbrev pub largest_bound : ℕ
largest_bound = 8

-- column i is 2 ^ i, mark and solutions 0
unfoldable pub empty_bucket : ℕ → ℕ → Bucket
empty_bucket n r = record { cols = units n; mark = 0; sols = replicate r 0; bound = largest_bound }

-- the lowest set bit of x, an n-bit number; none where x is 0
abbrev pub lowest : ℕ → ℕ → Option ℕ
lowest n x =
    let i : ℕ = count_trailing_zeros n x in
    cond (ltb i n) (Some i) None

-- a vector whose product is p is live: p is one bit, and the mark has that row
abbrev pub live_by : ℕ → ℕ → ℕ → Bool
live_by n p mark =
    let i : ℕ = count_trailing_zeros n p in
    eqb p (2 ^ i) && eqb (bit i mark) 1

-- its row, if it is live
abbrev pub row_by : ℕ → ℕ → ℕ → Option ℕ
row_by n p mark = cond (live_by n p mark) (Some (count_trailing_zeros n p)) None

-- k is live: its product is one bit, and that row is occupied
unfoldable pub live : ℕ → ℕ → Bucket → Bool
live n k b = live_by n (product b.cols k) b.mark

-- the row of k, if it is live
unfoldable pub row_of : ℕ → ℕ → Bucket → Option ℕ
row_of n k b = row_by n (product b.cols k) b.mark

-- bit c of the plan is the parity of (k AND solution word c)
abbrev pub lookup : Bucket → ℕ → ℕ
lookup b k = product b.sols k

-- the lowest free row whose product bit is 1; where there is none, k depends on the live vectors
abbrev pub free_row : ℕ → ℕ → Bucket → Option ℕ
free_row n k b = lowest n (outside (product b.cols k) b.mark)

-- k goes to row i: the step on the columns with u = column i and v = k XOR 2 ^ i, mark bit i is set, and the new column i is XORed
-- into each solution word whose bit is set in the old plan XOR the new one
unfoldable pub add_at : ℕ → ℕ → ℕ → Bucket → Bucket
add_at i k plan b =
    let cs : List ℕ = col_step (get_or b.cols i 0) (bit_xor k (2 ^ i)) b.cols in
    record {
      cols = cs;
      mark = bit_or b.mark (2 ^ i);
      sols = sol_step (get_or cs i 0) (bit_xor (lookup b k) plan) b.sols;
      bound = b.bound;
    }

-- add k with its plan; none where k depends
unfoldable pub add : ℕ → ℕ → ℕ → Bucket → Option Bucket
add n k plan b = option_map (λ i. add_at i k plan b) (free_row n k b)

-- k, in row i, gets this plan: the solution step alone, on k's column
unfoldable pub change_at : ℕ → ℕ → ℕ → Bucket → Bucket
change_at i k plan b = record {
  cols = b.cols;
  mark = b.mark;
  sols = sol_step (get_or b.cols i 0) (bit_xor (lookup b k) plan) b.sols;
  bound = b.bound;
}

-- change the plan of k; none where k is not live
unfoldable pub change : ℕ → ℕ → ℕ → Bucket → Option Bucket
change n k plan b = option_map (λ i. change_at i k plan b) (row_of n k b)

-- b with another plan for k; as it was where k is not live
abbrev pub changed : ℕ → ℕ → ℕ → Bucket → Bucket
changed n k plan b = unwrap_or (change n k plan b) b

-- k leaves row i: j is the lowest set bit of u = column i; the step on the columns with v = k XOR 2 ^ j, then columns i and j are
-- exchanged and mark bit j is cleared. Document 02, order 6: the plan bits of row j, as held in the solutions, are XORed away along the
-- new column j
unfoldable pub withdraw_at : ℕ → ℕ → ℕ → Bucket → Bucket
withdraw_at n i k b =
    let u : ℕ = get_or b.cols i 0 in
    let j : ℕ = count_trailing_zeros n u in
    let cs : List ℕ = exchange i j (col_step u (bit_xor k (2 ^ j)) b.cols) in
    record {
      cols = cs;
      mark = outside b.mark (2 ^ j);
      sols = sol_step (get_or cs j 0) (row_in b.sols j) b.sols;
      bound = b.bound;
    }

-- withdraw k; none where k is not live
unfoldable pub withdraw : ℕ → ℕ → Bucket → Option Bucket
withdraw n k b = option_map (λ i. withdraw_at n i k b) (row_of n k b)

-- b without k; as it was where k is not live
abbrev pub without : ℕ → ℕ → Bucket → Bucket
without n k b = unwrap_or (withdraw n k b) b

-- what holds of a bucket whose matrix is K: its columns are K's inverse, the free rows of K are units, and row j of Z, the matrix of the
-- solutions, is 0 for each free row j (document 02, order 6)
pub record Sound (n : ℕ) (K : List ℕ) (b : Bucket) : Type 0 where
  pub inverse : Inverse n K b.cols
  pub free : (j : ℕ) → j < n → bit j b.mark ≡ 0 → get_or K j 0 ≡ 2 ^ j
  pub mark_lt : b.mark < 2 ^ n
  pub clear : Clear b.mark b.sols
