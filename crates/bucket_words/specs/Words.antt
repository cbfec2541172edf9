-- A bucket as words, at every number n of rows and r of solution words; document 01, "Layout": columns, mark, solutions, bound.
-- Assumes nothing.
use Rattle.std.specs.Prelude.{Bool, Option, is_some, option_map, unwrap_or, List, [], ◌∷◌, ◌++◌, ◌≡◌, ℕ, ◌+◌, length, get_or, take, drop}
use Rattle.bucket.specs.declared.Bucket.{Bucket}

-- how many words a bucket has: columns, mark and bound, and the solutions
abbrev pub bucket_words : ℕ → ℕ → ℕ
bucket_words n r = n + 2 + r

-- the place of its bound among them
abbrev pub bound_at : ℕ → ℕ → ℕ
bound_at n r = n + 1 + r

-- the words of a bucket
unfoldable pub words_of : Bucket → List ℕ
words_of b = b.cols ++ b.mark ∷ b.sols ++ b.bound ∷ []

-- the bucket that the first words of a list stand for
unfoldable pub bucket_from : ℕ → ℕ → List ℕ → Bucket
bucket_from n r xs = record { cols = take n xs; mark = get_or xs n 0; sols = take r (drop (n + 1) xs); bound = get_or xs (bound_at n r) 0 }

-- a bucket of n rows and r solution words
pub record Shaped (n r : ℕ) (b : Bucket) : Type 0 where
  pub cols : length b.cols ≡ n
  pub sols : length b.sols ≡ r

-- a step on the bucket of the words xs: whether it is done, and the words after it, which stay where it is not
pub record Stepped (n r : ℕ) (step : Bucket → Option Bucket) (xs : List ℕ) (done : Bool) (after : List ℕ) : Type 0 where
  pub says : done ≡ is_some (step (bucket_from n r xs))
  pub words : after ≡ unwrap_or (option_map words_of (step (bucket_from n r xs))) xs
