-- What a bucket of a table answers to any vector, live or not; document 02, order 6. Contracts do not cite it.
-- Assumes nothing.
use Rattle.std.specs.Prelude.{ℕ, ◌≡◌, List, get_or}
use Rattle.std.proofs.Math.Option.{Option, some}
use Rattle.gf2.specs.Vectors.{bit}
use Rattle.bucket.specs.declared.Bucket.{Bucket}
use Rattle.bucket.specs.Bucket.{Sound, lookup}
use Rattle.bucket.specs.Answers.{combined}

-- the bucket b, of n rows, gives x for the vector v: the XOR of the plans of the live vectors in v's combination of K's rows. Each occupied
-- row is the vector of a live word, and `plan` gives that word's plan
pub record Answered (n : ℕ) (plan : ℕ → Option ℕ) (b : Bucket) (v x : ℕ) : Type 0 where
  pub matrix : List ℕ
  pub sound : Sound n matrix b
  pub answer : x ≡ combined matrix b v
  pub plans : (i : ℕ) → bit i b.mark ≡ 1 → plan (get_or matrix i 0) ≡ some (lookup b (get_or matrix i 0))
