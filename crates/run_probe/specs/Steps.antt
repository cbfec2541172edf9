-- A step of a bucket that is handed in as its words: the number answered, and the words after it.
use Rattle.std.specs.Prelude.{ℕ, cond, List, eqb, ltb, length, get_or, Option, Some, None, unwrap_or}
use Rattle.bucket.specs.declared.Bucket.{Bucket}
use Rattle.bucket.specs.Bucket.{row_of}
use Rattle.bucket_words.specs.Words.{bucket_words, words_of, bucket_from}
use Rattle.bucket_rows.specs.Elimination.{sound_rows}
use Rattle.table.specs.Calls.{rows, solutions}

-- a number, and words
pub record Probed : Type 0 where
  pub number : ℕ
  pub words : List ℕ

-- 1 and the words of the bucket after the step, or 0 and the words as they were where there is none
abbrev pub done : List ℕ → Option Bucket → Probed
done p None = record { number = 0; words = p }
done p (Some b) = record { number = 1; words = words_of b }

-- 2 where the words are not as many as a bucket has
unfoldable pub probed : (Bucket → Option Bucket) → List ℕ → Probed
probed step p = cond (eqb (length p) (bucket_words rows solutions)) (done p (step (bucket_from rows solutions p))) (record { number = 2; words = p })

-- the row of k in the bucket of these words, 64 where k is not live; 65 where they are not as many as a bucket has
unfoldable pub probed_row : ℕ → List ℕ → ℕ
probed_row k p = cond (eqb (length p) (bucket_words rows solutions)) (unwrap_or (row_of 64 k (bucket_from rows solutions p)) 64) 65

-- row i of these, 0 where there is none
abbrev pub row_in : ℕ → Option (List ℕ) → ℕ
row_in i None = 0
row_in i (Some ks) = cond (ltb i 64) (get_or ks i 0) 0

-- row i of the matrix K of a bucket, 0 where there is none
abbrev pub matrix_row : ℕ → Bucket → ℕ
matrix_row i b = row_in i (sound_rows 64 b.mark b.cols)

-- the same of the bucket of these words, where they are as many as a bucket has
unfoldable pub probed_matrix : ℕ → List ℕ → ℕ
probed_matrix i p = cond (eqb (length p) (bucket_words rows solutions)) (matrix_row i (bucket_from rows solutions p)) 0
