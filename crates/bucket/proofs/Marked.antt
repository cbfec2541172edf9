-- M1 to M11 of document 01, M6 with the solutions of document 02, order 6, in one computed check of the definitions: whole buckets of 64
-- rows and 8 solution words.
-- Assumes nothing.
use mathlib.Core.Bool.{Bool, true, false, not, ◌&&◌}
use mathlib.Core.List.{List, [], ◌∷◌, ◌++◌}
use Prim.Native.Nat.{ℕ, ◌^◌}
use lib.Count.{ones, ones_in, count_trailing_zeros}
use lib.Dec.{T, eqb}
use Rattle.std.specs.Prelude.{Option, Some, None, is_none}
use lib.ListN.{drop, replicate}
use Rattle.gf2.specs.Vectors.{dot, product, units}
use Rattle.gf2.specs.Bound.{Due, bound_of}
use Rattle.bucket.specs.declared.Bucket.{Bucket}
use Rattle.bucket.specs.Bucket.{empty_bucket, live, row_of, lookup, add, add_at, withdraw, withdraw_at}

unfoldable pub same_words : List ℕ → List ℕ → Bool
same_words [] [] = true
same_words [] (y ∷ ys) = false
same_words (x ∷ xs) [] = false
same_words (x ∷ xs) (y ∷ ys) = eqb x y && same_words xs ys

unfoldable pub same : Bucket → Bucket → Bool
same a b = same_words a.cols b.cols && eqb a.mark b.mark && same_words a.sols b.sols && eqb a.bound b.bound

-- this is the bucket after the step
unfoldable pub gives : Option Bucket → Bucket → Bool
gives None b = false
gives (Some c) b = same c b

-- the bucket with these first columns (the others are units), this mark and these first solutions (the others are 0)
unfoldable pub bucket_of : List ℕ → ℕ → List ℕ → Bucket
bucket_of cs m ss = record { cols = cs ++ drop 2 (units 64); mark = m; sols = ss ++ replicate 5 0; bound = 8 }

unfoldable pub m1 : Bucket
m1 = bucket_of (1 ∷ 3 ∷ []) 1 (1 ∷ 0 ∷ 1 ∷ [])

unfoldable pub m2 : Bucket
m2 = bucket_of (2 ∷ 3 ∷ []) 3 (2 ∷ 3 ∷ 1 ∷ [])

unfoldable pub m6 : Bucket
m6 = bucket_of (1 ∷ 2 ∷ []) 1 (0 ∷ 1 ∷ 1 ∷ [])

unfoldable pub due : ℕ → ℕ → Due
due k t = record { vector = k; threshold = t }

-- bound 8, words (3,5) and (1,2), and this one
unfoldable pub bound_with : Due → ℕ
bound_with d = bound_of 8 (due 3 5 ∷ due 1 2 ∷ d ∷ [])

pub marked :
    T (gives (add 64 3 5 (empty_bucket 64 8)) m1
    && gives (add 64 1 6 m1) m2
    && eqb (lookup m2 3) 5 && eqb (lookup m2 1) 6
    && is_none (add 64 2 7 m2)
    && is_none (add 64 0 7 m2)
    && gives (withdraw 64 3 m2) m6 && eqb (lookup m6 1) 6
    && eqb (product (units 64) 4) (2 ^ 2) && not (live 64 4 (empty_bucket 64 8))
    && eqb (bound_with (due 2 4)) 5 && eqb (bound_with (due 2 7)) 7 && eqb (bound_with (due 0 4)) 4 && eqb (bound_with (due 0 0)) 0)
unfolding same_words same gives bucket_of m1 m2 m6 due bound_with empty_bucket live row_of add add_at withdraw withdraw_at dot ones ones_in count_trailing_zeros
marked = tt
