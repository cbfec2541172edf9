-- An add to one bucket of n rows, under its bound; document 01, "The whole table". thr gives the threshold of a vector.
-- Assumes nothing.
use Rattle.std.specs.Prelude.{ℕ, zero, suc, ◌^◌, ◌≤◌, ◌≡◌, cond, List, [], ◌∷◌, ◌++◌, map, eqb, ltb, length, Option as Optional, Some, None}
use Rattle.std.proofs.Math.Option.{Option, none, some}
use Rattle.lists.specs.Lists.{keep, count_from}
use Rattle.lists.specs.Entries.{Entry, words}
use Rattle.identifier.specs.Place.{place_of, threshold_at}
use Rattle.bucket.specs.declared.Bucket.{Bucket}
use Rattle.bucket.specs.Bucket.{Sound, largest_bound, lookup, live, add, without}

-- document 01's sound bucket: columns invertible, free rows of K units, those of Z 0 (document 02, order 6); r solution words; the bound at
-- most the largest
pub record SoundBucket (n r : ℕ) (b : Bucket) : Type 0 where
  pub matrix : List ℕ
  pub sound : Sound n matrix b
  pub wide : length b.sols ≡ r
  pub low : b.bound ≤ largest_bound

-- the threshold of a vector, at either level
abbrev pub threshold_of : ℕ → ℕ
threshold_of v = threshold_at (place_of v)

-- the vectors ks with their plans
abbrev pub listed : Bucket → List ℕ → List Entry
listed b ks = map (λ k. record { word = k; plan = lookup b k }) ks

-- the live vectors with their plans, smallest vector first
unfoldable pub contents : ℕ → Bucket → List Entry
contents n b = listed b (keep (λ k. live n k b) (count_from 0 (2 ^ n)))

-- the plan of k, if it is live
abbrev pub plan_of : ℕ → ℕ → Bucket → Option ℕ
plan_of n k b = cond (live n k b) (some (lookup b k)) none

-- the words of threshold t, smallest vector first
abbrev pub leaving : ℕ → (ℕ → ℕ) → ℕ → Bucket → List Entry
leaving n thr t b = keep (λ e. eqb (thr e.word) t) (contents n b)

-- each of these vectors is withdrawn
abbrev pub withdraw_all : ℕ → List ℕ → Bucket → Bucket
withdraw_all n [] b = b
withdraw_all n (k ∷ ks) b = withdraw_all n ks (without n k b)

-- the bucket under the bound t
abbrev pub at_bound : ℕ → Bucket → Bucket
at_bound t b = record { cols = b.cols; mark = b.mark; sols = b.sols; bound = t }

-- the bound falls to t, and the words whose threshold equals it are withdrawn
abbrev pub lowered : ℕ → (ℕ → ℕ) → ℕ → Bucket → Bucket
lowered n thr t b = at_bound t (withdraw_all n (words (leaving n thr t b)) b)

-- a bucket, and the words that leave it with their plans, in this order
pub record Settlement : Type 0 where
  pub bucket : Bucket
  pub out : List Entry

-- es leave before the others
abbrev pub ahead : List Entry → Settlement → Settlement
ahead es s = record { bucket = s.bucket; out = es ++ s.out }

-- the bucket after an add, if there is one, else s
abbrev pub or_else : Optional Bucket → Settlement → Settlement
or_else None s = s
or_else (Some b) s = record { bucket = b; out = [] }

-- The word e comes to the bucket b, whose bound is the number after e. While e depends there, the bound falls by one, and the words
-- whose threshold equals the new bound leave, each withdrawn. If e's threshold is not below the bound, e leaves last.
abbrev pub settle : ℕ → (ℕ → ℕ) → Entry → ℕ → Bucket → Settlement
settle n thr e zero b = record { bucket = b; out = e ∷ [] }
settle n thr e (suc t) b =
    cond (ltb (thr e.word) (suc t))
    (or_else (add n e.word e.plan b) (ahead (leaving n thr t b) (settle n thr e t (lowered n thr t b))))
    (record { bucket = b; out = e ∷ [] })
