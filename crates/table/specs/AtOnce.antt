-- An add in document 01's own order: each word that leaves a bucket is withdrawn and goes on at once. (Table's `added_to` hands the words on
-- once the level is done; proofs/AtOnce.antt shows that the tables are the same.)
-- Assumes nothing.
use Rattle.std.specs.Prelude.{ℕ, zero, suc, cond, List, [], ◌∷◌, ltb, option_map, unwrap_or}
use Rattle.lists.specs.Entries.{Entry, insert}
use Rattle.bucket.specs.declared.Bucket.{Bucket}
use Rattle.bucket.specs.Bucket.{add, without}
use Rattle.bucket_settle.specs.Settle.{leaving, at_bound}
use Rattle.table.specs.Table.{Table, with_first, with_second, with_base, with_one, thr, on_second, put, bucket_of}

-- X is what comes after the bucket, and `go` the arrival of a word there
module _ (n : ℕ) (thr : ℕ → ℕ) {X : Type 0} (go : X → Entry → X) where
  -- these words leave, each withdrawn and added one level further
  abbrev pub leave_all : List Entry → Bucket → X → Bucket × X
  leave_all [] b x = (b, x)
  leave_all (e ∷ es) b x = leave_all es (without n e.word b) (go x e)

  -- The word e comes to the bucket b, whose bound is the number after e. While e depends there, the bound falls by one, and the words
  -- whose threshold equals the new bound leave. If e's threshold is not below the bound, e goes on last.
  abbrev pub enter : Entry → ℕ → Bucket → X → Bucket × X
  enter e zero b x = (b, go x e)
  enter e (suc t) b x =
      let l : Bucket × X = leave_all (leaving n thr t b) b x in
      cond (ltb (thr e.word) (suc t)) (unwrap_or (option_map (λ c. (c, x)) (add n e.word e.plan b)) (enter e t (at_bound t l.0) l.1)) (b, go x e)

module _ (n r : ℕ) (S : ℕ → ℕ) where
  -- the word e arrives at a level, with x after it
  abbrev pub come_to : {X : Type 0} → (X → Entry → X) → List Bucket × X → Entry → List Bucket × X
  come_to {X} go l e =
      let b : Bucket = bucket_of n r S l.0 e.word in
      let q : Bucket × X = enter n (thr S) go e b.bound b l.1 in
      (put S l.0 e.word q.0, q.1)

  -- level 2 hands on to the base list
  abbrev pub come_to2 : List Bucket × List Entry → Entry → List Bucket × List Entry
  come_to2 = come_to (λ base e. insert e base)

  -- level 1 to level 2
  abbrev pub come_to1 : List Bucket × (List Bucket × List Entry) → Entry → List Bucket × (List Bucket × List Entry)
  come_to1 = come_to (λ l e. come_to2 l (on_second S e))

  -- the new word e arrives at level 1
  abbrev pub added_at_once : Table → Entry → Table
  added_at_once T e =
      let q : List Bucket × (List Bucket × List Entry) = come_to1 (T.level1, (T.level2, T.base)) e in
      with_one (with_base (with_second (with_first T q.0) q.1.0) q.1.1) e.plan
