-- A word arrives, as the code goes about it: at a bucket, straight in or by settling there; at level 2, and what leaves that goes to the
-- base list at once. S is the mix, n the number of rows, r of solution words.
-- Assumes nothing.
use Rattle.std.specs.Prelude.{ℕ, ◌+◌, ◌≤◌, ◌<◌, ◌≡◌, Bool, true, cond, ◌&&◌, List, ◌++◌, leb, ltb, length, get_or, take, drop, None, is_some, unwrap_or}
use Rattle.lists.specs.Entries.{Entry, insert_all}
use Rattle.gf2.specs.Vectors.{product}
use Rattle.bucket.specs.declared.Bucket.{Bucket}
use Rattle.bucket.specs.Bucket.{add}
use Rattle.bucket_words.specs.Words.{bucket_words, words_of, bucket_from}
use Rattle.bucket_settle.specs.Settle.{SoundBucket, Settlement, settle}
use Rattle.model.specs.Model.{base_limit}
use Rattle.table.specs.Table.{Table, total_numbers, with_second, with_base, Placed, nth, bucket_of, arrive_at}
use Rattle.table.specs.Layout.{in_range, numbers_of, table_from}

module _ (n r : ℕ) where
  -- e settles in the bucket at a place
  abbrev pub settled_at : (ℕ → ℕ) → ℕ → Entry → List ℕ → Settlement
  settled_at thr at e t = let b : Bucket = bucket_from n r (drop at t) in settle n thr e b.bound b

  -- the product of v in it
  abbrev pub product_at : ℕ → ℕ → List ℕ → ℕ
  product_at at v t = product (bucket_from n r (drop at t)).cols v

  -- the bucket in the place of the one that starts there
  abbrev pub stored_at : ℕ → Bucket → List ℕ → List ℕ
  stored_at at b t = take at t ++ (words_of b ++ drop (at + bucket_words n r) t)

  -- e goes straight into the bucket of a stretch xs: its threshold is below the bound, and it does not depend there
  abbrev pub goes_in : (ℕ → ℕ) → Entry → List ℕ → Bool
  goes_in thr e xs = let b : Bucket = bucket_from n r xs in ltb (thr e.word) b.bound && is_some (add n e.word e.plan b)

  -- the stretch then: e is added to its bucket
  abbrev pub added_in : Entry → List ℕ → List ℕ
  added_in e xs = let b : Bucket = bucket_from n r xs in words_of (unwrap_or (add n e.word e.plan b) b)

  -- e went into the bucket at a place, if it goes straight in; else the numbers t stay as they were
  pub record Straight (thr : ℕ → ℕ) (at : ℕ) (e : Entry) (t : List ℕ) (done : Bool) (after : List ℕ) : Type 0 where
    pub says : done ≡ goes_in thr e (drop at t)
    pub table : after ≡ cond done (stored_at at (settled_at thr at e t).bucket t) t

module _ (n r : ℕ) (S : ℕ → ℕ) where
  -- the product of v in its bucket of a level
  abbrev pub product_in : List Bucket → ℕ → ℕ
  product_in bs v = product (bucket_of n r S bs v).cols v

  -- e depends in its bucket of a level
  abbrev pub DependsIn : List Bucket → Entry → Type 0
  DependsIn bs e = add n e.word e.plan (bucket_of n r S bs e.word) ≡ None

  -- the word e arrives at level 2, and what leaves that at the base list
  abbrev pub to_second : Table → Entry → Table
  to_second T e = let p : Placed = arrive_at n r S T.level2 e in with_base (with_second T p.buckets) (insert_all p.out T.base)

-- the base list is not too long
abbrev pub fits : Table → Bool
fits T = leb (length T.base) base_limit

module _ (n r : ℕ) where
  -- what each step keeps: bucket numbers in range, every bucket sound, the base list not too long, a total for each plan
  pub record Kept (T : Table) : Type 0 where
    pub range : in_range (length T.level1) (length T.level2) ≡ true
    pub first : (i : ℕ) → i < length T.level1 → SoundBucket n r (nth n r T.level1 i)
    pub second : (i : ℕ) → i < length T.level2 → SoundBucket n r (nth n r T.level2 i)
    pub short : length T.base ≤ base_limit
    pub totalled : length T.totals ≡ total_numbers

  -- numbers that hold such a table
  pub record FlatKept (t : List ℕ) : Type 0 where
    pub table : Kept (table_from n r t)
    pub numbers : numbers_of (table_from n r t) ≡ t

  -- words went on to the table U, if its base list is not too long; else the numbers t stay as they were
  pub record Passed (t : List ℕ) (U : Table) (done : Bool) (after : List ℕ) : Type 0 where
    pub says : done ≡ fits U
    pub kept : done ≡ true → Kept U
    pub table : after ≡ cond done (numbers_of U) t
