-- A sound table, as document 01 lists it, with the totals, the plans and the cleared rows of document 02, orders 2, 3 and 6. S is the mix, U its inverse, n the number of rows, r of solution words.
-- Assumes nothing.
use Rattle.std.specs.Prelude.{ℕ, ◌+◌, ◌^◌, ◌≤◌, ◌<◌, ◌≡◌, true, false, length, get_or}
use mathlib.Core.List.{List, Memᴰ}
use Rattle.lists.specs.Entries.{Entry, Ascending, assignable}
use Rattle.lists.specs.Totals.{totals_of}
use Rattle.bucket.specs.declared.Bucket.{Bucket}
use Rattle.bucket.specs.Bucket.{live}
use Rattle.bucket_settle.specs.Settle.{SoundBucket}
use Rattle.model.specs.Model.{base_limit}
use Rattle.table.specs.Table.{Table, total_numbers, thr, index, nth, holds}
use Rattle.table.specs.Layout.{table_from, unused_in}
use Rattle.table.specs.Content.{occupied, entries_of}

-- v is an occupied row of bucket i of the level
pub record Row (n r : ℕ) (bs : List Bucket) (i v : ℕ) : Type 0 where
  pub bucket_lt : i < length bs
  pub vector_lt : v < 2 ^ n
  pub is_live : live n v (nth n r bs i) ≡ true

-- each bucket of the level is sound (bound at most 8, columns invertible, free rows of K units and those of Z 0), and each occupied row is
-- held where its place sends it: in this bucket, under its bound
pub record SoundLevel (n r : ℕ) (S : ℕ → ℕ) (bs : List Bucket) : Type 0 where
  pub some : 0 < length bs
  pub buckets : (i : ℕ) → i < length bs → SoundBucket n r (nth n r bs i)
  pub here : (i v : ℕ) → Row n r bs i v → index S (length bs) v ≡ i
  pub low : (i v : ℕ) → Row n r bs i v → thr S v < (nth n r bs i).bound

module _ (n r : ℕ) (S U : ℕ → ℕ) where
  -- document 01's sound table, but for the unused pairs
  pub record SoundTable (T : Table) : Type 0 where
    pub fits : length T.base ≤ base_limit
    pub counts : T.count ≡ occupied T.level1 + (occupied T.level2 + length T.base)
    -- each total is the number of live words with that plan
    pub totals : T.totals ≡ totals_of total_numbers (entries_of n U T)
    -- each live word, of a bucket or of the base list, has a plan that may be given
    pub given : (e : Entry) → Memᴰ e (entries_of n U T) → assignable e.plan ≡ true
    pub level1 : SoundLevel n r S T.level1
    pub level2 : SoundLevel n r S T.level2
    -- a level 2 word also by its level 1 form
    pub passed : (i v : ℕ) → Row n r T.level2 i v → holds n r S T.level1 (U (U v)) ≡ false
    -- a base word is held by neither level
    pub base-words : (e : Entry) → Memᴰ e T.base → (e.word < 2 ^ n) × (holds n r S T.level2 e.word ≡ false) × (holds n r S T.level1 (U (U e.word)) ≡ false)
    pub ascending : Ascending T.base

  -- numbers that hold a sound table, unused pairs 0
  pub record FlatSound (xs : List ℕ) : Type 0 where
    pub table : SoundTable (table_from n r xs)
    pub unused : (i : ℕ) → get_or (unused_in n r xs) i 0 ≡ 0
