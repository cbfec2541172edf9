-- What a table holds: its occupied rows and its base entries, by their words. U is the inverse of the mix S.
-- Assumes nothing.
use Rattle.std.specs.Prelude.{ℕ, ◌+◌, List, [], ◌∷◌, ◌++◌, map, length}
use Rattle.std.specs.Int.Count.{ones}
use Rattle.lists.specs.Entries.{Entry, sort}
use Rattle.bucket.specs.declared.Bucket.{Bucket}
use Rattle.bucket_settle.specs.Settle.{contents}
use Rattle.model.specs.Model.{Size, State}
use Rattle.table.specs.Table.{Table, bounds}

-- the number of occupied rows of a level
abbrev pub occupied : List Bucket → ℕ
occupied [] = 0
occupied (b ∷ bs) = ones b.mark + occupied bs

-- the live vectors of each bucket with their plans, one bucket after the other
abbrev pub all_rows : ℕ → List Bucket → List Entry
all_rows n [] = []
all_rows n (b ∷ bs) = contents n b ++ all_rows n bs

-- the entry of a second level vector, by its word
abbrev pub back_of : (ℕ → ℕ) → Entry → Entry
back_of U e = record { word = U (U e.word); plan = e.plan }

-- the number of buckets of each level
abbrev pub size_of : Table → Size
size_of T = record { buckets1 = length T.level1; buckets2 = length T.level2 }

module _ (n : ℕ) (U : ℕ → ℕ) where
  -- the occupied rows and the base entries, by their words
  abbrev pub entries_of : Table → List Entry
  entries_of T = all_rows n T.level1 ++ map (back_of U) (all_rows n T.level2 ++ T.base)

  -- the live words with their plans, ascending
  unfoldable pub live_of : Table → List Entry
  live_of T = sort (entries_of T)

  -- what statement 3 compares: bucket numbers of each level, live words, plans and bounds
  abbrev pub state_of : Table → State
  state_of T = record { size = size_of T; live = live_of T; bounds1 = bounds T.level1; bounds2 = bounds T.level2 }
