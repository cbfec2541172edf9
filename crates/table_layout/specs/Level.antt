-- The buckets of one level or the other.
-- Assumes nothing.
use Rattle.std.specs.Prelude.{ℕ, ◌+◌, List, get_or}
use Rattle.hash.specs.Mix.{mix_of}
use Rattle.bucket.specs.declared.Bucket.{Bucket}
use Rattle.table.specs.Table.{Table, index}
use Rattle.table.specs.Layout.{buckets1_at, buckets2_at}
use Rattle.table_layout.specs.declared.Level.{Level}
use Rattle.table_layout.specs.declared.Level.TheVariants.{First, Second}

-- the buckets of a level
abbrev pub level_of : Level → Table → List Bucket
level_of First T = T.level1
level_of Second T = T.level2

-- the number of the bucket of v at a level of the table t, those of level 1 first
abbrev pub index_at : Level → List ℕ → ℕ → ℕ
index_at First t v = index mix_of (get_or t buckets1_at 0) v
index_at Second t v = get_or t buckets1_at 0 + index mix_of (get_or t buckets2_at 0) v
