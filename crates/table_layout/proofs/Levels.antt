-- The bucket of a vector at a level of a table of the right shape.
-- Assumes nothing.
use Prim.Native.Nat.{ℕ, ◌+◌, ◌<◌}
use native.Mathlib.Omega.{arith}
use mathlib.Core.Path.{◌≡◌, refl}
use mathlib.Core.List.{List}
use lib.ListN.{get_or, drop}
use Rattle.hash.specs.Mix.{mix_of}
use Rattle.bucket_words.specs.Words.{bucket_from}
use Rattle.table.specs.Table.{bucket_of}
use Rattle.table.specs.Layout.{buckets1_at, buckets2_at, bucket_place}
use Rattle.table.specs.Calls.{rows, solutions, table_of}
use Rattle.table_layout.specs.declared.Level.{Level}
use Rattle.table_layout.specs.declared.Level.TheVariants.{First, Second}
use Rattle.table_layout.specs.Level.{level_of, index_at}
use Rattle.table_layout.proofs.Shape.{Shape, first_lt, second_lt, first-here, second-here}

module _ (t : List ℕ) (s : Shape rows solutions t) (v : ℕ) where
  -- it is one of the table's
  pub index_lt : (l : Level) → index_at l t v < get_or t buckets1_at 0 + get_or t buckets2_at 0
  index_lt First = let h = first_lt rows solutions t s mix_of v in omega arith
  index_lt Second = let h = second_lt rows solutions t s mix_of v in omega arith

  -- and it is at its place
  pub level-here : (l : Level) → bucket_from rows solutions (drop (bucket_place rows solutions (index_at l t v)) t) ≡ bucket_of rows solutions mix_of (level_of l (table_of t)) v
  level-here First = first-here rows solutions t s mix_of v _ refl
  level-here Second = second-here rows solutions t s mix_of v _ refl
