-- `table_layout::place` meets its contract.
-- Assumes nothing.
use native.Mathlib.Omega.{arith}
use Rattle.table_layout.proofs.Shape.{shape}
use Rattle.table_layout.proofs.Levels.{index_lt}
use Rattle.table_layout.proofs.place.Goals as goal

pub bucket_place-requires : goal.bucket_place-requires
bucket_place-requires c = let h = shape c.requires in omega (arith, index_lt c.args.t.now h c.args.v c.args.level)
