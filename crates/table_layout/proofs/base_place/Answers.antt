-- `table_layout::base_place` meets its contract.
-- Assumes nothing.
use native.Mathlib.Omega.{arith}
use Rattle.table_layout.proofs.Shape.{shape}
use Rattle.table_layout.proofs.base_place.Goals as goal

pub bounds-t-0 : goal.bounds-t-0
bounds-t-0 c = let s = shape c.requires in omega arith

pub bounds-t-1 : goal.bounds-t-1
bounds-t-1 c = let s = shape c.requires in omega arith

pub overflow_add-t : goal.overflow_add-t
overflow_add-t c = let s = shape c.requires in omega arith

pub bucket_place-requires : goal.bucket_place-requires
bucket_place-requires c = let s = shape c.requires in omega arith
