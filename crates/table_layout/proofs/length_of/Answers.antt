-- `table_layout::length_of` meets its contract.
-- Assumes nothing.
use Prim.Native.Nat.{◌+◌}
use native.Mathlib.Omega.{arith}
use Rattle.table.specs.Calls.{rows, solutions}
use Rattle.table_layout.proofs.Shape.{range, place-low}
use Rattle.table_layout.proofs.length_of.Goals as goal

pub overflow_add-b1 : goal.overflow_add-b1
overflow_add-b1 c = let s = range c.args.b1 c.args.b2 c.requires in omega arith

pub bucket_place-requires : goal.bucket_place-requires
bucket_place-requires c = let s = range c.args.b1 c.args.b2 c.requires in omega arith

pub overflow_add-result : goal.overflow_add-result
overflow_add-result c = let s = range c.args.b1 c.args.b2 c.requires in let l = place-low rows solutions {i = c.args.b1 + c.args.b2} (omega arith) in omega arith
