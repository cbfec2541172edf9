-- `table_layout::index` meets its contract.
-- Assumes nothing.
use native.Mathlib.Omega.{arith}
use Rattle.hash.specs.Mix.{mix_of}
use Rattle.table_layout.proofs.Shape.{shape, second_lt}
use Rattle.table_layout.proofs.index.Goals as goal

pub bounds-t-0 : goal.bounds-t-0
bounds-t-0 c = let s = shape c.requires in omega arith

pub bounds-t-0-in-Second : goal.bounds-t-0-in-Second
bounds-t-0-in-Second c = let s = shape c.requires in omega arith

pub bounds-t-1 : goal.bounds-t-1
bounds-t-1 c = let s = shape c.requires in omega arith

pub overflow_add-i : goal.overflow_add-i
overflow_add-i c = let h = shape c.requires in omega (arith, second_lt _ _ _ h mix_of c.args.v)
