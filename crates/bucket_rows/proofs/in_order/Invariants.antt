-- `bucket_rows::in_order` meets its contract. The loop's invariant: what is written, then `ordered` of what is to come.
-- Assumes nothing.
use mathlib.Core.Path.{◌≡◌}
use mathlib.Core.List.{◌++◌}
use lib.ListN.{length, take, drop}
use Rattle.bucket_rows.specs.Elimination.{ordered}
use Rattle.bucket_rows.proofs.in_order.Given as goal

abbrev pub invariant-loop-x : goal.invariant-loop-x
invariant-loop-x l = (length l.x-items ≡ 64) × (take l.x-index l.x-items ++ ordered 64 l.ds (drop l.x-index l.x-items) ≡ ordered 64 l.ds l.initial.x-items)
