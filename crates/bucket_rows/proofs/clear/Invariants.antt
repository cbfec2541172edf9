-- `bucket_rows::clear` meets its contract. The loop's invariant: what is written, then `clear` of what is to come.
-- Assumes nothing.
use mathlib.Core.Path.{◌≡◌}
use mathlib.Core.List.{◌++◌}
use lib.ListN.{take, drop}
use Rattle.bucket_rows.specs.Elimination.{clear}
use Rattle.bucket_rows.proofs.clear.Given as goal

abbrev pub invariant-loop-a : goal.invariant-loop-a
invariant-loop-a l = take l.a-index l.a-items ++ clear l.p l.w (drop l.a-index l.a-items) ≡ clear l.p l.w l.initial.a-items
