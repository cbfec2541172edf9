-- `bucket::col_step` meets its contract. The loop rewrites the columns from the front: those before `at` are done, the others are to come.
-- Assumes nothing.
use mathlib.Core.Path.{◌≡◌}
use mathlib.Core.List.{◌++◌}
use Prim.Native.Nat.{◌/◌, ◌^◌}
use lib.ListN.{take, drop}
use Rattle.gf2.specs.Vectors.{row_step}
use Rattle.bucket.proofs.col_step.Given as goal

abbrev pub invariant-loop-at : goal.invariant-loop-at
invariant-loop-at l = take l.at l.a-items ++ row_step l.u l.i (l.p / 2 ^ l.at) (drop l.at l.a-items) ≡ row_step l.u l.i l.p l.initial.a-items
