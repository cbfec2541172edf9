-- `bucket_rows::flip_all` meets its contract. The loop's invariant: the step by the bits that are left gives the step by all of them.
-- Assumes nothing.
use mathlib.Core.Path.{◌≡◌}
use Prim.Native.Nat.{◌<◌, ◌^◌}
use lib.ListN.{length}
use Rattle.gf2.specs.Vectors.{sol_step}
use Rattle.bucket_rows.proofs.flip_all.Given as goal

abbrev pub invariant-loop-left : goal.invariant-loop-left
invariant-loop-left l = (length l.t ≡ 64) × (l.left < 2 ^ 64) × (sol_step l.u l.left l.t ≡ sol_step l.u l.d l.initial.t)

abbrev pub decreases-loop-left : goal.decreases-loop-left
decreases-loop-left l = l.left
