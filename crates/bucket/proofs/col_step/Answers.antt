-- `bucket::col_step` meets its contract. The loop rewrites the columns from the front: those before `at` are done, the others are to come.
-- Assumes nothing.
use mathlib.Core.Path.{◌∙◌}
use Prim.Native.Nat.{◌<◌}
use native.Mathlib.Omega.{arith}
use lib.ListN.{length}
use Rattle.gf2.proofs.Loops.{row_step-at}
use Rattle.bucket.proofs.col_step.Goals as goal

pub loop-at-preserved : goal.loop-at-preserved
loop-at-preserved c =
    let h : c.loop-at.at < length c.loop-at.a-items = omega arith in
    row_step-at _ _ _ _ _ _ h c.flip_if.ensures ∙ c.loop-at.invariant
