-- `bucket_rows::in_order` meets its contract. The loop's invariant: what is written, then `ordered` of what is to come.
-- Assumes nothing.
use mathlib.Core.Path.{refl, sym, ◌∙◌}
use Prim.Native.Nat.{◌<◌}
use native.Mathlib.Omega.{arith}
use lib.ListN.{length, length-set}
use Rattle.bucket_rows.specs.Elimination.{ordered}
use Rattle.lists.proofs.Loops.{front-end}
use Rattle.bucket_rows.proofs.Laws.{ordered_at}
use Rattle.bucket_rows.proofs.in_order.Goals as goal

pub loop-x-preserved : goal.loop-x-preserved
loop-x-preserved c =
    let h : c.loop-x.x-index < length c.loop-x.x-items = omega arith in
    (simp length-set c.loop-x.invariant.0, ordered_at 64 _ _ _ _ h c.dual_at.ensures ∙ c.loop-x.invariant.1)

pub returns : goal.returns
returns c =
    sym (front-end (ordered 64 c.args.ds.now) c.loop-x.x-items c.loop-x.x-index refl (omega arith)) ∙ c.loop-x.invariant.1
