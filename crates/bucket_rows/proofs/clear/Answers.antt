-- `bucket_rows::clear` meets its contract. The loop's invariant: what is written, then `clear` of what is to come.
-- Assumes nothing.
use mathlib.Core.Path.{refl, sym, ◌∙◌}
use Prim.Native.Nat.{◌<◌}
use native.Mathlib.Omega.{arith}
use lib.ListN.{length}
use Rattle.bucket_rows.specs.Elimination.{clear}
use Rattle.lists.proofs.Loops.{front-end}
use Rattle.bucket_rows.proofs.Laws.{clear_at}
use Rattle.bucket_rows.proofs.clear.Goals as goal

pub loop-a-preserved : goal.loop-a-preserved
loop-a-preserved c =
    let h : c.loop-a.a-index < length c.loop-a.a-items = omega (arith, c.loop-a.auto.a-items) in
    clear_at _ _ _ _ _ h c.flip_if.ensures ∙ c.loop-a.invariant

pub returns : goal.returns
returns c =
    sym (front-end (clear c.args.p c.args.w) c.loop-a.a-items c.loop-a.a-index refl (omega (arith, c.loop-a.auto.a-items))) ∙ c.loop-a.invariant
