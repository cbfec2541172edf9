-- `patch_make::put_news` meets its contract. The first entries are looked at; `left` is what is left of the old base list.
-- Assumes nothing.
use mathlib.Core.Path.{◌∙◌}
use native.Mathlib.Omega.{arith}
use Rattle.patch_make.proofs.Put.{sending_starts, sending_ends, sought, sent, kept, changed_is}
use Rattle.patch_make.proofs.put_news.Goals.{then-ne, else-ne}
use Rattle.patch_make.proofs.put_news.Goals as goal

pub loop-e-init : goal.loop-e-init
loop-e-init c = sending_starts _ _ _ _ _ _ _ _ c.requires.0

pub loop-e-preserved : goal.loop-e-preserved
loop-e-preserved c =
    let h = c.loop-e.invariant in
    let q = c.e.view_is ∙ c.e-item.is in
    let f = sought _ _ _ _ _ _ _ _ h c.requires.1 c.loop-e-test.true _ q c.seek-place.ensures.plan in
    let t = changed_is c.args.new.now c.args.old.now (record { word = c.e.inside.word; plan = c.e.inside.plan }) _ f c.ne.ensures in
    elim c.if-ne.branch [
      | then-ne w ↦ sent _ _ _ _ _ _ _ _ h c.requires.1 c.loop-e-test.true _ q (t ∙ w.if-ne.true) _ _ _ w.at-is (w.out-is ∙ w.put.ensures) c.seek-place.ensures.above
      | else-ne w ↦ kept _ _ _ _ _ _ _ _ h c.requires.1 c.loop-e-test.true _ q (t ∙ w.if-ne.false) _ _ _ w.at-is w.out-is c.seek-place.ensures.above
    ]

pub returns : goal.returns
returns c = sending_ends _ _ _ _ _ _ _ _ c.loop-e.invariant (omega arith)
