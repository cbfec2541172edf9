-- `patch_make::put_gone` meets its contract. The first entries are looked at; `left` is what is left of the new base list.
-- Assumes nothing.
use mathlib.Core.Path.{◌∙◌}
use native.Mathlib.Omega.{arith}
use Rattle.codec.proofs.Part.{written_cons}
use Rattle.patch_make.proofs.Put.{sending_starts, sending_ends, sought, sent, kept, gone_is, gone-bytes}
use Rattle.patch_make.proofs.put_gone.Goals.{then-is_none, else-is_none}
use Rattle.patch_make.proofs.put_gone.Goals as goal

pub loop-e-init : goal.loop-e-init
loop-e-init c = sending_starts _ _ _ _ _ _ _ _ c.requires.1

pub loop-e-preserved : goal.loop-e-preserved
loop-e-preserved c =
    let h = c.loop-e.invariant in
    let q = c.e.view_is ∙ c.e-item.is in
    let f = sought _ _ _ _ _ _ _ _ h c.requires.0 c.loop-e-test.true _ q c.seek-place.ensures.plan in
    let t = gone_is c.args.old.now c.args.new.now (record { word = c.e.inside.word; plan = c.e.inside.plan }) _ f c.is_none.ensures in
    elim c.if-is_none.branch [
      | then-is_none w ↦ sent _ _ _ _ _ _ _ _ h c.requires.0 c.loop-e-test.true _ q (t ∙ w.if-is_none.true) _ _ _ w.at-is (w.out-is ∙ w.put_u64.ensures ∙ written_cons _ _ _ _) c.seek-place.ensures.above
      | else-is_none w ↦ kept _ _ _ _ _ _ _ _ h c.requires.0 c.loop-e-test.true _ q (t ∙ w.if-is_none.false) _ _ _ w.at-is w.out-is c.seek-place.ensures.above
    ]

pub returns : goal.returns
returns c = rw (← gone-bytes c.args.old.now c.args.new.now) (sending_ends _ _ _ _ _ _ _ _ c.loop-e.invariant (omega arith))
