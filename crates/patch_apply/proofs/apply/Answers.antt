-- `patch_apply::apply` meets its contract.
-- Assumes nothing.
use mathlib.Core.Path.{refl, ◌∙◌}
use Rattle.patch.specs.Calls.{apply_call}
use Rattle.patch_check.proofs.Checked.{was-wrong, was-right}
use Rattle.patch_apply.proofs.Call.{right_answer}
use Rattle.patch_apply.proofs.apply.Goals as goal

pub apply_right-requires : goal.apply_right-requires
apply_right-requires c =
    let f = was-right _ _ c.in-Ok-check.ensures in
    (f.0, c.entries.ensures.0 ∙ f.1)

pub returns-in-Err : goal.returns-in-Err
unfolding apply_call
returns-in-Err c = rw c.in-Err.ensures (refl, refl)

pub returns-in-Err-check : goal.returns-in-Err-check
unfolding apply_call
returns-in-Err-check c = rw (← c.in-Ok.ensures, c.in-Ok.plane.right, was-wrong _ _ c.in-Err-check.ensures) (refl, refl)

pub returns-in-Ok-check : goal.returns-in-Ok-check
returns-in-Ok-check c =
    rw (← c.in-Ok.ensures) (right_answer c.in-Ok.plane.bytes.now c.args.d.now c.args.out.now c.apply_right.new.out c.apply_right.result c.in-Ok.plane.right (was-right _ _ c.in-Ok-check.ensures).0 c.apply_right.ensures)
