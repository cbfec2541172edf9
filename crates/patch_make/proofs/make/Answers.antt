-- `patch_make::make` meets its contract.
-- Assumes nothing.
use mathlib.Core.Path.{refl}
use Rattle.patch.specs.Calls.{make_call}
use Rattle.patch_make.proofs.make.Goals as goal

pub returns-in-Err : goal.returns-in-Err
unfolding make_call
returns-in-Err c = rw c.in-Err.ensures (refl, refl)

pub returns-in-Ok : goal.returns-in-Ok
unfolding make_call
returns-in-Ok c = rw (← c.in-Ok.ensures, c.in-Ok.old.right) c.make_from.ensures
