-- `patch_make::make_from` meets its contract.
-- Assumes nothing.
use mathlib.Core.Path.{refl}
use Rattle.patch_make.proofs.make_from.Goals as goal

pub returns-in-Err : goal.returns-in-Err
returns-in-Err c = rw c.in-Err.ensures (refl, refl)

pub returns-in-Ok : goal.returns-in-Ok
returns-in-Ok c = rw (← c.in-Ok.ensures, c.in-Ok.new.right) c.make_right.ensures
