-- `patch_check::remove_gone` meets its contract. The first i words are gone: `kept` is what stays of the entries before those that are left.
-- Assumes nothing.
use Rattle.patch_check.proofs.Remove.{Removing}
use Rattle.patch_check.proofs.remove_gone.Given as goal

abbrev pub invariant-loop-i : goal.invariant-loop-i
invariant-loop-i l = Removing l.d l.first l.k l.old l.i l.kept l.left
