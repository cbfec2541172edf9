-- `patch_check::enter_news` meets its contract. The first i entries are entered: `new` has what comes of them and of the entries of `kept` before
-- those that are left.
-- Assumes nothing.
use Rattle.patch_check.proofs.Enter.{Entering}
use Rattle.patch_check.proofs.enter_news.Given as goal

abbrev pub invariant-loop-i : goal.invariant-loop-i
invariant-loop-i l = Entering l.d l.first l.k l.old l.kept l.i l.last l.old_left l.left l.new
