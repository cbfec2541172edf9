-- `lines_run::run_lines` meets its contract.
-- Assumes nothing.
use Rattle.std.proofs.Common.{length}
use Rattle.lines_run.proofs.Running.{Running}
use Rattle.lines_run.proofs.run_lines.Given as goal

abbrev pub invariant-loop-line : goal.invariant-loop-line
invariant-loop-line l = Running l.s l.initial.out l.b l.out l.at l.rest

abbrev pub decreases-loop-line : goal.decreases-loop-line
decreases-loop-line l = length l.rest
