-- `lines_run::run_lines` meets its contract.
-- Assumes nothing.
use Rattle.std.proofs.Common.{rules, tests}
use Rattle.lines_run.proofs.Running.{running_next, running_end}
use Rattle.lines_run.proofs.run_lines.Goals as goal

pub loop-line-preserved : goal.loop-line-preserved
loop-line-preserved c =
    running_next c.args.s.now c.args.out.now c.loop-line.b c.loop-line.out c.loop-line.at c.loop-line.rest.now c.loop-line.invariant c.in-Some.line.now c.in-Some.after.now c.in-Some.ensures.parts c.in-Some.ensures.lengths
    c.turn.new.b c.turn.result c.turn.ensures c.put_said-at.result c.put_said-at.new.out (search rules) c.put_said-at.ensures

pub returns-else-not-is_empty : goal.returns-else-not-is_empty
returns-else-not-is_empty c =
    running_end c.args.s.now c.args.out.now c.loop-line.b c.loop-line.out c.loop-line.at c.loop-line.rest.now c.loop-line.invariant
    c.in_default.ensures.parts (search (rules, tests))
