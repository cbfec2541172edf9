-- `lines_run::run` meets its contract.
-- Assumes nothing.
use Rattle.lines_run.proofs.Running.{counted_is, run-printed}
use Rattle.lines_run.proofs.run.Goals as goal

pub returns : goal.returns
returns c =
    run-printed c.args.input.now _ (counted_is c.args.input.now c.min.result c.min.ensures) c.args.out.now _ _ c.run_lines.ensures
