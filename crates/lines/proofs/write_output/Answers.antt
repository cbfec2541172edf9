-- `lines::write_output` meets its contract.
-- Assumes nothing.
use mathlib.Core.Path.{sym}
use lib.Seq.{length-take-le}
use Rattle.lines_run.proofs.Running.{run_most}
use borrow.Author.Rules.{rules}
use Rattle.lines.proofs.write_output.Goals as goal

pub slice_bounds-out-end : goal.slice_bounds-out-end
slice_bounds-out-end c =
    let m = run_most c.args.input.now c.run-n.result c.run-n.ensures.fits in
    search rules

pub slice_bounds-write_all-end : goal.slice_bounds-write_all-end
slice_bounds-write_all-end c =
    let m = run_most c.args.input.now c.run-n.result c.run-n.ensures.fits in
    sym (length-take-le c.run-n.result c.run-n.new.out (search rules))
