-- `run_probe::probe_row` meets its contract.
-- Assumes nothing.
use borrow.Author.Tests.{eq-eqb, ne_eqb}
use Rattle.run_probe.specs.Steps.{probed_row}
use Rattle.run_probe.proofs.probe_row.Goals as goal

pub returns-then-part-ne-WORDS : goal.returns-then-part-ne-WORDS
unfolding probed_row
returns-then-part-ne-WORDS c = rw (ne_eqb _ _ c.if-part-ne-WORDS.true)

pub returns : goal.returns
unfolding probed_row
returns c = rw (eq-eqb _ _ c.if-part-ne-WORDS.false, c.unwrap_or.ensures, c.row_of.ensures, c.load-b.ensures)
