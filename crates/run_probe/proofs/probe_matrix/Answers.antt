-- `run_probe::probe_matrix` meets its contract.
-- Assumes nothing.
use borrow.Author.Tests.{eq-eqb, ne_eqb, lt-ltb, le-ltb}
use Rattle.run_probe.specs.Steps.{probed_matrix}
use Rattle.run_probe.proofs.probe_matrix.Goals as goal

pub returns-then-part-ne-WORDS : goal.returns-then-part-ne-WORDS
unfolding probed_matrix
returns-then-part-ne-WORDS c = rw (ne_eqb _ _ c.if-part-ne-WORDS.true)

pub returns-in_default : goal.returns-in_default
unfolding probed_matrix
returns-in_default c = rw (eq-eqb _ _ c.if-part-ne-WORDS.false, ← c.load-b.ensures, ← c.in_default.ensures)

pub returns-then-i-lt-ROWS : goal.returns-then-i-lt-ROWS
unfolding probed_matrix
returns-then-i-lt-ROWS c = rw (eq-eqb _ _ c.if-part-ne-WORDS.false, ← c.load-b.ensures, ← c.in-Some.ensures, lt-ltb _ _ c.if-i-lt-ROWS.true)

pub returns-else-i-lt-ROWS : goal.returns-else-i-lt-ROWS
unfolding probed_matrix
returns-else-i-lt-ROWS c = rw (eq-eqb _ _ c.if-part-ne-WORDS.false, ← c.load-b.ensures, ← c.in-Some.ensures, le-ltb _ _ c.if-i-lt-ROWS.false)
