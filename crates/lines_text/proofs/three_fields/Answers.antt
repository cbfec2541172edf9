-- `lines_text::three_fields` meets its contract.
-- Assumes nothing.
use Rattle.std.proofs.Common.{ap}
use Rattle.lines_text.specs.Line.{of_three}
use Rattle.lines_text.specs.Parsed.{meant_or_bad}
use Rattle.lines_text.proofs.three_fields.Goals as goal

pub returns-in_err-b1-clause-means : goal.returns-in_err-b1-clause-means
unfolding of_three
returns-in_err-b1-clause-means c = rw (← c.same.ensures, c.if-same.true, ← c.in_err-b1.ensures.value) (ap meant_or_bad c.from_residual.ensures)

pub returns-in_err-b2-clause-means : goal.returns-in_err-b2-clause-means
unfolding of_three
returns-in_err-b2-clause-means c = rw (← c.same.ensures, c.if-same.true, ← c.in_ok-b1.ensures.value, ← c.in_err-b2.ensures.value) (ap meant_or_bad c.from_residual-in_err-b2.ensures)

pub returns-then-same-clause-means : goal.returns-then-same-clause-means
unfolding of_three
returns-then-same-clause-means c = rw (← c.same.ensures, c.if-same.true, ← c.in_ok-b1.ensures.value, ← c.in_ok-b2.ensures.value)

pub returns-then-same-2-clause-means : goal.returns-then-same-2-clause-means
unfolding of_three
returns-then-same-2-clause-means c = rw (← c.same.ensures, c.if-same.false, ← c.same-2.ensures, c.if-same-2.true) c.ask_form.ensures.means

pub returns-then-same-3-clause-means : goal.returns-then-same-3-clause-means
unfolding of_three
returns-then-same-3-clause-means c =
    rw (← c.same.ensures, c.if-same.false, ← c.same-2.ensures, c.if-same-2.false, ← c.same-3.ensures, c.if-same-3.true) c.ask_form-then-same-3.ensures.means

pub returns-clause-means : goal.returns-clause-means
unfolding of_three
returns-clause-means c =
    rw (← c.same.ensures, c.if-same.false, ← c.same-2.ensures, c.if-same-2.false, ← c.same-3.ensures, c.if-same-3.false)
