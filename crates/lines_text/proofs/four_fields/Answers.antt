-- `lines_text::four_fields` meets its contract.
-- Assumes nothing.
use Rattle.std.proofs.Common.{ap}
use Rattle.lines_text.specs.Line.{of_four}
use Rattle.lines_text.specs.Parsed.{meant_or_bad}
use Rattle.lines_text.proofs.Forms.{no_number}
use Rattle.lines_text.proofs.four_fields.Goals as goal

pub returns-in_err-plan-clause-means : goal.returns-in_err-plan-clause-means
unfolding of_four
returns-in_err-plan-clause-means c = rw (← c.same.ensures, c.if-same.true, ← c.in_err-plan.ensures.value, no_number) (ap meant_or_bad c.from_residual.ensures)

pub returns-then-same-clause-means : goal.returns-then-same-clause-means
unfolding of_four
returns-then-same-clause-means c = rw (← c.same.ensures, c.if-same.true, ← c.in_ok-plan.ensures.value) c.ask_form.ensures.means

pub returns-in_err-plan-2-clause-means : goal.returns-in_err-plan-2-clause-means
unfolding of_four
returns-in_err-plan-2-clause-means c =
    rw (← c.same.ensures, c.if-same.false, ← c.same-2.ensures, c.if-same-2.true, ← c.in_err-plan-2.ensures.value, no_number) (ap meant_or_bad c.from_residual-in_err-plan-2.ensures)

pub returns-then-same-2-clause-means : goal.returns-then-same-2-clause-means
unfolding of_four
returns-then-same-2-clause-means c =
    rw (← c.same.ensures, c.if-same.false, ← c.same-2.ensures, c.if-same-2.true, ← c.in_ok-plan-2.ensures.value) c.ask_form-then-same-2.ensures.means

pub returns-clause-means : goal.returns-clause-means
unfolding of_four
returns-clause-means c = rw (← c.same.ensures, c.if-same.false, ← c.same-2.ensures, c.if-same-2.false)
