-- `lines_text::ask_form` meets its contract: what is no number to the code's limit is none to that of KIND.
-- Assumes nothing.
use lib.Dec.{lit≤, lit<}
use mathlib.Core.Path.{sym, ap}
use Rattle.lines_text.specs.Line.{most_kind}
use Rattle.lines_text.specs.Parsed.{meant_or_bad}
use Rattle.lines_text.proofs.Exact.{number_smaller}
use Rattle.lines_text.proofs.ask_form.Goals as goal

pub returns-in_err-kind-clause-means : goal.returns-in_err-kind-clause-means
returns-in_err-kind-clause-means c =
    rw (number_smaller most_kind _ c.args.kind.now (lit≤ tt) (lit< tt) (sym c.in_err-kind.ensures.value)) (ap meant_or_bad c.from_residual.ensures)
