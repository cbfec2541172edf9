-- `table_edit::plan_of` meets its contract.
-- Assumes nothing.
use mathlib.Core.Path.{sym, ap, ◌∙◌}
use Rattle.std.specs.Prelude.{Some, is_some}
use Rattle.table_base.specs.Base.{found_of}
use Rattle.table_edit.proofs.Touched.{plan-live, plan-gone}
use Rattle.table_edit.proofs.plan_of.Goals as goal

pub returns-then-is_some : goal.returns-then-is_some
returns-then-is_some c =
    ap Some c.lookup.ensures ∙ ap found_of (sym (plan-live c.args.v c.args.b (ap is_some (sym c.row_of.ensures) ∙ sym c.is_some.ensures ∙ c.if-is_some.true)))

pub returns : goal.returns
returns c = ap found_of (sym (plan-gone c.args.v c.args.b (ap is_some (sym c.row_of.ensures) ∙ sym c.is_some.ensures ∙ c.if-is_some.false)))
