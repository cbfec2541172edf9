-- `table_calls::plan_total` meets its contract.
-- Assumes nothing.
use native.Mathlib.Omega.{arith}
use mathlib.Core.Path.{sym, ◌∙◌}
use Rattle.lists.proofs.Tests.{cond_true, cond_false}
use Rattle.table.specs.Calls.{total_call}
use Rattle.table_layout.proofs.Shape.{shape}
use Rattle.table_calls.proofs.plan_total.Goals as goal

pub total_at-requires : goal.total_at-requires
total_at-requires c = let k = sym c.shaped.ensures ∙ c.if-shaped.true in let s = shape k in (k, omega arith)

pub returns-then-shaped : goal.returns-then-shaped
unfolding total_call
returns-then-shaped c = c.total_at.ensures ∙ sym (cond_true _ _ (sym c.shaped.ensures ∙ c.if-shaped.true))

pub returns : goal.returns
unfolding total_call
returns c = sym (cond_false _ _ (sym c.shaped.ensures ∙ c.if-shaped.false))
