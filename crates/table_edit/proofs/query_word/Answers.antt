-- `table_edit::query_word` meets its contract.
-- Assumes nothing.
use mathlib.Core.Path.{refl}
use Rattle.table_edit.proofs.Calls.{query_said}
use Rattle.table_edit.proofs.query_word.Goals as goal

pub returns : goal.returns
returns c = rw (query_said _ _ _ c.plan_in.ensures) (c.ok_or.ensures.value, refl)
