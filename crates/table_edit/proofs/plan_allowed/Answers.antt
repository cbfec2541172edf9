-- `table_edit::plan_allowed` meets its contract.
-- Assumes nothing.
use Rattle.table_edit.proofs.plan_allowed.Goals as goal

pub returns-in-Change : goal.returns-in-Change
returns-in-Change c = cc
