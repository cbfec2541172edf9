-- `table_calls::word_for` meets its contract.
-- Assumes nothing.
use Rattle.table_calls.proofs.word_for.Goals as goal

pub returns : goal.returns
returns c = cc
