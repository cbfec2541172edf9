-- `identifier::second` meets its contract: what the two calls ensure, put together.
-- Assumes nothing.
use Rattle.identifier.proofs.second.Goals as goal

pub returns : goal.returns
returns c = cc
