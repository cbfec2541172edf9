-- `bucket::lowest` meets its contract.
-- Assumes nothing.
use lib.Count.{count_trailing_zeros}
use Rattle.bucket.proofs.lowest.Goals as goal

pub returns-then-x-eq0 : goal.returns-then-x-eq0
unfolding count_trailing_zeros
returns-then-x-eq0 c = rw c.if-x-eq0.true
