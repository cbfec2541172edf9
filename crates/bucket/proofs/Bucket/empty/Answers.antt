-- `bucket::Bucket::empty` meets its contract.
-- Assumes nothing.
use Rattle.bucket.specs.Bucket.{empty_bucket}
use Rattle.bucket.proofs.Bucket.empty.Goals as goal

pub returns : goal.returns
unfolding empty_bucket
returns c = rw c.unit_rows.ensures
