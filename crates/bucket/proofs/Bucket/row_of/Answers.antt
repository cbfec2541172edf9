-- `bucket::Bucket::row_of` meets its contract.
-- Assumes nothing.
use Rattle.bucket.specs.Bucket.{row_of}
use Rattle.bucket.proofs.Bucket.row_of.Goals as goal

pub returns : goal.returns
unfolding row_of
returns c = rw (← c.product.ensures) c.row_by.ensures
