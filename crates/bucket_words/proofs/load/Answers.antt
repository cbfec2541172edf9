-- `bucket_words::load` meets its contract.
-- Assumes nothing.
use Rattle.bucket_words.specs.Words.{bucket_from}
use Rattle.bucket_words.proofs.load.Goals as goal

pub returns : goal.returns
unfolding bucket_from
returns c = rw (c.array_of.ensures, c.array_of-2.ensures)
