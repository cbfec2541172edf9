-- `bucket::dot` meets its contract: it is the definition.
-- Assumes nothing.
use Rattle.gf2.specs.Vectors.{dot}
use Rattle.std.proofs.Common.{rules}
use Rattle.bucket.proofs.dot.Goals as goal

pub returns : goal.returns
unfolding dot
returns c = search rules
