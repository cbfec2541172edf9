-- `identifier::fold::table` meets its contract: the rule of the table is one test that antt computes over its 256 entries.
-- Assumes nothing.
use Rattle.identifier.specs.Identifier.{allowed, folded, fold_of}
use Rattle.identifier.proofs.Below.{rule}
use Rattle.identifier.proofs.fold.table.Goals as goal

pub returns : goal.returns
unfolding allowed fold_of folded
returns c = λ b h. rw (rule fold_of 256)
