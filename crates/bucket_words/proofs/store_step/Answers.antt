-- `bucket_words::store_step` meets its contract: the words of the part after each of the three writes.
-- Assumes nothing.
use mathlib.Core.Path.{refl}
use lib.ListN.{get_or}
use borrow.Author.Rules.{rules}
use Rattle.bucket_words.specs.Words.{Shaped}
use Rattle.bucket_words.proofs.Parts.{written}
use Rattle.bucket_words.proofs.store_step.Goals as goal

pub returns : goal.returns
returns c =
    let shaped : Shaped 64 8 (record { cols = c.args.cols.now; mark = c.args.mark; sols = c.args.sols.now; bound = get_or c.args.part.now 73 0 }) =
    record { cols = search rules; sols = search rules } in
    rw (c.put-2.ensures, c.put.ensures) (written c.args.part.now c.requires shaped refl)
