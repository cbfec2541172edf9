-- `table_arrive::put_by` meets its contract.
-- Assumes nothing.
use mathlib.Core.Path.{sym, ap, ◌∙◌}
use Rattle.gf2.specs.Vectors.{product}
use Rattle.bucket.specs.declared.Bucket.{Bucket}
use Rattle.bucket_settle.specs.Settle.{threshold_of}
use Rattle.table.specs.Calls.{rows, solutions}
use Rattle.table_layout.proofs.Shape.{part-bucket}
use Rattle.table_arrive.proofs.Settled.{straight_at}
use borrow.Author.Rules.{rules}
use Rattle.table_arrive.proofs.put_by.Goals as goal

pub put_part_by-requires : goal.put_part_by-requires
put_part_by-requires c =
    (search rules, c.requires.1 ∙ ap (λ (b : Bucket). product b.cols c.args.v) (sym (part-bucket rows solutions c.args.t.now c.args.at)))

pub returns : goal.returns
returns c =
    straight_at rows solutions threshold_of c.args.at (record { word = c.args.v; plan = c.args.plan }) c.args.t.now _ _ c.put_part_by.ensures
