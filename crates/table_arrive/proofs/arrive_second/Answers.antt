-- `table_arrive::arrive_second` meets its contract.
-- Assumes nothing.
use mathlib.Core.Path.{sym, ap, ◌∙◌}
use Rattle.gf2.specs.Vectors.{product}
use Rattle.hash.specs.Mix.{mix_of}
use Rattle.bucket.specs.declared.Bucket.{Bucket}
use Rattle.table.specs.Calls.{rows, solutions}
use Rattle.table_layout.proofs.Shape.{second_in, second-here}
use Rattle.table_arrive.proofs.Tables.{flat, shape}
use Rattle.table_arrive.proofs.arrive_second.Goals as goal

pub holds-requires : goal.holds-requires
holds-requires c = shape rows solutions _ c.requires

pub place-requires : goal.place-requires
place-requires c = shape rows solutions _ c.requires

pub product_at-p-requires : goal.product_at-p-requires
product_at-p-requires c =
    second_in rows solutions _ (flat rows solutions _ c.requires).shape mix_of c.args.v _ c.place.ensures

pub arrive_by-requires : goal.arrive_by-requires
arrive_by-requires c =
    (c.requires, (sym c.holds.ensures ∙ c.if-holds.true, c.product_at-p.ensures ∙ ap (λ (b : Bucket). product b.cols c.args.v) (second-here rows solutions _ (flat rows solutions _ c.requires).shape mix_of c.args.v _ c.place.ensures)))

pub pass_second-requires : goal.pass_second-requires
pass_second-requires c =
    (c.requires, sym c.holds.ensures ∙ c.if-holds.false)
