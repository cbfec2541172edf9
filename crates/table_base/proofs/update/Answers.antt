-- `table_base::update` meets its contract.
-- Assumes nothing.
use mathlib.Core.Path.{ap, ◌∙◌}
use native.Mathlib.Omega.{arith}
use lib.Dec.{eqb}
use Rattle.table_base.specs.Base.{before}
use Rattle.table_base.proofs.Shift.{searched, updated, not_updated}
use Rattle.table_base.proofs.update.Goals as goal

pub returns-then-i-count : goal.returns-then-i-count
returns-then-i-count c =
    let q = c.first_hit-i.ensures.place ∙ ap (before (eqb c.args.v)) (searched c.requires _ (omega arith)) in
    updated c.requires c.args.v c.first_hit-i.result q c.args.plan c.if-i-count.true

pub returns-else-i-count : goal.returns-else-i-count
returns-else-i-count c =
    let q = c.first_hit-i.ensures.place ∙ ap (before (eqb c.args.v)) (searched c.requires _ (omega arith)) in
    not_updated c.requires c.args.v c.first_hit-i.result q c.args.plan c.if-i-count.false
