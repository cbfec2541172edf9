-- `table_base::insert` meets its contract: the pairs from its place on move up.
-- Assumes nothing.
use mathlib.Core.Path.{ap, ◌∙◌}
use native.Mathlib.Omega.{arith}
use lib.Dec.{ltb}
use Rattle.table_base.specs.Base.{before}
use Rattle.table_base.proofs.Shift.{searched, inserted}
use Rattle.table_base.proofs.insert.Goals.{After-first_hit-at}
use Rattle.table_base.proofs.insert.Goals as goal

pub returns : goal.returns
returns c =
    let q = c.first_hit-at.ensures.place ∙ ap (before (ltb c.args.v)) (searched c.requires.0 _ (omega arith)) in
    inserted c.requires.0 c.args.v c.args.plan c.first_hit-at.result _ q c.requires.1 c.move_up.ensures
