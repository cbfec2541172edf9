-- `table_base::remove` meets its contract: the pairs behind that of the word move down.
-- Assumes nothing.
use mathlib.Core.Path.{ap, ◌∙◌}
use native.Mathlib.Omega.{arith}
use lib.Dec.{eqb}
use Rattle.table_base.specs.Base.{before}
use Rattle.table_base.proofs.Shift.{searched, removed, removed_length, not_removed, not_removed_length}
use Rattle.table_base.proofs.remove.Goals as goal

pub returns-then-i-count : goal.returns-then-i-count
returns-then-i-count c =
    let q = c.first_hit-i.ensures.place ∙ ap (before (eqb c.args.v)) (searched c.requires _ (omega arith)) in
    (removed_length c.requires c.args.v c.first_hit-i.result q c.if-i-count.true, removed c.requires c.args.v c.first_hit-i.result q _ _ c.if-i-count.true c.move_down.ensures.moved c.move_down.ensures.len (c.fill.ensures.after (λ _ e. e)))

pub returns : goal.returns
returns c =
    let q = c.first_hit-i.ensures.place ∙ ap (before (eqb c.args.v)) (searched c.requires _ (omega arith)) in
    (not_removed_length c.requires c.args.v c.first_hit-i.result q c.if-i-count.false, not_removed c.requires c.args.v c.first_hit-i.result q c.if-i-count.false)
