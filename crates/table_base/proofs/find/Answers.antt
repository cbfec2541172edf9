-- `table_base::find` meets its contract.
-- Assumes nothing.
use mathlib.Core.Path.{sym, ap, ◌∙◌}
use native.Mathlib.Omega.{arith}
use lib.Dec.{eqb}
use Rattle.table_base.specs.Base.{before, found_of}
use Rattle.table_base.proofs.Shift.{searched, found, not_found}
use Rattle.table_base.proofs.find.Goals as goal

pub returns-then-i-count : goal.returns-then-i-count
returns-then-i-count c =
    let q = c.first_hit-i.ensures.place ∙ ap (before (eqb c.args.v)) (searched c.requires _ (omega arith)) in
    ap found_of (sym (found c.requires c.args.v c.first_hit-i.result q c.if-i-count.true))

pub returns : goal.returns
returns c =
    let q = c.first_hit-i.ensures.place ∙ ap (before (eqb c.args.v)) (searched c.requires _ (omega arith)) in
    ap found_of (sym (not_found c.requires c.args.v c.first_hit-i.result q c.if-i-count.false))
