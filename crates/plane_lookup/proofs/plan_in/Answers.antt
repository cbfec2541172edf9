-- `plane_lookup::plan_in` meets its contract.
-- Assumes nothing.
use Rattle.std.proofs.Common.{sym, ◌∙◌}
use Rattle.plane.specs.Lookup.{plan_from}
use Rattle.plane_lookup.proofs.plan_in.Goals as goal

pub returns-in-Some : goal.returns-in-Some
unfolding plan_from
returns-in-Some c = rw (sym (rw c.level_1.ensures.read at c.level_plan.ensures) ∙ c.in-Some.is)

pub returns-in-None : goal.returns-in-None
unfolding plan_from
returns-in-None c = rw (sym (rw c.level_1.ensures.read at c.level_plan.ensures) ∙ c.in-None.is) (rw c.second.ensures at c.second_plan.ensures)
