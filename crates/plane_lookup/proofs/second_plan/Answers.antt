-- `plane_lookup::second_plan` meets its contract.
-- Assumes nothing.
use Rattle.std.proofs.Common.{sym, ◌∙◌}
use Rattle.plane.specs.Lookup.{second_plan}
use Rattle.plane_lookup.proofs.second_plan.Goals as goal

pub returns-in-Some : goal.returns-in-Some
unfolding second_plan
returns-in-Some c = rw (← c.level_2.ensures.read, sym c.level_plan.ensures ∙ c.in-Some.is)

pub returns-in-None : goal.returns-in-None
unfolding second_plan
returns-in-None c = rw (← c.level_2.ensures.read, ← c.base.ensures, sym c.level_plan.ensures ∙ c.in-None.is) c.base_plan.ensures
