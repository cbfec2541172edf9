-- `plane::solution` meets its contract.
-- Assumes nothing.
use mathlib.Core.Path.{◌∙◌}
use Rattle.plane.specs.Record.{format1}
use Rattle.plane.proofs.Read.{word_at}
use Rattle.plane_lookup.proofs.solution.Goals as goal

pub returns : goal.returns
returns c =
    c.get_u64.ensures ∙ word_at format1 c.args.i c.args.p.now c.requires
