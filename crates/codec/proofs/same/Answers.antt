-- `codec::same` meets its contract.
-- Assumes nothing.
use Rattle.std.proofs.Common.{◌∙◌}
use Rattle.codec.proofs.Equal.{equal_bytes}
use Rattle.codec.proofs.same.Goals as goal

pub returns : goal.returns
returns c = c.eq.ensures ∙ equal_bytes c.args.a.now c.args.b.now
