-- `codec::same_at` meets its contract.
-- Assumes nothing.
use Rattle.std.proofs.Common.{◌∙◌}
use Rattle.codec.proofs.Equal.{equal_start}
use Rattle.codec.proofs.same_at.Goals as goal

pub returns : goal.returns
returns c = c.starts_with.ensures.value ∙ rw c.rest.ensures (equal_start _ c.args.p.now)
