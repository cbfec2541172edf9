-- `plane_write::put_end` meets its contract.
-- Assumes nothing.
use mathlib.Core.Path.{ap, ◌∙◌}
use lib.ListN.{length, length-set}
use Rattle.codec.proofs.Part.{length-written, written_cons}
use Rattle.plane.specs.Record.{end_kind, end_bytes}
use Rattle.plane_write.proofs.put_end.Goals as goal

pub shape_of-out : goal.shape_of-out
shape_of-out c = ap length c.put_bytes.ensures ∙ simp (length-written, length-set)

pub returns : goal.returns
returns c =
    c.put_bytes.ensures ∙ written_cons c.args.at end_kind end_bytes c.args.out.now
