-- `plane_write::put_words` meets its contract. The words before i are written.
-- Assumes nothing.
use mathlib.Core.Path.{sym, ap, ◌∙◌}
use native.Mathlib.Omega.{arith}
use lib.ListN.{length}
use lib.Seq.{take_all}
use Rattle.codec.proofs.Part.{length-written, written_none}
use Rattle.plane.specs.Record.{bytes_of}
use Rattle.plane_write.proofs.Put.{words-next}
use Rattle.plane_write.proofs.put_words.Goals as goal

pub loop-i-init : goal.loop-i-init
unfolding bytes_of
loop-i-init c = sym (written_none c.args.at c.args.out.now)

pub loop-i-preserved : goal.loop-i-preserved
loop-i-preserved c =
    let more = rw c.loop-i.invariant at c.put_u64.ensures in
    more ∙ words-next c.args.words.now c.loop-i.i c.args.at c.args.out.now (omega arith)

pub shape_of-out : goal.shape_of-out
shape_of-out c = ap length c.loop-i.invariant ∙ length-written _ _ _

pub returns : goal.returns
returns c =
    rw (take_all c.loop-i.i c.args.words.now (omega arith)) at c.loop-i.invariant
