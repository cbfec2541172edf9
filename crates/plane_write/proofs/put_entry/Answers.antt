-- `plane_write::put_entry` meets its contract.
-- Assumes nothing.
use mathlib.Core.Path.{refl}
use native.Mathlib.Omega.{arith}
use lib.ListN.{length-set}
use Rattle.codec.proofs.Part.{length-written}
use Rattle.plane.specs.Record.{entry_kind}
use Rattle.plane_write.proofs.Put.{entry-put}
use Rattle.plane_write.proofs.put_entry.Goals as goal

pub bounds-out-at-2 : goal.bounds-out-at-2
bounds-out-at-2 c = rw c.put_u64.ensures (simp (length-written, length-set) (omega arith))

pub shape_of-out : goal.shape_of-out
shape_of-out c = rw (length-set, c.put_u64.ensures) (simp (length-written, length-set) refl)

pub returns : goal.returns
returns c =
    entry-put entry_kind c.args.at c.args.word c.args.plan c.args.out.now c.put_u64.new.d c.put_u64.ensures
