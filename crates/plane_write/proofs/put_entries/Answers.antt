-- `plane_write::put_entries` meets its contract. The first i entries are written.
-- Assumes nothing.
use mathlib.Core.Path.{◌≡◌, ap, ◌∙◌}
use native.Mathlib.Omega.{arith}
use lib.ListN.{length}
use lib.Seq.{get_or-drop}
use Rattle.codec.proofs.Part.{length-written}
use Rattle.plane.specs.Record.{entry_length, entry_record}
use Rattle.plane_write.specs.Steps.{pair_from}
use Rattle.plane_write.proofs.Put.{read_none, entries_next}
use Rattle.plane_write.proofs.put_entries.Goals as goal

pub loop-i-init : goal.loop-i-init
loop-i-init c =
    read_none entry_record entry_length 2 pair_from c.args.at c.args.pairs.now c.args.out.now

pub put_entry-requires : goal.put_entry-requires
put_entry-requires c =
    let l = ap length c.loop-i.invariant ∙ length-written c.args.at _ c.args.out.now in
    (rw get_or-drop at (c.requires.plans c.loop-i.i (omega arith)), omega (arith, l))

pub loop-i-preserved : goal.loop-i-preserved
loop-i-preserved c =
    let more = rw c.loop-i.invariant at c.put_entry.ensures in
    more ∙ entries_next c.loop-i.i c.args.at c.args.pairs.now c.args.out.now

pub shape_of-out : goal.shape_of-out
shape_of-out c = ap length c.loop-i.invariant ∙ length-written _ _ _

pub returns : goal.returns
returns c =
    let z : c.loop-i.i ≡ c.args.k = omega arith in
    rw z at c.loop-i.invariant
