-- `plane_write::put_records` meets its contract.
-- Assumes nothing.
use mathlib.Core.Path.{ap, ◌∙◌}
use native.Mathlib.Omega.{arith}
use lib.ListN.{length, length-drop}
use Rattle.codec.proofs.Part.{length-written}
use Rattle.table.specs.Layout.{header, bucket_place}
use Rattle.table.specs.Calls.{rows, solutions}
use Rattle.plane.specs.Record.{format1}
use Rattle.plane.specs.Plane.{buckets_at}
use Rattle.lists.proofs.Parts.{rest}
use Rattle.plane_write.proofs.Put.{records_put}
use Rattle.plane_write.proofs.put_records.Goals as goal

pub put_buckets-requires : goal.put_buckets-requires
put_buckets-requires c =
    rw (rest header c.args.t.now) (record { solutions_in_bounds = (rw length-drop (omega arith), omega arith); low = c.requires.low })

pub put_entries-requires : goal.put_entries-requires
put_entries-requires c =
    let l = ap length c.put_buckets.ensures ∙ length-written buckets_at _ c.args.out.now in
    rw (rest (bucket_place rows solutions c.args.buckets) c.args.t.now) (record { k_in_bounds = (rw length-drop (omega arith), omega (arith, l)); plans = c.requires.plans })

pub returns : goal.returns
returns c =
    let e1 = rw (rest header c.args.t.now) at c.put_buckets.ensures in
    let e2 = rw (rest (bucket_place rows solutions c.args.buckets) c.args.t.now) at c.put_entries.ensures in
    records_put rows format1 c.args.buckets c.args.entries c.args.t.now c.args.out.now _ _ _ c.requires.entries_in_bounds.0 e1 e2 c.put_end.ensures
