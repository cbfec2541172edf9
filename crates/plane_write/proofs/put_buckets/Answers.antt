-- `plane_write::put_buckets` meets its contract. The first i buckets are written.
-- Assumes nothing.
use mathlib.Core.Path.{◌≡◌, ap, ◌∙◌}
use Prim.Native.Nat.{◌*◌}
use native.Mathlib.Omega.{arith}
use lib.ListN.{length, length-take, length-drop}
use Rattle.codec.proofs.Part.{length-written}
use Rattle.bucket_words.specs.Words.{bucket_words}
use Rattle.table.specs.Calls.{rows, solutions}
use Rattle.plane.specs.Record.{format1, bucket_length, bucket_record}
use Rattle.plane_write.specs.Steps.{seen_from}
use Rattle.plane_write.proofs.Put.{read_none, read_next, bucket-here, buckets_sized}
use Rattle.plane_write.proofs.put_buckets.Goals as goal

pub loop-i-init : goal.loop-i-init
loop-i-init c =
    read_none (bucket_record format1) (bucket_length format1) (bucket_words rows solutions) (seen_from rows solutions) c.args.at c.args.b.now c.args.out.now

pub put_bucket-requires : goal.put_bucket-requires
put_bucket-requires c =
    let l = ap length c.loop-i.invariant ∙ length-written c.args.at _ c.args.out.now in (
      simp (length-take, length-drop) (omega arith),
      rw (bucket-here rows solutions (c.loop-i.i * bucket_words rows solutions) c.args.b.now) (c.requires.low c.loop-i.i (omega arith)),
      omega (arith, l),
    )

pub loop-i-preserved : goal.loop-i-preserved
loop-i-preserved c =
    let more = rw (c.loop-i.invariant, bucket-here rows solutions (c.loop-i.i * bucket_words rows solutions) c.args.b.now) at c.put_bucket.ensures in
    more ∙ read_next (bucket_record format1) (bucket_length format1) (bucket_words rows solutions) (seen_from rows solutions) c.loop-i.i c.args.at c.args.b.now c.args.out.now (buckets_sized rows format1 c.loop-i.i c.args.b.now (omega arith))

pub shape_of-out : goal.shape_of-out
shape_of-out c = ap length c.loop-i.invariant ∙ length-written _ _ _

pub returns : goal.returns
returns c =
    let z : c.loop-i.i ≡ c.args.m = omega arith in
    rw z at c.loop-i.invariant
