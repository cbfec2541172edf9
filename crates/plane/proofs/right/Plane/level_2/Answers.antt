-- `plane::right::Plane::level_2` meets its contract.
-- Assumes nothing.
use native.Mathlib.Omega.{arith}
use lib.ListN.{length-take, length-drop}
use Rattle.plane.specs.Record.{format1, bucket_from, bucket_length}
use Rattle.plane.specs.Plane.{buckets1, buckets2, entries_at, plane_from}
use Rattle.plane.proofs.Scan.{known}
use Rattle.plane.proofs.Read.{read_part, bucket-front}
use Rattle.plane.proofs.right.Plane.level_2.Goals as goal

pub returns-clause-read : goal.returns-clause-read
unfolding plane_from
returns-clause-read c =
    let k = known format1 c.args.self.now.bytes.now c.args.self.now.right in
    let at = c.level_2_at.ensures in
    rw at (read_part (bucket_length format1) (bucket_from format1) (bucket-front format1) (buckets2 c.args.self.now.bytes.now) (entries_at format1 (buckets1 c.args.self.now.bytes.now)) c.base_at.result c.args.self.now.bytes.now (omega arith) (omega arith) (omega arith))

pub returns-clause-some : goal.returns-clause-some
returns-clause-some c =
    let k = known format1 c.args.self.now.bytes.now c.args.self.now.right in
    simp (length-take, length-drop) (omega arith)
