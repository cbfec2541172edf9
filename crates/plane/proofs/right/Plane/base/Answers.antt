-- `plane::right::Plane::base` meets its contract.
-- Assumes nothing.
use native.Mathlib.Omega.{arith}
use Rattle.std.proofs.Common.{◌-◌, length}
use Rattle.plane.specs.Record.{format1, entry_from, entry_length}
use Rattle.plane.specs.Plane.{bucket_count, base_count, entries_at, plane_from}
use Rattle.plane.proofs.Scan.{known}
use Rattle.plane.proofs.Read.{read_part, entry-front}
use Rattle.plane.proofs.right.Plane.base.Goals as goal

pub returns : goal.returns
unfolding plane_from
returns c =
    let k = known format1 c.args.self.now.bytes.now c.args.self.now.right in
    let at = c.base_at.ensures.at in
    rw at (read_part entry_length entry_from entry-front (base_count c.args.self.now.bytes.now) (entries_at format1 (bucket_count c.args.self.now.bytes.now)) (length c.args.self.now.bytes.now - 5) c.args.self.now.bytes.now (omega arith) (omega arith) (omega arith))
