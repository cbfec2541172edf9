-- `plane::right::Plane::level_2_at` meets its contract.
-- Assumes nothing.
use native.Mathlib.Omega.{arith}
use Rattle.plane.specs.Record.{format1}
use Rattle.plane.proofs.Scan.{known}
use Rattle.plane.proofs.right.Plane.level_2_at.Goals as goal

pub bounds-self-2 : goal.bounds-self-2
bounds-self-2 c = omega (arith, known format1 c.args.self.now.bytes.now c.args.self.now.right)
