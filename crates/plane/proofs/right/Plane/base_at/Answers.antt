-- `plane::right::Plane::base_at` meets its contract.
-- Assumes nothing.
use native.Mathlib.Omega.{arith}
use Rattle.plane.specs.Record.{format1}
use Rattle.plane.proofs.Scan.{known}
use Rattle.plane.proofs.right.Plane.base_at.Goals as goal

pub returns-clause-within : goal.returns-clause-within
returns-clause-within c = omega (arith, known format1 c.args.self.now.bytes.now c.args.self.now.right)
