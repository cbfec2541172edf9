-- `plane::right::Plane::buckets` meets its contract.
-- Assumes nothing.
use native.Mathlib.Omega.{arith}
use Rattle.plane.specs.Record.{format1}
use Rattle.plane.proofs.Scan.{known}
use Rattle.plane.proofs.right.Plane.buckets.Goals as goal

pub bounds-self-2 : goal.bounds-self-2
bounds-self-2 c = omega (arith, known format1 c.args.self.now.bytes.now c.args.self.now.right)

pub bounds-self-3 : goal.bounds-self-3
bounds-self-3 c = omega (arith, known format1 c.args.self.now.bytes.now c.args.self.now.right)

pub returns-clause-few : goal.returns-clause-few
returns-clause-few c = omega (arith, known format1 c.args.self.now.bytes.now c.args.self.now.right)
