-- `identifier::bucket` meets its contract.
-- Assumes nothing.
use native.Mathlib.Nat.{mod-zero}
use Rattle.identifier.proofs.bucket.Goals as goal

pub returns-then-n-eq0 : goal.returns-then-n-eq0
returns-then-n-eq0 c = rw (c.mix-place.ensures, c.if-n-eq0.true, mod-zero)

pub returns : goal.returns
returns c = rw c.mix-place.ensures
