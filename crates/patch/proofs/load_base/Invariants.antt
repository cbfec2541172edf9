-- `patch::load_base` meets its contract. The entries so far, with those to come, are the base list.
-- Assumes nothing.
use Rattle.std.proofs.Common.{◌≡◌, ◌++◌}
use Rattle.plane.specs.Record.{format1, entry_length}
use Rattle.plane.specs.Plane.{plane_from}
use Rattle.plane.specs.Right.{entries_read}
use Rattle.patch.proofs.load_base.Given as goal

abbrev pub invariant-loop-e : goal.invariant-loop-e
invariant-loop-e l = (l.base ++ entries_read l.e-iterator.rest.now ≡ (plane_from format1 l.plane.bytes.now).base) × (l.e-iterator.size ≡ entry_length)
