-- `patch_make::put_changes` meets its contract. The records of the buckets from i on are still to come.
-- Assumes nothing.
use Prim.Native.Nat.{◌+◌, ◌*◌, ◌≤◌}
use Rattle.plane.specs.Record.{format1}
use Rattle.plane.specs.Plane.{plane_from}
use Rattle.patch.specs.Record.{change_length}
use Rattle.patch.specs.Patch.{buckets_of}
use Rattle.patch_make.proofs.Put.{Left, changes_left}
use Rattle.patch_make.proofs.put_changes.Given as goal

abbrev pub invariant-loop-i : goal.invariant-loop-i
invariant-loop-i l =
    Left (changes_left format1 (buckets_of (plane_from format1 l.old.bytes.now)) (buckets_of (plane_from format1 l.new.bytes.now)) 0) l.first l.initial.out (changes_left format1 (buckets_of (plane_from format1 l.old.bytes.now)) (buckets_of (plane_from format1 l.new.bytes.now)) l.i) l.at l.out
    × (l.at ≤ l.first + l.i * change_length format1)
