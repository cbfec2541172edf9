-- `plane::buckets_wrong` meets its contract. The buckets before bucket i fit.
-- Assumes nothing.
use mathlib.Core.Path.{◌≡◌}
use Prim.Native.Nat.{◌+◌, ◌-◌, ◌*◌, ◌≤◌}
use lib.ListN.{length, drop}
use Rattle.plane.specs.Record.{format1, bucket_length}
use Rattle.plane.specs.Plane.{buckets_wrong}
use Rattle.plane.proofs.buckets_wrong.Given as goal

abbrev pub invariant-loop-i : goal.invariant-loop-i
invariant-loop-i l =
    let at = l.first + l.i * bucket_length format1 in
    (at ≤ length l.plane) × (buckets_wrong format1 l.m l.first (drop l.first l.plane) ≡ buckets_wrong format1 (l.m - l.i) at (drop at l.plane))
