-- `plane::ascending` meets its contract. The entries before entry i fit, and `last` is the word of the last of them.
-- Assumes nothing.
use mathlib.Core.Path.{◌≡◌}
use Prim.Native.Nat.{◌+◌, ◌-◌, ◌*◌}
use lib.ListN.{drop}
use Rattle.plane.specs.Record.{entry_length}
use Rattle.plane.specs.Plane.{entries_wrong}
use Rattle.plane.specs.Steps.{least_after}
use Rattle.plane.proofs.ascending.Given as goal

abbrev pub invariant-loop-i : goal.invariant-loop-i
invariant-loop-i l =
    let at = l.first + l.i * entry_length in
    entries_wrong 0 l.k l.first (drop l.first l.plane) ≡ entries_wrong (least_after l.last) (l.k - l.i) at (drop at l.plane)
