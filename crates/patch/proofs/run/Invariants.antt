-- `patch::run` meets its contract. The n records before the offset `at` are of the kind; none starts past the end, where the byte read is no kind.
-- Assumes nothing.
use mathlib.Core.Path.{◌≡◌}
use Prim.Native.Nat.{◌+◌, ◌-◌, ◌≤◌}
use lib.ListN.{length, drop}
use Rattle.patch.specs.Wrong.{run}
use Rattle.patch.proofs.run.Given as goal

abbrev pub invariant-loop-kind : goal.invariant-loop-kind
invariant-loop-kind l =
    (l.first + l.n ≤ l.at) × (run l.kind l.size (length l.d) (drop l.first l.d) ≡ l.n + run l.kind l.size (length l.d - l.n) (drop l.at l.d))

abbrev pub decreases-loop-kind : goal.decreases-loop-kind
decreases-loop-kind l = length l.d - l.at
