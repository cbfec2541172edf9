-- `identifier::read_bytes` meets its contract. The loop's invariant: scanning the bytes that are left, from i and h on, finds what the scan of all finds.
-- Assumes nothing.
use mathlib.Core.Path.{◌≡◌}
use lib.ListN.{drop}
use Rattle.identifier.specs.Scan.{scan}
use Rattle.identifier.proofs.read_bytes.Given as goal

abbrev pub invariant-loop-i : goal.invariant-loop-i
invariant-loop-i l = scan l.i l.h (drop l.i l.s) ≡ scan 0 l.start l.s
