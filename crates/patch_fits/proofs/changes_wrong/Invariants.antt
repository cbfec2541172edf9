-- `patch_fits::changes_wrong` meets its contract. The first i changes fit, and leave `least`.
-- Assumes nothing.
use Rattle.plane.specs.Record.{format1}
use Rattle.patch.specs.Record.{change_records}
use Rattle.patch.specs.Wrong.{change_allowed, next_index, changes_at}
use Rattle.patch_fits.proofs.Scan.{Scanned}
use Rattle.patch_fits.proofs.changes_wrong.Given as goal

abbrev pub invariant-loop-i : goal.invariant-loop-i
invariant-loop-i l = Scanned (change_records format1) (change_allowed l.buckets) next_index 0 l.k changes_at l.d l.i l.least
