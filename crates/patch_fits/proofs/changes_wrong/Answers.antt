-- `patch_fits::changes_wrong` meets its contract. The first i changes fit, and leave `least`.
-- Assumes nothing.
use native.Mathlib.Numerals.{add-one}
use Rattle.plane.proofs.Scan.{refused, passed}
use Rattle.patch_fits.proofs.Scan.{scan_starts, scan_stops, scan-next}
use Rattle.patch_fits.proofs.changes_wrong.Goals as goal

pub loop-i-init : goal.loop-i-init
loop-i-init c = scan_starts _ _ _ _ _ _ _ c.requires

pub returns-then-not-change_fits : goal.returns-then-not-change_fits
returns-then-not-change_fits c = scan_stops _ _ _ _ _ _ _ c.loop-i.invariant c.loop-i-test.true (refused _ c.change_fits.ensures c.if-not-change_fits.true)

pub loop-i-preserved : goal.loop-i-preserved
loop-i-preserved c = scan-next _ _ _ _ _ _ _ c.loop-i.invariant c.loop-i-test.true (passed _ c.change_fits.ensures c.if-not-change_fits.false) (add-one _)
