-- `bucket_rows::free_cols` meets its contract. The loop's invariant: the test of the columns from `i` on is the test of all.
-- Assumes nothing.
use mathlib.Core.Path.{◌≡◌}
use lib.ListN.{drop}
use Rattle.bucket_rows.specs.Elimination.{free_cols}
use Rattle.bucket_rows.proofs.free_cols.Given as goal

abbrev pub invariant-loop-i : goal.invariant-loop-i
invariant-loop-i l = free_cols l.i l.mark (drop l.i l.cols) ≡ free_cols 0 l.mark l.cols
