-- `bucket_rows::eliminate` meets its contract. The loop's invariant: the state is that after the first `j` columns, all of them placed;
-- outside `occupied` each product has its own bit alone, and no free row from `j` on is taken.
-- Assumes nothing.
use mathlib.Core.Path.{◌≡◌}
use mathlib.Core.Bool.{true}
use lib.ListN.{length}
use Rattle.bucket_rows.specs.Elimination.{Work, after, placed}
use Rattle.bucket_rows.proofs.Free.{FreeBits}
use Rattle.bucket_rows.proofs.Skip.{Untaken}
use Rattle.bucket_rows.proofs.eliminate.Given as goal

abbrev pub invariant-loop-j : goal.invariant-loop-j
invariant-loop-j l =
    (length l.prods ≡ 64) × (length l.duals ≡ 64) × (◌≡◌ {A = Work} (record { prods = l.prods; duals = l.duals; mark = l.mark }) (after 64 l.fn.cols l.j)) × (placed 64 l.fn.cols l.j ≡ true)
    × FreeBits 64 l.occupied l.prods × Untaken l.occupied l.j l.mark
