-- `table_base::first_hit` meets its contract: no w' that the loop passed is hit.
-- Assumes nothing.
use mathlib.Core.Path.{◌≡◌}
use Prim.Native.Nat.{◌+◌}
use lib.ListN.{drop}
use Rattle.table.specs.Layout.{pairs_from}
use Rattle.table_base.specs.Base.{hits, before}
use Rattle.table_base.proofs.first_hit.Given as goal

abbrev pub invariant-loop-i : goal.invariant-loop-i
invariant-loop-i l =
    before (hits l.larger l.v) (pairs_from l.count l.pairs) ≡ l.i + before (hits l.larger l.v) (drop l.i (pairs_from l.count l.pairs))
