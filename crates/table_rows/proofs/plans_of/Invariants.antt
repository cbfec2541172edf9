-- `table_rows::plans_of` meets its contract. The loop has the products of the first i vectors.
-- Assumes nothing.
use mathlib.Core.Path.{◌≡◌}
use Rattle.table_rows.specs.Several.{products}
use Rattle.table_rows.proofs.plans_of.Given as goal

abbrev pub invariant-loop-i : goal.invariant-loop-i
invariant-loop-i l = l.out ≡ products l.i l.sols l.vectors
