-- `table_rows::rows_off` meets its contract. The loop takes the bits of the mark one by one, lowest first; each is below n, so the plan of its row
-- is among those looked up.
-- Assumes nothing.
use Prim.Native.Nat.{◌^◌, ◌<◌}
use mathlib.Core.Path.{◌≡◌}
use Rattle.gf2.specs.Select.{chosen}
use Rattle.bucket_settle.specs.Settle.{listed}
use Rattle.table.specs.Calls.{rows}
use Rattle.table_rows.specs.Counting.{row_of, count_off}
use Rattle.table_rows.proofs.rows_off.Given as goal

abbrev pub invariant-loop-rest : goal.invariant-loop-rest
invariant-loop-rest l = (l.rest < 2 ^ rows) × (count_off (row_of l.t l.level l.m l.i l.b) (listed l.b (chosen l.rest l.vectors)) l.left ≡ count_off (row_of l.t l.level l.m l.i l.b) (listed l.b (chosen l.b.mark l.vectors)) l.initial.left) × (l.rest < 2 ^ l.n)

abbrev pub decreases-loop-rest : goal.decreases-loop-rest
decreases-loop-rest l = l.rest
