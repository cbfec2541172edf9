-- `table_rows::level_off` meets its contract: what is left of the totals from bucket i on is what is left of all.
-- Assumes nothing.
use Prim.Native.Nat.{◌+◌, ◌-◌, ◌*◌}
use mathlib.Core.Path.{◌≡◌}
use lib.ListN.{drop}
use Rattle.bucket_words.specs.Words.{bucket_words}
use Rattle.table.specs.Layout.{level_from}
use Rattle.table.specs.Calls.{rows, solutions}
use Rattle.table_rows.specs.Counting.{row_of, level_off}
use Rattle.table_rows.proofs.level_off.Given as goal

abbrev pub invariant-loop-i : goal.invariant-loop-i
invariant-loop-i l =
    level_off rows (row_of l.t l.level l.m) l.i (level_from rows solutions (l.m - l.i) (drop (l.place + l.i * bucket_words rows solutions) l.t)) l.left ≡ level_off rows (row_of l.t l.level l.m) 0 (level_from rows solutions l.m (drop l.place l.t)) l.initial.left
