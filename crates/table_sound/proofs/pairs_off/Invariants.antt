-- `table_sound::pairs_off` meets its contract: what is left of the totals from pair i on is what is left of all.
-- Assumes nothing.
use Prim.Native.Nat.{◌-◌, ◌*◌, ◌/◌}
use mathlib.Core.Path.{◌≡◌}
use lib.ListN.{length, drop}
use Rattle.table.specs.Layout.{pairs_from}
use Rattle.table_rows.specs.Counting.{count_off}
use Rattle.table_sound.specs.Held.{pair_test}
use Rattle.table_sound.proofs.pairs_off.Given as goal

abbrev pub invariant-loop-i : goal.invariant-loop-i
invariant-loop-i l =
    count_off (pair_test l.t) (pairs_from (length l.pairs / 2 - l.i) (drop (2 * l.i) l.pairs)) l.left ≡ count_off (pair_test l.t) (pairs_from (length l.pairs / 2) l.pairs) l.initial.left
