-- `table_sound::pairs_ascend` meets its contract: the pairs from the one before i on ascend exactly when all do.
-- Assumes nothing.
use mathlib.Core.Path.{◌≡◌}
use Prim.Native.Nat.{◌-◌, ◌*◌, ◌/◌}
use lib.ListN.{length, drop}
use Rattle.table.specs.Layout.{pairs_from}
use Rattle.table.specs.Test.{ascends}
use Rattle.table_sound.proofs.pairs_ascend.Given as goal

abbrev pub invariant-loop-i : goal.invariant-loop-i
invariant-loop-i l =
    ascends (pairs_from (length l.pairs / 2 - (l.i - 1)) (drop (2 * (l.i - 1)) l.pairs)) ≡ ascends (pairs_from (length l.pairs / 2) l.pairs)
