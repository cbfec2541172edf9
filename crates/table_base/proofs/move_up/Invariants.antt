-- `table_base::move_up` meets its contract. The loop's invariant: the words from i on are moved, the last first.
-- Assumes nothing.
use Rattle.std.proofs.Common.{◌≡◌, ◌+◌, ◌-◌}
use Rattle.table_base.proofs.Moves.{upper}
use Rattle.table_base.proofs.move_up.Given as goal

abbrev pub invariant-loop-i : goal.invariant-loop-i
invariant-loop-i l = l.words ≡ upper l.initial.words l.at (l.at + 2) (l.end - l.at) l.i
