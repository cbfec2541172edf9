-- `table_base::move_down` meets its contract. The loop's invariant: the first i words are moved.
-- Assumes nothing.
use Rattle.std.proofs.Common.{◌≡◌, ◌+◌}
use lib.ListN.{drop}
use lib.Seq.{paste}
use Rattle.table_base.proofs.move_down.Given as goal

abbrev pub invariant-loop-i : goal.invariant-loop-i
invariant-loop-i l = l.words ≡ paste l.initial.words l.at (drop (l.at + 2) l.initial.words) l.i
