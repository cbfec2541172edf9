-- `plane_write::put_entries` meets its contract. The first i entries are written.
-- Assumes nothing.
use mathlib.Core.Path.{◌≡◌}
use Rattle.codec.specs.Parts.{written}
use Rattle.plane.specs.Record.{bytes_of, read_all, entry_record}
use Rattle.plane_write.specs.Steps.{pair_from}
use Rattle.plane_write.proofs.put_entries.Given as goal

abbrev pub invariant-loop-i : goal.invariant-loop-i
invariant-loop-i l = l.out ≡ written l.at (bytes_of entry_record (read_all 2 pair_from l.i l.pairs)) l.initial.out
