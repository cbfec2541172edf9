-- `patch_apply::put_entries` meets its contract. The first i entries are written.
-- Assumes nothing.
use mathlib.Core.Path.{◌≡◌}
use lib.ListN.{take}
use Rattle.codec.specs.Parts.{written}
use Rattle.plane.specs.Record.{bytes_of, entry_record}
use Rattle.patch_apply.proofs.put_entries.Given as goal

abbrev pub invariant-loop-i : goal.invariant-loop-i
invariant-loop-i l = l.out ≡ written l.at (bytes_of entry_record (take l.i l.base)) l.initial.out
