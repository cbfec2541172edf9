-- `plane_lookup::base_plan` meets its contract. The entries that the loop has passed have other words.
-- Assumes nothing.
use Rattle.std.proofs.Common.{◌≡◌}
use Rattle.std.specs.Slice.Iter.{chunks_exact_rest, chunks_exact_size}
use Rattle.lists.specs.Entries.{find}
use Rattle.plane.specs.Record.{entry_length}
use Rattle.plane.specs.Right.{entries_read}
use Rattle.plane_lookup.proofs.base_plan.Given as goal

abbrev pub invariant-loop-e : goal.invariant-loop-e
invariant-loop-e l =
    (goal.iterator-loop-e).can_next l.e-iterator × (goal.iterator-loop-e).is_finite l.e-iterator × (chunks_exact_size l.e-iterator ≡ entry_length)
    × (find l.v (entries_read l.entries) ≡ find l.v (entries_read (chunks_exact_rest l.e-iterator)))
