-- `table_sound::live_count` meets its contract.
-- Assumes nothing.
use mathlib.Core.Path.{◌≡◌}
use Prim.Native.Nat.{ℕ, ◌+◌, ◌-◌, ◌*◌, ◌/◌, ◌≤◌}
use lib.ListN.{length, drop}
use Rattle.bucket_words.specs.Words.{bucket_words}
use Rattle.model.specs.Model.{base_limit}
use Rattle.table.specs.Layout.{level_from}
use Rattle.table.specs.Content.{occupied}
use Rattle.table.specs.Calls.{rows, solutions}
use Rattle.table_sound.proofs.live_count.Given as goal

abbrev pub invariant-loop-i : goal.invariant-loop-i
invariant-loop-i l =
    let m : ℕ = length l.buckets / bucket_words rows solutions in
    (l.sum ≤ rows * l.i + base_limit) × (l.sum + occupied (level_from rows solutions (m - l.i) (drop (l.i * bucket_words rows solutions) l.buckets)) ≡ occupied (level_from rows solutions m l.buckets) + l.base)
