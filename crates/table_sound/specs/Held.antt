-- The counts and the base list, in the order in which the code tests them. Only the crate's own functions cite them: proofs/Held.antt says that they make, with
-- the levels of table_rows, the test of the crate table.
-- Assumes nothing.
use Rattle.std.specs.Prelude.{ℕ, ◌+◌, ◌*◌, Bool, ◌&&◌, List, eqb, leb, get_or, drop}
use Rattle.lists.specs.Entries.{Entry, desk_plan}
use Rattle.hash.specs.Mix.{mix_of, unmix_of}
use Rattle.model.specs.Model.{base_limit}
use Rattle.table.specs.Layout.{buckets1_at, buckets2_at, base_count_at, live_count_at, totals_at, header, level_from, pairs_from, bucket_place}
use Rattle.table.specs.Content.{occupied}
use Rattle.table.specs.Test.{row0, all_of, ascends}
use Rattle.table.specs.Calls.{rows, solutions, table_of}
use Rattle.table_rows.specs.Counting.{Counted, gate, count_off}

-- a base entry
abbrev pub pair_test : List ℕ → Entry → Bool
pair_test t e = row0 rows solutions mix_of unmix_of (table_of t) e

-- the base count is in range, the total of the desk's plan is 0, and the live count is right
abbrev pub counts_sound : List ℕ → Bool
counts_sound t =
    leb (get_or t base_count_at 0) base_limit
    && (eqb (get_or t (totals_at + desk_plan) 0) 0
    && eqb (get_or t live_count_at 0) (occupied (level_from rows solutions (get_or t buckets1_at 0 + get_or t buckets2_at 0) (drop header t)) + get_or t base_count_at 0))

-- the base list: its words ascend, unused pairs are 0, each entry is held there
abbrev pub base_left : List ℕ → List ℕ → Counted
base_left t ts =
    let place : ℕ = bucket_place rows solutions (get_or t buckets1_at 0 + get_or t buckets2_at 0) in
    gate (ascends (pairs_from (get_or t base_count_at 0) (drop place t))) ts
    (gate (all_of (λ x. eqb x 0) (drop (place + 2 * get_or t base_count_at 0) t)) ts (count_off (pair_test t) (pairs_from (get_or t base_count_at 0) (drop place t)) ts))

-- each entry was counted off, and nothing is left over
abbrev pub none_left : Counted → Bool
none_left c = c.done && all_of (λ x. eqb x 0) c.left
