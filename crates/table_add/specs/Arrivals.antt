-- An add of a word that is not live, as the code goes about it.
-- Assumes nothing.
use Rattle.std.specs.Prelude.{ℕ, ◌+◌, ◌^◌, ◌≤◌, ◌<◌, ◌≡◌, true, false, List, length, get_or, set}
use Rattle.std.proofs.Math.Option.{none}
use Rattle.lists.specs.Entries.{Entry, assignable}
use Rattle.lists.specs.Totals.{one_more}
use Rattle.hash.specs.Mix.{mix_of}
use Rattle.table.specs.Table.{total_numbers, on_second, holds, added_to}
use Rattle.table.specs.Calls.{rows, solutions, table_of, Outcome, joined}
use Rattle.table.specs.Layout.{live_count_at, totals_at}
use Rattle.table_edit.specs.Ready.{Ready}
use Rattle.table_arrive.specs.Arrival.{DependsIn}

-- what an add of the word e, which is not live, does at 64 rows and 8 solution words
abbrev pub entering : List ℕ → Entry → Outcome
entering t e = joined t (added_to rows solutions mix_of (table_of t) e) none

-- a word that level 1 of a table that passes the tests holds, and a plan for it
pub record Held (t : List ℕ) (w p : ℕ) : Type 0 where
  pub ready : Ready t
  pub plan : assignable p ≡ true
  pub held : holds rows solutions mix_of (table_of t).level1 w ≡ true

-- a word that level 1 of such a table does not hold, and a plan for it
pub record Passing (t : List ℕ) (w p : ℕ) : Type 0 where
  pub ready : Ready t
  pub plan : assignable p ≡ true
  pub past : holds rows solutions mix_of (table_of t).level1 w ≡ false

-- a word that depends in the bucket where the bounds of such a table send it, and a plan for it
pub record Depending (t : List ℕ) (w p : ℕ) : Type 0 where
  pub ready : Ready t
  pub plan : assignable p ≡ true
  pub first : holds rows solutions mix_of (table_of t).level1 w ≡ true → DependsIn rows solutions mix_of (table_of t).level1 (record { word = w; plan = p })
  pub second : holds rows solutions mix_of (table_of t).level1 w ≡ false → DependsIn rows solutions mix_of (table_of t).level2 (on_second mix_of (record { word = w; plan = p }))

-- the numbers of a table with one live word more, whose plan is p
abbrev pub counted_in : ℕ → List ℕ → List ℕ
counted_in p t = one_more (totals_at + p) (set t live_count_at (get_or t live_count_at 0 + 1))

-- there is room for it in the live count and in each total
pub record Countable (p : ℕ) (t : List ℕ) : Type 0 where
  pub long : totals_at + total_numbers ≤ length t
  pub fits : p < total_numbers
  pub count : get_or t live_count_at 0 + 1 < 2 ^ 64
  pub total : (x : ℕ) → x < total_numbers → get_or t (totals_at + x) 0 + 1 < 2 ^ 64
