-- `table_add::count_one` meets its contract.
-- Assumes nothing.
use Prim.Native.Nat.{ℕ, ◌+◌, ◌^◌, ◌≤◌, ◌<◌}
use native.Mathlib.Omega.{arith}
use mathlib.Core.Path.{◌∙◌, subst⁻¹}
use mathlib.Core.List.{List}
use lib.ListN.{length, get_or, set, length-set}
use lib.Seq.{get_or-set_other}
use Rattle.table.specs.Table.{total_numbers}
use Rattle.table.specs.Layout.{live_count_at, totals_at}
use Rattle.table_add.specs.Arrivals.{Countable}
use borrow.Author.Rules.{rules}
use Rattle.table_add.proofs.count_one.Goals as goal

-- the live count is written, whatever it is: the table is as long, and there is room for one more in each total
still_long : {p : ℕ} {t : List ℕ} → Countable p t → (c : ℕ) → totals_at + total_numbers ≤ length (set t live_count_at c)
still_long {p} {t} h c = omega (arith, length-set t live_count_at c, h.long)

raisable : {p : ℕ} {t : List ℕ} → Countable p t → (c x : ℕ) → x < total_numbers → (x < total_numbers) × (get_or (set t live_count_at c) (totals_at + x) 0 + 1 < 2 ^ 64)
raisable {p} {t} h c x l = (l, subst⁻¹ (λ (k : ℕ). k + 1 < 2 ^ 64) (get_or-set_other t live_count_at (totals_at + x) c 0 (λ e. omega arith)) (h.total x l))

pub raise_total-requires : goal.raise_total-requires
raise_total-requires c =
    (still_long c.requires _, raisable c.requires _ _ (search rules))

pub shape_of-t : goal.shape_of-t
shape_of-t c = c.raise_total.auto.t ∙ length-set c.args.t.now live_count_at _
