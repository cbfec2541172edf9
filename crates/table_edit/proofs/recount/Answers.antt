-- `table_edit::recount` meets its contract.
-- Assumes nothing.
use Prim.Native.Nat.{ℕ, ◌+◌, ◌^◌, ◌<◌}
use native.Mathlib.Omega.{arith}
use mathlib.Core.Path.{◌≡◌, sym, ap, ◌∙◌, subst, subst⁻¹}
use mathlib.Core.Bool.{true}
use mathlib.Core.List.{List}
use lib.ListN.{get_or}
use Rattle.lists.specs.Totals.{one_more, one_less}
use Rattle.table.specs.Table.{total_numbers}
use Rattle.lists.proofs.Entries.{assignable_byte}
use Rattle.table.specs.Layout.{totals_at}
use Rattle.table_edit.specs.declared.Edit.{Edit}
use Rattle.table_edit.specs.Edit.{recounted_in, edit_allowed, Movable}
use borrow.Author.Rules.{rules}
use Rattle.table_edit.proofs.recount.Goals as goal

-- once one is taken off, there is room for one more in each total
raisable : {d : Edit} {q : ℕ} {t u : List ℕ} → Movable d q t → u ≡ one_less (totals_at + q) t → (p : ℕ) → p < total_numbers → (p < total_numbers) × (get_or u (totals_at + p) 0 + 1 < 2 ^ 64)
raisable h e p l = (l, subst⁻¹ (λ (v : List ℕ). get_or v (totals_at + p) 0 + 1 < 2 ^ 64) e (h.room p l))

pub raise_total-requires : goal.raise_total-requires
raise_total-requires c =
    let byte : c.in-Change.plan < total_numbers = assignable_byte c.in-Change.plan (subst (λ (e : Edit). edit_allowed e ≡ true) c.in-Change.is c.requires.plan) in
    (omega (arith, c.lower_total.auto.t, c.requires.long), raisable c.requires c.lower_total.ensures _ (search rules))

pub returns-in-Change : goal.returns-in-Change
returns-in-Change c =
    c.raise_total.ensures ∙ ap (one_more (totals_at + c.in-Change.plan)) c.lower_total.ensures ∙ sym (ap (λ (e : Edit). recounted_in e c.args.q c.args.t.now) c.in-Change.is)

pub returns-in-Withdraw : goal.returns-in-Withdraw
returns-in-Withdraw c =
    c.lower_total.ensures ∙ sym (ap (λ (e : Edit). recounted_in e c.args.q c.args.t.now) c.in-Withdraw.is)
