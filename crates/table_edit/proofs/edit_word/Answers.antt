-- `table_edit::edit_word` meets its contract.
-- Assumes nothing.
use borrow.Author.Rules.{rules}
use native.Mathlib.Omega.{arith}
use Prim.Native.Nat.{ℕ, ◌-◌}
use mathlib.Core.Path.{refl, sym, ap, ◌∙◌}
use lib.ListN.{get_or, set}
use Rattle.table.specs.Layout.{live_count_at}
use Rattle.table_edit.specs.Edit.{recounted_in}
use Rattle.table_edit.proofs.Touched.{long}
use Rattle.table_edit.proofs.Calls.{was_live, was_gone, edit_live, edit_movable, edit_gone, counted}
use Rattle.table_edit.proofs.edit_word.Goals as goal

pub returns-in_err-plan : goal.returns-in_err-plan
returns-in_err-plan c =
    let l = was_gone c.plan_in.result _ (sym c.ok_or.ensures.value ∙ c.in_err-plan.was) in
    rw (edit_gone c.args.t.now c.args.w c.plan_in.result c.plan_in.ensures l.0 c.args.edit) (search (rules, l.1), refl)

pub bounds-t-3 : goal.bounds-t-3
bounds-t-3 c = omega (arith, long c.requires.0)

pub overflow_sub-live : goal.overflow_sub-live
overflow_sub-live c =
    let l = was_live c.plan_in.result _ (sym c.ok_or.ensures.value ∙ c.in_ok-plan.was) in
    rw c.leaving.ensures (counted c.args.t.now c.args.w c.plan_in.result c.plan_in.ensures c.in_ok-plan.plan l c.requires.0 c.ranges.w.fits c.args.edit)

pub bounds-t-3-2 : goal.bounds-t-3-2
bounds-t-3-2 c = omega (arith, c.touch.auto.t, long c.requires.0)

pub recount-requires : goal.recount-requires
recount-requires c =
    let l = was_live c.plan_in.result _ (sym c.ok_or.ensures.value ∙ c.in_ok-plan.was) in
    rw c.leaving.ensures
    (edit_movable c.args.t.now c.args.w c.plan_in.result c.plan_in.ensures c.in_ok-plan.plan l c.requires.0 c.ranges.w.fits c.args.edit c.requires.1 c.touch.new.t c.touch.ensures)

pub returns : goal.returns
returns c =
    let l = was_live c.plan_in.result _ (sym c.ok_or.ensures.value ∙ c.in_ok-plan.was) in
    rw (edit_live c.args.t.now c.args.w c.plan_in.result c.plan_in.ensures c.in_ok-plan.plan l c.requires.0 c.ranges.w.fits c.args.edit c.requires.1 c.touch.new.t c.touch.ensures)
    (refl, c.recount.ensures ∙ ap (λ (k : ℕ). recounted_in c.args.edit c.in_ok-plan.plan (set c.touch.new.t live_count_at (get_or c.args.t.now live_count_at 0 - k))) c.leaving.ensures)
