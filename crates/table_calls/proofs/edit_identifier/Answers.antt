-- `table_calls::edit_identifier` meets its contract.
-- Assumes nothing.
use borrow.Author.Rules.{rules}
use mathlib.Core.Path.{refl, sym, ap, ◌∙◌}
use mathlib.Core.Bool.{Bool}
use Rattle.identifier.specs.Identifier.{token, read_of, with_plan}
use Rattle.table_edit.specs.Ready.{admitted}
use Rattle.table_edit.proofs.Calls.{ready, allowed, edit_word, edit_refused}
use Rattle.table_calls.proofs.edit_identifier.Goals as goal

pub returns-in_err-word : goal.returns-in_err-word
returns-in_err-word c =
    rw (edit_refused _ _ c.args.edit _ (c.admit.ensures ∙ ap (λ (b : Bool). admitted c.args.t.now (with_plan b (read_of (token c.args.kind c.args.id.now)))) c.plan_allowed.ensures) _ c.in_err-word.was) (search rules, refl)

pub edit_word-requires : goal.edit_word-requires
edit_word-requires c =
    let y = read_of (token c.args.kind c.args.id.now) in (
      ready _ _ (with_plan c.plan_allowed.result y) _ c.admit.ensures c.in_ok-word.was (λ i. (c.slice_known-1.given i).fits),
      sym c.plan_allowed.ensures ∙ allowed _ _ c.plan_allowed.result y _ c.admit.ensures c.in_ok-word.was,
    )

pub returns : goal.returns
returns c =
    rw (edit_word _ _ c.args.edit _ (c.admit.ensures ∙ ap (λ (b : Bool). admitted c.args.t.now (with_plan b (read_of (token c.args.kind c.args.id.now)))) c.plan_allowed.ensures) _ c.in_ok-word.was) c.edit_word.ensures
