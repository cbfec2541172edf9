-- `table_add::add` meets its contract.
-- Assumes nothing.
use borrow.Author.Rules.{rules}
use mathlib.Core.Path.{refl, sym, ap, ◌∙◌}
use mathlib.Core.Bool.{Bool}
use Rattle.identifier.specs.Identifier.{token, read_of, with_plan}
use Rattle.model.specs.Model.{add}
use Rattle.table_edit.specs.Ready.{admitted}
use Rattle.table_edit.proofs.Calls.{ready, allowed, call_word, call_refused}
use Rattle.table_add.proofs.add.Goals as goal

pub add_word-requires : goal.add_word-requires
add_word-requires c =
    let y = read_of (token c.args.kind c.args.id.now) in (
      ready _ _ (with_plan c.assignable.result y) _ c.admit.ensures c.in_ok-word.was (λ i. (c.slice_known-1.given i).fits),
      sym c.assignable.ensures ∙ allowed _ _ c.assignable.result y _ c.admit.ensures c.in_ok-word.was,
    )

pub returns : goal.returns
returns c =
    rw (call_word c.args.t.now (add (token c.args.kind c.args.id.now) c.args.plan) c.admit.result (c.admit.ensures ∙ ap (λ (b : Bool). admitted c.args.t.now (with_plan b (read_of (token c.args.kind c.args.id.now)))) c.assignable.ensures) c.in_ok-word.word c.in_ok-word.was) c.add_word.ensures

pub returns-in_err-word : goal.returns-in_err-word
returns-in_err-word c =
    rw (call_refused c.args.t.now (add (token c.args.kind c.args.id.now) c.args.plan) c.admit.result (c.admit.ensures ∙ ap (λ (b : Bool). admitted c.args.t.now (with_plan b (read_of (token c.args.kind c.args.id.now)))) c.assignable.ensures) _ c.in_err-word.was) (search rules, refl)
