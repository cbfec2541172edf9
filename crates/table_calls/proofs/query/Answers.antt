-- `table_calls::query` meets its contract.
-- Assumes nothing.
use borrow.Author.Rules.{rules}
use mathlib.Core.Path.{refl}
use mathlib.Core.Bool.{true}
use Rattle.identifier.specs.Identifier.{token, read_of, with_plan}
use Rattle.model.specs.Model.{query}
use Rattle.table_edit.proofs.Calls.{ready, call_word, call_refused}
use Rattle.table_calls.proofs.query.Goals as goal

pub returns-in_err-word : goal.returns-in_err-word
returns-in_err-word c =
    rw (call_refused c.args.t.now (query (token c.args.kind c.args.id.now)) c.admit.result c.admit.ensures _ c.in_err-word.was) (search rules, refl)

pub query_word-requires : goal.query_word-requires
query_word-requires c =
    ready _ _ (with_plan true (read_of (token c.args.kind c.args.id.now))) _ c.admit.ensures c.in_ok-word.was (λ i. (c.type_inv.t i).fits)

pub returns : goal.returns
returns c =
    rw (call_word c.args.t.now (query (token c.args.kind c.args.id.now)) c.admit.result c.admit.ensures c.in_ok-word.word c.in_ok-word.was) c.query_word.ensures
