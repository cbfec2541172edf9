-- `lines_run::ask` meets its contract.
-- Assumes nothing.
use Rattle.std.proofs.Common.{Bool, refl, ap, ◌∙◌, rules}
use Rattle.identifier.specs.Identifier.{token, read_of, with_plan}
use Rattle.lines_run.proofs.Asked.{asked_word, asked_refused}
use Rattle.lines_run.proofs.ask.Goals as goal

pub returns : goal.returns
returns c =
    let i = token c.args.kind c.args.id.now in
    rw (asked_word c.args.t.now c.requires c.args.verb i c.word_for.result (c.word_for.ensures ∙ ap (λ (b : Bool). with_plan b (read_of i)) c.plan_allowed.ensures) c.in_ok-word.word c.in_ok-word.was)
    c.serve.ensures

pub returns-in_err-word : goal.returns-in_err-word
returns-in_err-word c =
    let i = token c.args.kind c.args.id.now in
    rw (asked_refused c.args.t.now c.requires c.args.verb i c.word_for.result (c.word_for.ensures ∙ ap (λ (b : Bool). with_plan b (read_of i)) c.plan_allowed.ensures) _ c.in_err-word.was)
    (search rules, refl)
