-- `table_add::add_word` meets its contract.
-- Assumes nothing.
use mathlib.Core.Path.{refl, sym, ap, ◌∙◌}
use Rattle.hash.specs.Mix.{mix_of}
use Rattle.table.specs.Table.{holds}
use Rattle.table.specs.Calls.{rows, solutions, table_of}
use Rattle.table_edit.proofs.Calls.{live, gone}
use Rattle.table_add.specs.Arrivals.{Passing}
use Rattle.table_add.proofs.Added.{added-live, added-gone}
use Rattle.table_add.proofs.add_word.Goals.{Else-holds}
use Rattle.table_add.proofs.add_word.Goals as goal

-- level 1 does not hold the word
past : (c : Else-holds) → Passing c.args.t.now c.args.w c.args.plan
past c = record { ready = c.requires.0; plan = c.requires.1; past = sym c.holds.ensures ∙ c.if-holds.false }

pub add_first-requires : goal.add_first-requires
add_first-requires c = record { ready = c.requires.0; plan = c.requires.1; held = sym c.holds.ensures ∙ c.if-holds.true }

pub add_second-requires : goal.add_second-requires
add_second-requires c =
    (past (goal.at.add_second-requires c).Else-holds, ap (holds rows solutions mix_of (table_of c.args.t.now).level2) (sym c.second.ensures) ∙ sym c.holds-2.ensures ∙ c.if-holds-2.true)

pub enter_last-requires : goal.enter_last-requires
enter_last-requires c =
    (past (goal.at.enter_last-requires c).Else-holds, ap (holds rows solutions mix_of (table_of c.args.t.now).level2) (sym c.second.ensures) ∙ sym c.holds-2.ensures ∙ c.if-holds-2.false)

pub returns-in-Some : goal.returns-in-Some
returns-in-Some c =
    let l = live c.args.t.now c.args.w c.plan_in.result c.plan_in.ensures c.in-Some.q c.in-Some.is in
    rw (added-live c.args.t.now c.args.w c.args.plan c.in-Some.q l) (refl, refl)

pub returns-in-None : goal.returns-in-None
returns-in-None c =
    let l = gone c.args.t.now c.args.w c.plan_in.result c.plan_in.ensures c.in-None.is in
    rw (added-gone c.args.t.now c.args.w c.args.plan l) c.enter_last.ensures
