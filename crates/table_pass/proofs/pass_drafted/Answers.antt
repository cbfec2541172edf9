-- `table_pass::pass_drafted` meets its contract.
-- Assumes nothing.
use mathlib.Core.Path.{subst⁻¹}
use mathlib.Core.Bool.{true}
use Rattle.hash.specs.Mix.{mix_of}
use Rattle.table.specs.Calls.{rows, solutions, table_of}
use Rattle.table_arrive.specs.Arrival.{FlatKept}
use Rattle.table_pass.specs.Passing.{seconds, all_to_second, Drafted}
use Rattle.table_pass.proofs.Passing.{draft_same_size, drafted_same_size, drafted, from_draft, not_drafted}
use borrow.Author.Rules.{rules}
use Rattle.table_pass.proofs.pass_drafted.Goals.{Else-not-carry}
use Rattle.table_pass.proofs.pass_drafted.Goals as goal

-- not done: the table is as it was
pub returns-then-not-carry : goal.returns-then-not-carry
returns-then-not-carry c =
    not_drafted rows solutions _ _ _ (from_draft rows solutions mix_of ((seconds mix_of c.args.entries.now)) _ _ _ _ _ c.carry.ensures c.if-not-carry.true (search rules))

-- done: the words go on, as the draft shows
on : (c : Else-not-carry) → Drafted rows solutions (all_to_second rows solutions mix_of (table_of c.args.t.now) ((seconds mix_of c.args.entries.now))) true c.carry.new.t
on c =
    from_draft rows solutions mix_of ((seconds mix_of c.args.entries.now)) _ _ _ _ _ c.carry.ensures c.if-not-carry.false (search rules)

pub carry-requires : goal.carry-requires
carry-requires c =
    let copied = subst⁻¹ (FlatKept rows solutions) c.put.ensures c.requires.0 in
    copied

pub take_buckets-requires : goal.take_buckets-requires
take_buckets-requires c = draft_same_size rows solutions mix_of _ c.requires.0 ((seconds mix_of c.args.entries.now)) _ (on (goal.at.take_buckets-requires c).Else-not-carry)

pub take_base-requires : goal.take_base-requires
take_base-requires c =
    drafted_same_size rows solutions mix_of _ c.requires.0 ((seconds mix_of c.args.entries.now)) _ (on (goal.at.take_base-requires c).Else-not-carry) _ c.take_buckets.ensures

pub returns : goal.returns
returns c =
    drafted rows solutions mix_of _ c.requires.0 ((seconds mix_of c.args.entries.now)) _ (on (goal.at.returns c).Else-not-carry) _ c.take_buckets.ensures _ c.take_base.ensures
