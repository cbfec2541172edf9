-- `table_add::enter_last` meets its contract.
-- Assumes nothing.
use mathlib.Core.Path.{ap, ◌∙◌}
use Rattle.hash.specs.Mix.{mix_of}
use Rattle.table.specs.Table.{holds}
use Rattle.table.specs.Calls.{rows, solutions, table_of}
use Rattle.table_add.proofs.Added.{ready_kept, passing_room, passing-done, passing_full}
use Rattle.table_add.proofs.enter_last.Goals as goal

pub pass_second-requires : goal.pass_second-requires
pass_second-requires c =
    (ready_kept _ c.requires.0.ready, ap (holds rows solutions mix_of (table_of c.args.t.now).level2) c.second.ensures ∙ c.requires.1)

pub count_one-requires : goal.count_one-requires
count_one-requires c =
    passing_room c.requires.0 c.ranges.w.fits c.second.ensures c.pass_second.ensures c.if-pass_second.true

pub returns-then-pass_second : goal.returns-then-pass_second
returns-then-pass_second c =
    passing-done c.requires.0 c.ranges.w.fits c.second.ensures c.pass_second.ensures c.if-pass_second.true _ _ c.count_one.ensures

pub returns : goal.returns
returns c =
    passing_full c.requires.0 c.ranges.w.fits c.second.ensures c.pass_second.ensures c.if-pass_second.false
