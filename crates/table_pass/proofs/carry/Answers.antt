-- `table_pass::carry` meets its contract.
-- Assumes nothing.
use native.Mathlib.Omega.{arith}
use mathlib.Core.Path.{◌∙◌}
use Rattle.hash.specs.Mix.{mix_of}
use Rattle.table.specs.Calls.{rows, solutions}
use Rattle.table_pass.proofs.Passing.{seconds-next, seconds-length, carrying_next, carrying_stops, carrying_ends}
use Rattle.table_pass.proofs.carry.Goals as goal

pub loop-e-preserved : goal.loop-e-preserved
loop-e-preserved c =
    carrying_next rows solutions mix_of _ _ _ _ c.loop-e.invariant _ (seconds-next mix_of c.args.entries.now c.loop-e.e-index _ c.loop-e-test.true (c.e.view_is ∙ c.e-item.is) _ c.second.ensures) _ _ c.arrive_second.ensures c.if-not-arrive_second.false

pub returns-then-not-arrive_second : goal.returns-then-not-arrive_second
returns-then-not-arrive_second c =
    carrying_stops rows solutions mix_of _ _ _ _ c.loop-e.invariant _ (seconds-next mix_of c.args.entries.now c.loop-e.e-index _ c.loop-e-test.true (c.e.view_is ∙ c.e-item.is) _ c.second.ensures) _ _ c.arrive_second.ensures c.if-not-arrive_second.true

pub returns : goal.returns
returns c =
    carrying_ends rows solutions mix_of _ _ _ _ c.loop-e.invariant (omega (arith, c.loop-e-test.false, seconds-length mix_of c.args.entries.now))
