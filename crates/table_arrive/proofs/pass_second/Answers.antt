-- `table_arrive::pass_second` meets its contract.
-- Assumes nothing.
use native.Mathlib.Omega.{arith}
use Rattle.hash.specs.Mix.{mix_of}
use Rattle.table.specs.Calls.{rows, solutions}
use Rattle.table_arrive.proofs.Tables.{long}
use Rattle.table_arrive.proofs.Settled.{pass_full, pass-done}
use Rattle.table_arrive.proofs.pass_second.Goals as goal

pub bounds-t-2 : goal.bounds-t-2
bounds-t-2 c = let h = long rows solutions _ c.requires.0 in omega arith

pub enter_base-requires : goal.enter_base-requires
enter_base-requires c =
    (c.requires.0, omega (arith, c.if-t-lt-BASE_ENTRIES.true))

pub returns-then-t-lt-BASE_ENTRIES : goal.returns-then-t-lt-BASE_ENTRIES
returns-then-t-lt-BASE_ENTRIES c =
    pass-done rows solutions mix_of _ c.requires.0 ((record { word = c.args.v; plan = c.args.plan })) c.requires.1 c.ranges.v.fits _ c.enter_base.ensures c.if-t-lt-BASE_ENTRIES.true

pub returns : goal.returns
returns c =
    pass_full rows solutions mix_of _ c.requires.0 ((record { word = c.args.v; plan = c.args.plan })) c.requires.1 c.if-t-lt-BASE_ENTRIES.false
