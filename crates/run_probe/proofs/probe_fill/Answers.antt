-- `run_probe::probe_fill` meets its contract.
-- Assumes nothing.
use Rattle.run_probe.proofs.Fill.{tested, opened_ready, filled_some, filled_none}
use Rattle.run_probe.proofs.probe_fill.Goals as goal

pub returns-then-is_err : goal.returns-then-is_err
returns-then-is_err c =
    filled_none c.args.b1 c.args.b2 c.args.t.now c.args.words.now _ c.open.ensures.1 (tested c.open.ensures.0 c.if-is_err.ensures.value)

pub add_all-requires : goal.add_all-requires
add_all-requires c =
    opened_ready c.args.b1 c.args.b2 c.args.t.now c.args.words.now _ c.open.ensures.1 (tested c.open.ensures.0 c.if-is_err.ensures.value)

pub returns : goal.returns
returns c =
    filled_some c.args.b1 c.args.b2 c.args.t.now c.args.words.now _ c.open.ensures.1 (tested c.open.ensures.0 c.if-is_err.ensures.value) _ _ c.add_all.ensures
