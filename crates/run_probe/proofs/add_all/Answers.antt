-- `run_probe::add_all` meets its contract.
-- Assumes nothing.
use lib.ListN.{get_or}
use Rattle.run_probe.proofs.Fill.{low-plan, tested, filling_next, filling_stops, filling_all}
use Rattle.run_probe.proofs.add_all.Goals as goal

pub returns-then-is_err : goal.returns-then-is_err
returns-then-is_err c =
    filling_stops c.args.t.now c.args.words.now c.loop-i.t c.loop-i.i c.loop-i.invariant c.loop-i-test.true _ c.add_word.ensures.1
    (tested c.add_word.ensures.0 c.if-is_err.ensures.value)

pub loop-i-preserved : goal.loop-i-preserved
loop-i-preserved c =
    filling_next c.args.t.now c.args.words.now c.loop-i.t c.loop-i.i c.loop-i.invariant c.loop-i-test.true _ c.add_word.ensures.1 (c.type_inv.words c.loop-i.i).fits
    (tested c.add_word.ensures.0 c.if-is_err.ensures.value)

pub returns : goal.returns
returns c =
    filling_all c.args.t.now c.args.words.now c.loop-i.t c.loop-i.i c.loop-i.invariant c.loop-i-test.false c.loop-i.auto.i-end
