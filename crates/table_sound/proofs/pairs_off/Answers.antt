-- `table_sound::pairs_off` meets its contract: what is left of the totals from pair i on is what is left of all.
-- Assumes nothing.
use Rattle.table_sound.specs.Held.{pair_test}
use Rattle.table_sound.proofs.Held.{pairs_on, pairs_out}
use Rattle.table_sound.proofs.pairs_off.Goals as goal

pub loop-i-preserved : goal.loop-i-preserved
loop-i-preserved c =
    pairs_on c.args.pairs.now (pair_test c.args.t.now) c.loop-i.i _ c.loop-i.left c.loop-i-test.true c.loop-i.invariant c.pair_off.new.left c.pair_off.ensures c.if-not-pair_off.false

pub returns-then-not-pair_off : goal.returns-then-not-pair_off
returns-then-not-pair_off c =
    pairs_out c.args.pairs.now (pair_test c.args.t.now) c.loop-i.i _ c.loop-i.left c.loop-i-test.true c.loop-i.invariant c.pair_off.new.left c.pair_off.ensures c.if-not-pair_off.true
