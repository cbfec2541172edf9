-- `table_sound::pairs_ascend` meets its contract: the pairs from the one before i on ascend exactly when all do.
-- Assumes nothing.
use native.Mathlib.Omega.{arith}
use borrow.Author.Tests.{lt-ltb, le-ltb}
use Rattle.table_rows.proofs.Counting.{go_on}
use Rattle.table_sound.proofs.Held.{ascends-next}
use Rattle.table_sound.proofs.pairs_ascend.Goals as goal

pub loop-i-preserved : goal.loop-i-preserved
loop-i-preserved c =
    go_on _ (ascends-next c.args.pairs.now c.loop-i.i _ (omega arith) c.loop-i-test.true) (lt-ltb _ _ c.if-pairs-i.false) c.loop-i.invariant

pub returns-then-pairs-i : goal.returns-then-pairs-i
returns-then-pairs-i c =
    go_on _ (ascends-next c.args.pairs.now c.loop-i.i _ (omega arith) c.loop-i-test.true) (le-ltb _ _ c.if-pairs-i.true) c.loop-i.invariant
