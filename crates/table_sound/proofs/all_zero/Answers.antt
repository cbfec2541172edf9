-- `table_sound::all_zero` meets its contract: the bits seen so far are 0 and the numbers to come are, exactly where all of them are.
-- Assumes nothing.
use mathlib.Core.Path.{◌∙◌}
use Rattle.table_sound.proofs.Held.{seen_next}
use Rattle.table_sound.proofs.all_zero.Goals as goal

pub loop-x-preserved : goal.loop-x-preserved
loop-x-preserved c =
    seen_next c.args.words.now c.loop-x.seen c.loop-x.x-index c.loop-x-test.true ∙ c.loop-x.invariant
