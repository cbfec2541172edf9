-- `table_sound::pair_off` meets its contract.
-- Assumes nothing.
use mathlib.Core.Path.{sym, ◌∙◌}
use Rattle.table_rows.proofs.Counting.{left-stopped, off_failed, off_counted}
use Rattle.table_sound.specs.Held.{pair_test}
use Rattle.table_sound.proofs.pair_off.Goals as goal

pub returns-then-pair_held : goal.returns-then-pair_held
returns-then-pair_held c =
    off_counted (pair_test c.args.t.now) (record { word = c.args.word; plan = c.args.plan }) c.args.left.now (sym c.pair_held.ensures ∙ c.if-pair_held.true) _ _ c.count_off.ensures.0 c.count_off.ensures.1

pub returns-else-pair_held : goal.returns-else-pair_held
returns-else-pair_held c =
    rw c.if-pair_held.false (left-stopped c.args.left.now (off_failed (pair_test c.args.t.now) (record { word = c.args.word; plan = c.args.plan }) c.args.left.now (sym c.pair_held.ensures ∙ c.if-pair_held.false)))
