-- `table_layout::holds` meets its contract.
-- Assumes nothing.
use native.Mathlib.Omega.{arith}
use mathlib.Core.Path.{sym}
use Rattle.table_layout.proofs.Shape.{shape}
use Rattle.table_layout.proofs.Levels.{index_lt, level-here}
use Rattle.table_layout.proofs.holds.Goals as goal

pub bound_at-requires : goal.bound_at-requires
bound_at-requires c = (c.requires, omega (arith, index_lt c.args.t.now (shape c.requires) c.args.v c.args.level))

pub returns : goal.returns
returns c =
    rw (sym (level-here c.args.t.now (shape c.requires) c.args.v c.args.level), c.threshold.ensures, c.bound_at.ensures, c.index.ensures)
