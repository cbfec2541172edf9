-- `table_layout::shaped` meets its contract.
-- Assumes nothing.
use mathlib.Core.Path.{sym, ◌∙◌}
use borrow.Author.Tests.{le-leb, lt-leb}
use Rattle.table.specs.Test.{shape_test}
use Rattle.table_layout.proofs.shaped.Goals as goal

pub returns-then-t-lt-LEADING : goal.returns-then-t-lt-LEADING
unfolding shape_test
returns-then-t-lt-LEADING c = simp (lt-leb _ _ c.if-t-lt-LEADING.true)

pub returns-then-in_range : goal.returns-then-in_range
unfolding shape_test
returns-then-in_range c =
    simp (c.length_of.ensures, le-leb _ _ c.if-t-lt-LEADING.false, sym c.in_range.ensures ∙ c.if-in_range.true)

pub returns-else-in_range : goal.returns-else-in_range
unfolding shape_test
returns-else-in_range c = simp (c.if-in_range.false, le-leb _ _ c.if-t-lt-LEADING.false, sym c.in_range.ensures ∙ c.if-in_range.false)
