-- `table_open::open` meets its contract: the tests that led to each answer.
-- Assumes nothing.
use mathlib.Core.Path.{refl, sym, ◌∙◌}
use Rattle.table_open.proofs.Opened.{out_of_range, wrong-length, accepted}
use Rattle.table_open.proofs.open.Goals as goal

pub returns-then-not-in_range : goal.returns-then-not-in_range
returns-then-not-in_range c = rw (out_of_range c.args.b1 c.args.b2 c.args.t.now (sym c.if-not-in_range.ensures)) (refl, refl)

pub returns-then-size-length_of : goal.returns-then-size-length_of
returns-then-size-length_of c =
    rw (wrong-length c.args.b1 c.args.b2 c.args.t.now (sym c.if-not-in_range.ensures) (λ e. c.if-size-length_of.true (e ∙ sym c.length_of.ensures))) (refl, refl)

pub returns : goal.returns
returns c = rw (accepted _ _ _ (sym c.if-not-in_range.ensures) (c.if-size-length_of.false ∙ c.length_of.ensures)) (refl, c.lay_out.ensures)
