-- `table_base::first_hit` meets its contract: no w' that the loop passed is hit.
-- Assumes nothing.
use mathlib.Core.Path.{sym, ◌∙◌}
use native.Mathlib.Numerals.{add-one}
use native.Mathlib.Omega.{arith}
use Prim.Native.Nat.{◌/◌}
use lib.ListN.{length}
use Rattle.table_base.specs.Base.{hits}
use Rattle.table_base.proofs.Shift.{before_here, before-next, before-end}
use Rattle.table_base.proofs.first_hit.Goals as goal

pub returns-then-hits-clause-place : goal.returns-then-hits-clause-place
returns-then-hits-clause-place c =
    omega (arith, before_here (hits c.args.larger c.args.v) c.args.pairs.now (length c.args.pairs.now / 2) c.loop-i.i c.loop-i-test.true (sym c.hits.ensures ∙ c.if-hits.true))

pub loop-i-preserved : goal.loop-i-preserved
loop-i-preserved c =
    rw add-one
    (omega (
      arith,
      before-next (hits c.args.larger c.args.v) c.args.pairs.now (length c.args.pairs.now / 2) c.loop-i.i c.loop-i-test.true (sym c.hits.ensures ∙ c.if-hits.false),
    ))

pub returns-clause-place : goal.returns-clause-place
returns-clause-place c =
    omega (arith, before-end (hits c.args.larger c.args.v) c.args.pairs.now (length c.args.pairs.now / 2) c.loop-i.i c.loop-i-test.false)
