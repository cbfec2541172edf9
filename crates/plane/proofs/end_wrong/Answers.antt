-- `plane::end_wrong` meets its contract.
-- Assumes nothing.
use mathlib.Core.Path.{◌≡◌, sym}
use mathlib.Core.Bool.{true}
use native.Mathlib.Omega.{arith}
use lib.ListN.{length, drop}
use Rattle.lists.proofs.Parts.{rest}
use Rattle.plane.specs.Record.{end_length}
use Rattle.plane.specs.Plane.{end_fits}
use Rattle.plane.proofs.Scan.{refused, passed, end_cut, end_more, end_right}
use Rattle.plane.proofs.end_wrong.Goals.{Else-not-end_fits, Then-p-ne-END_LEN}
use Rattle.plane.proofs.end_wrong.Goals as goal

fits : (c : Else-not-end_fits) → end_fits (drop c.args.at c.args.plane.now) ≡ true
fits c = rw rest at (passed c.end_fits.result c.end_fits.ensures c.if-not-end_fits.false)

-- more than the end
more : (c : Then-p-ne-END_LEN) → length (drop c.args.at c.args.plane.now) ≡ end_length → ⊥
more c e = let t = rw rest at c.if-p-ne-END_LEN.true in omega arith

pub returns-then-not-end_fits : goal.returns-then-not-end_fits
returns-then-not-end_fits c =
    let off = rw (rest c.args.at c.args.plane.now) at (refused c.end_fits.result c.end_fits.ensures c.if-not-end_fits.true) in
    sym (end_cut c.args.at (drop c.args.at c.args.plane.now) off)

pub returns-then-p-ne-END_LEN : goal.returns-then-p-ne-END_LEN
returns-then-p-ne-END_LEN c =
    sym (end_more c.args.at (drop c.args.at c.args.plane.now) (fits (goal.at.returns-then-p-ne-END_LEN c).Else-not-end_fits) (λ e. more (goal.at.returns-then-p-ne-END_LEN c).Then-p-ne-END_LEN e))

pub returns : goal.returns
returns c =
    sym (end_right c.args.at (drop c.args.at c.args.plane.now) (fits (goal.at.returns c).Else-not-end_fits) (rw rest at c.if-p-ne-END_LEN.false))
