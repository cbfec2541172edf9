-- `plane::wrong_at` meets its contract.
-- Assumes nothing.
use mathlib.Core.Path.{◌≡◌, refl}
use mathlib.Core.Bool.{true}
use native.Mathlib.Omega.{arith}
use Rattle.plane.specs.Record.{format1}
use Rattle.plane.specs.Plane.{header_fits, wrong_at}
use Rattle.plane.proofs.Scan.{refused, passed, Header, header}
use Rattle.plane.proofs.wrong_at.Goals.{Else-not-header_fits}
use Rattle.plane.proofs.wrong_at.Goals as goal

fits : (c : Else-not-header_fits) → header_fits format1 c.args.plane.now ≡ true
fits c = passed c.header_fits.result c.header_fits.ensures c.if-not-header_fits.false

known : (c : Else-not-header_fits) → Header c.args.plane.now
known c =
    let fits : header_fits format1 c.args.plane.now ≡ true =
    passed c.header_fits.result c.header_fits.ensures c.if-not-header_fits.false in
    header format1 _ (fits)

pub returns-then-not-header_fits : goal.returns-then-not-header_fits
unfolding wrong_at
returns-then-not-header_fits c = rw (refused _ c.header_fits.ensures c.if-not-header_fits.true) refl

pub bounds-plane-2 : goal.bounds-plane-2
bounds-plane-2 c = omega (arith, known (goal.at.bounds-plane-2 c).Else-not-header_fits)

pub bounds-plane-3 : goal.bounds-plane-3
bounds-plane-3 c = omega (arith, known (goal.at.bounds-plane-3 c).Else-not-header_fits)

pub overflow_add-from : goal.overflow_add-from
overflow_add-from c = omega (arith, known (goal.at.overflow_add-from c).Else-not-header_fits)

pub bounds-plane-4 : goal.bounds-plane-4
bounds-plane-4 c = omega (arith, known (goal.at.bounds-plane-4 c).Else-not-header_fits)

pub records_wrong-requires : goal.records_wrong-requires
records_wrong-requires c = omega (arith, known (goal.at.records_wrong-requires c).Else-not-header_fits)

pub returns : goal.returns
unfolding wrong_at
returns c =
    rw (fits (goal.at.returns c).Else-not-header_fits, ← c.from.ensures, ← c.from-2.ensures, ← c.from-3.ensures)
    c.records_wrong.ensures
