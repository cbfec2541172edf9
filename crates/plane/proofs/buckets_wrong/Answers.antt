-- `plane::buckets_wrong` meets its contract. The buckets before bucket i fit.
-- Assumes nothing.
use mathlib.Core.Path.{sym, ◌∙◌}
use Prim.Native.Nat.{◌+◌, ◌-◌, ◌*◌}
use native.Mathlib.Omega.{arith}
use lib.ListN.{drop}
use Rattle.std.proofs.Common.{◌≡◌}
use Rattle.lists.proofs.Parts.{rest}
use Rattle.plane.specs.Record.{format1, bucket_length}
use Rattle.plane.specs.Plane.{buckets_wrong}
use Rattle.plane.proofs.Scan.{refused, passed, both, whole-next, buckets_turn, buckets_here}
use Rattle.plane.proofs.buckets_wrong.Goals as goal

pub returns-then-not-bucket_fits : goal.returns-then-not-bucket_fits
returns-then-not-bucket_fits c =
    let at = c.args.first + c.loop-i.i * bucket_length format1 in
    let off = rw (rest at c.args.plane.now) at (refused c.bucket_fits.result c.bucket_fits.ensures c.if-not-bucket_fits.true) in
    sym (c.loop-i.invariant.1 ∙ buckets_here format1 (c.args.m - c.loop-i.i) at (drop at c.args.plane.now) (omega arith) off)

pub loop-i-preserved : goal.loop-i-preserved
loop-i-preserved c =
    let at = c.args.first + c.loop-i.i * bucket_length format1 in
    let fit = rw (rest at c.args.plane.now) at (passed c.bucket_fits.result c.bucket_fits.ensures c.if-not-bucket_fits.false) in
    (omega (arith, whole-next 2 65 at c.args.plane.now (both _ _ fit).0), c.loop-i.invariant.1 ∙ buckets_turn format1 c.args.m c.loop-i.i c.args.first c.args.plane.now (omega arith) fit)

pub returns : goal.returns
unfolding buckets_wrong
returns c =
    let z : c.args.m - c.loop-i.i ≡ 0 = omega arith in
    sym (rw z at c.loop-i.invariant.1)
