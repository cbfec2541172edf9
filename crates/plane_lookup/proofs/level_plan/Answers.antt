-- `plane_lookup::level_plan` meets its contract.
-- Assumes nothing.
use mathlib.Core.Path.{sym, ap, ◌∙◌}
use Prim.Native.Nat.{ℕ, ◌*◌, ◌/◌}
use native.Mathlib.Omega.{arith}
use lib.ListN.{length}
use Rattle.std.specs.Prelude.{Some}
use Rattle.gf2.specs.Vectors.{product}
use Rattle.plane.specs.Record.{format1, bucket_length, PlaneBucket}
use Rattle.plane.proofs.Read.{bucket-part, level_held, level_passed}
use Rattle.plane_lookup.proofs.level_plan.Goals as goal

pub returns-then-threshold-from : goal.returns-then-threshold-from
returns-then-threshold-from c =
    let at = c.bucket.result * bucket_length format1 in
    let same = bucket-part format1 at c.args.level.now in
    let h = rw (c.threshold.ensures, c.from.ensures ∙ ap (λ (x : PlaneBucket). x.bound) same) at c.if-threshold-from.true in
    let plan = c.bucket_plan.ensures ∙ ap (λ (x : PlaneBucket). product x.sols c.args.v) same in
    ap Some plan ∙ sym (level_held format1 (length c.args.level.now / bucket_length format1) c.args.v at c.args.level.now (omega arith) (ap (λ (i : ℕ). i * bucket_length format1) c.bucket.ensures) h)

pub returns-else-threshold-from : goal.returns-else-threshold-from
returns-else-threshold-from c =
    let at = c.bucket.result * bucket_length format1 in
    let h = rw (c.threshold.ensures, c.from.ensures ∙ ap (λ (x : PlaneBucket). x.bound) (bucket-part format1 at c.args.level.now)) at c.if-threshold-from.false in
    sym (level_passed format1 (length c.args.level.now / bucket_length format1) c.args.v at c.args.level.now (omega arith) (ap (λ (i : ℕ). i * bucket_length format1) c.bucket.ensures) h)
