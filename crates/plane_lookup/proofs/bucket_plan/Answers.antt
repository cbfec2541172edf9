-- `plane_lookup::bucket_plan` meets its contract. The loop counts down: it has the product of the solution words from i on.
-- Assumes nothing.
use mathlib.Core.Path.{◌≡◌, sym}
use mathlib.Core.List.{List}
use Prim.Native.Nat.{ℕ, ◌^◌, ◌<◌}
use native.Mathlib.Omega.{arith}
use lib.ListN.{length, drop}
use Rattle.gf2.proofs.Bit.{dot_lt}
use Rattle.gf2.proofs.Loops.{product_down, product-end, product-rest}
use Rattle.table.specs.Calls.{solutions}
use Rattle.plane.specs.Record.{word_bytes, word_from}
use Rattle.plane.proofs.Read.{length-read_all}
use Rattle.plane_lookup.proofs.bucket_plan.Goals.{After-dot}
use Rattle.plane_lookup.proofs.bucket_plan.Invariants.{sols}
use Rattle.plane_lookup.proofs.bucket_plan.Goals as goal

length_sols : (p : List ℕ) → length (sols p) ≡ solutions
length_sols p = length-read_all word_bytes word_from solutions (drop 2 p)

small : (c : After-dot) → (c.loop-i.plan < 2 ^ 63) × (c.dot.result < 2)
small c = (
  rw c.loop-i.invariant (product-rest (sols c.args.p.now) c.args.v c.loop-i.i 63 (omega (arith, length_sols c.args.p.now))),
  rw c.dot.ensures (dot_lt _ _),
)

pub loop-i-init : goal.loop-i-init
loop-i-init c =
    sym (product-end (sols c.args.p.now) c.args.v solutions (omega (arith, length_sols c.args.p.now)))

pub overflow_mul-plan : goal.overflow_mul-plan
overflow_mul-plan c = omega (arith, small (goal.at.overflow_mul-plan c).After-dot)

pub overflow_add-plan : goal.overflow_add-plan
overflow_add-plan c = omega (arith, small (goal.at.overflow_add-plan c).After-dot)

pub loop-i-preserved : goal.loop-i-preserved
loop-i-preserved c =
    cc (product_down (sols c.args.p.now) c.args.v c.loop-i.i (omega arith) (omega (arith, length_sols c.args.p.now)))
