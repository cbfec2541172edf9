-- `plane_lookup::bucket_plan` meets its contract. The loop counts down: it has the product of the solution words from i on.
-- Assumes nothing.
use mathlib.Core.Path.{◌≡◌}
use mathlib.Core.List.{List}
use Prim.Native.Nat.{ℕ}
use lib.ListN.{drop}
use Rattle.gf2.specs.Vectors.{product}
use Rattle.plane.specs.Record.{format1, bucket_from}
use Rattle.plane_lookup.proofs.bucket_plan.Given as goal

abbrev pub sols : List ℕ → List ℕ
sols p = (bucket_from format1 p).sols

abbrev pub invariant-loop-i : goal.invariant-loop-i
invariant-loop-i l = l.plan ≡ product (drop l.i (sols l.p)) l.v
