-- `bucket::product` meets its contract. The loop counts down by stretches of 16 columns: it has the product of the columns from 16 i on.
-- Assumes nothing.
use mathlib.Core.Path.{◌≡◌}
use Prim.Native.Nat.{◌*◌}
use lib.ListN.{drop}
use Rattle.gf2.specs.Vectors.{product}
use Rattle.bucket.proofs.product.Given as goal

abbrev pub invariant-loop-i : goal.invariant-loop-i
invariant-loop-i l = l.p ≡ product (drop (16 * l.i) l.cols) l.k
