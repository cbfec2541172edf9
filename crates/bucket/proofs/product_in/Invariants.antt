-- `bucket::product_in` meets its contract. The loop counts down: even and odd have the product of the words from 2 i on.
-- Assumes nothing.
use mathlib.Core.Path.{◌≡◌}
use Prim.Native.Nat.{◌+◌, ◌*◌}
use lib.ListN.{drop}
use Rattle.gf2.specs.Vectors.{product}
use Rattle.bucket.proofs.product_in.Given as goal

abbrev pub invariant-loop-i : goal.invariant-loop-i
invariant-loop-i l = l.even + 2 * l.odd ≡ product (drop (2 * l.i) l.words) l.k
