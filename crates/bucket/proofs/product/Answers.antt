-- `bucket::product` meets its contract. The loop counts down by stretches of 16 columns: it has the product of the columns from 16 i on.
-- Assumes nothing.
use mathlib.Core.Path.{◌≡◌, sym, ap, ◌∙◌}
use mathlib.Core.List.{List}
use Prim.Native.Nat.{ℕ, ◌+◌, ◌-◌, ◌*◌, ◌≤◌, ◌<◌}
use native.Mathlib.Omega.{arith}
use borrow.Author.Rules.{rules}
use lib.ListN.{length, take, drop}
use Rattle.lists.proofs.Parts.{stretch}
use Rattle.gf2.specs.Vectors.{product}
use Rattle.gf2.proofs.Loops.{product-end, product-rest, product_stretch}
use Rattle.bucket.proofs.product.Goals.{After-product_in, Start}
use Rattle.bucket.proofs.product.Goals as goal

-- a stretch as the code lends it, and what was had before
further : (cs : List ℕ) (k i : ℕ) → 0 < i → 16 * i ≤ length cs
    → product (drop (16 * (i - 1)) cs) k ≡ product (take (16 * (i - 1) + 16 - 16 * (i - 1)) (drop (16 * (i - 1)) cs)) k + 65536 * product (drop (16 * i) cs) k
further cs k i p h =
    product_stretch 16 cs k i p h ∙ ap (λ (l : List ℕ). product l k + 65536 * product (drop (16 * i) cs) k) (sym (stretch (16 * (i - 1)) 16 cs))

sized : (s : Start) → length s.args.cols ≡ 64
sized s = search rules

sum : (c : After-product_in) → c.product_in.result + 65536 * c.loop-i.p ≡ product (drop (16 * (c.loop-i.i - 1)) c.args.cols) c.args.k
sum c =
    let sized : length c.args.cols ≡ 64 =
    search rules in
    let l = sized in
    omega (arith, further c.args.cols c.args.k c.loop-i.i (omega arith) (omega arith), c.product_in.ensures, c.loop-i.invariant)

pub loop-i-init : goal.loop-i-init
loop-i-init c = let l = sized (goal.at.loop-i-init c).Start in sym (product-end c.args.cols c.args.k 64 (omega arith))

pub overflow_mul-p : goal.overflow_mul-p
overflow_mul-p c =
    omega (arith, product-rest c.args.cols c.args.k (16 * c.loop-i.i) 48 (omega (arith, sized (goal.at.overflow_mul-p c).Start)))

pub overflow_add-p : goal.overflow_add-p
overflow_add-p c =
    omega (arith, sum (goal.at.overflow_add-p c).After-product_in, product-rest c.args.cols c.args.k (16 * (c.loop-i.i - 1)) 64 (omega (arith, sized (goal.at.overflow_add-p c).Start)))

pub loop-i-preserved : goal.loop-i-preserved
loop-i-preserved c = sum (goal.at.loop-i-preserved c).After-product_in
