-- `bucket::product_in` meets its contract. The loop counts down: even and odd have the product of the words from 2 i on.
-- Assumes nothing.
use mathlib.Core.Path.{◌≡◌}
use Prim.Native.Nat.{◌+◌, ◌*◌, ◌^◌, ◌<◌}
use native.Mathlib.Nat.{lt_of_lt_of_le}
use native.Mathlib.Omega.{arith}
use lib.Pow.{pow_mono}
use Rattle.gf2.specs.Vectors.{product}
use Rattle.gf2.proofs.Bit.{dot_lt}
use Rattle.gf2.proofs.Linear.{product_lt}
use Rattle.gf2.proofs.Loops.{product-rest}
use Rattle.bucket.proofs.product_in.Goals.{After-dot, After-loop-i}
use Rattle.bucket.proofs.product_in.Goals as goal

-- what is left fits two bits further
rest_lt : (c : After-dot) → c.loop-i.even + 2 * c.loop-i.odd < 2 ^ 62
rest_lt c =
    rw c.loop-i.invariant (product-rest c.args.words.now c.args.k (2 * c.loop-i.i) 62 (omega (arith, c.requires)))

whole : (c : After-loop-i) → c.loop-i.even + 2 * c.loop-i.odd ≡ product c.args.words.now c.args.k
whole c =
    let z : c.loop-i.i ≡ 0 = omega arith in
    rw z at c.loop-i.invariant

whole_lt : (c : After-loop-i) → c.loop-i.even + 2 * c.loop-i.odd < 2 ^ 64
whole_lt c =
    rw (whole c) (lt_of_lt_of_le (product_lt c.args.words.now c.args.k) (pow_mono {j = 64} c.requires))

pub overflow_mul-even : goal.overflow_mul-even
overflow_mul-even c = omega (arith, rest_lt (goal.at.overflow_mul-even c).After-dot)

pub overflow_add-even : goal.overflow_add-even
overflow_add-even c = let l : c.dot.result < 2 = rw c.dot.ensures (dot_lt _ _) in omega (arith, rest_lt (goal.at.overflow_add-even c).After-dot, l)

pub overflow_mul-odd : goal.overflow_mul-odd
overflow_mul-odd c = omega (arith, rest_lt (goal.at.overflow_mul-odd c).After-dot)

pub overflow_add-odd : goal.overflow_add-odd
overflow_add-odd c = let l : c.dot-in-loop-i.result < 2 = rw c.dot-in-loop-i.ensures (dot_lt _ _) in omega (arith, rest_lt (goal.at.overflow_add-odd c).After-dot, l)

pub overflow_mul-result : goal.overflow_mul-result
overflow_mul-result c = omega (arith, whole_lt (goal.at.overflow_mul-result c).After-loop-i)

pub overflow_add-result : goal.overflow_add-result
overflow_add-result c = omega (arith, whole_lt (goal.at.overflow_add-result c).After-loop-i)
