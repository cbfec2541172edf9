-- `transpose::shuffle` meets its contract. The loop's invariant: the first `i` pairs are shuffled.
-- Assumes nothing.
use mathlib.Core.Path.{refl}
use Prim.Native.Nat.{◌+◌, ◌*◌, ◌<◌}
use native.Mathlib.Omega.{arith}
use lib.ListN.{length, length-set}
use Rattle.transpose.specs.Shuffle.{even_of, odd_of}
use Rattle.transpose.proofs.Shuffling.{shuffle_step}
use Rattle.transpose.proofs.shuffle.Goals as goal

pub loop-i-preserved : goal.loop-i-preserved
unfolding even_of odd_of
loop-i-preserved c =
    let h : 2 * c.loop-i.i + 1 < length c.loop-i.out = omega arith in
    (simp length-set c.loop-i.invariant.0, shuffle_step 32 c.loop-i.i c.args.h c.args.mask c.args.words c.loop-i.out _ _ h refl refl c.loop-i.invariant.1)
