-- `bucket_blocks::pick_four` meets its contract. The loop keeps what is tied.
-- Assumes nothing.
use native.Mathlib.Omega.{arith}
use Rattle.bucket_pairs.proofs.Tied.{tied_zeros}
use Rattle.bucket_blocks.proofs.pick_four.Goals as goal

pub loop-k-init : goal.loop-k-init
loop-k-init c = (omega (arith, c.requires.0), omega arith, λ f lf t. (t.1.0, (tied_zeros f 4 lf, tt)))
