-- `transpose::shuffle` meets its contract. The loop's invariant: the first `i` pairs are shuffled.
-- Assumes nothing.
use mathlib.Core.Path.{◌≡◌}
use Prim.Native.Nat.{ℕ, ◌<◌}
use lib.ListN.{length}
use Rattle.transpose.specs.Shuffle.{ShuffledAt}
use Rattle.transpose.proofs.shuffle.Given as goal

abbrev pub invariant-loop-i : goal.invariant-loop-i
invariant-loop-i l = (length l.out ≡ 64) × ((j : ℕ) → j < l.i → ShuffledAt 32 l.h l.mask l.words l.out j)
