-- `bucket_blocks::pairs_of` meets its contract. The loop's invariant: the pairs so far are tied.
-- Assumes nothing.
use Prim.Native.Nat.{◌≤◌}
use Rattle.bucket_pairs.specs.Pairs.{PairsOf}
use Rattle.bucket_blocks.proofs.pairs_of.Given as goal

abbrev pub invariant-loop-a : goal.invariant-loop-a
invariant-loop-a l = (l.count ≤ l.a) × PairsOf 64 l.mark l.fn.rows l.initial.ws l.ws
