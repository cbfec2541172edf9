-- `bucket_blocks::lay` meets its contract. The loop keeps what is tied.
-- Assumes nothing.
use mathlib.Core.List.{[], ◌∷◌}
use Prim.Native.Nat.{◌+◌, ◌≤◌}
use Rattle.bucket_pairs.specs.Pairs.{Keeps}
use Rattle.bucket_blocks.proofs.lay.Given as goal

abbrev pub invariant-loop-k : goal.invariant-loop-k
invariant-loop-k l = (l.p ≤ l.at + l.k) × Keeps (l.table ∷ l.initial.ws ∷ []) (l.ws ∷ [])
