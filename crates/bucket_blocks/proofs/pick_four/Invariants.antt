-- `bucket_blocks::pick_four` meets its contract. The loop keeps what is tied.
-- Assumes nothing.
use mathlib.Core.List.{[], ◌∷◌}
use Prim.Native.Nat.{◌+◌, ◌^◌, ◌≤◌, ◌<◌}
use Rattle.bucket_pairs.specs.Pairs.{Keeps}
use Rattle.bucket_blocks.proofs.pick_four.Given as goal

abbrev pub invariant-loop-k : goal.invariant-loop-k
invariant-loop-k l = (l.choice.have < 2 ^ l.k) × (l.choice.next ≤ l.initial.choice.next + l.k) × Keeps (l.ws ∷ l.initial.window ∷ []) (l.window ∷ l.pairs ∷ [])
