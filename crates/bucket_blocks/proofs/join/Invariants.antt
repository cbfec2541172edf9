-- `bucket_blocks::join` meets its contract. The loop keeps what is tied.
-- Assumes nothing.
use mathlib.Core.List.{[], ◌∷◌}
use Rattle.bucket_pairs.specs.Pairs.{Keeps}
use Rattle.bucket_blocks.proofs.join.Given as goal

abbrev pub invariant-loop-p : goal.invariant-loop-p
invariant-loop-p l = Keeps (l.initial.p-items ∷ l.second ∷ []) (l.p-items ∷ [])
