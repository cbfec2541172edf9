-- `bucket_blocks::double` meets its contract. The loop keeps what is tied.
-- Assumes nothing.
use mathlib.Core.List.{[], ◌∷◌}
use Rattle.bucket_pairs.specs.Pairs.{Keeps}
use Rattle.bucket_blocks.proofs.double.Given as goal

abbrev pub invariant-loop-i : goal.invariant-loop-i
invariant-loop-i l = Keeps ((l.pair ∷ []) ∷ l.initial.sums ∷ l.initial.table ∷ []) (l.sums ∷ l.table ∷ [])
