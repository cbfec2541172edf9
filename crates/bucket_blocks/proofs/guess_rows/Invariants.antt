-- `bucket_blocks::guess_rows` meets its contract. The loop's invariant: the left words are the products of the right ones.
-- Assumes nothing.
use mathlib.Core.List.{[], ◌∷◌}
use Rattle.gf2.specs.Vectors.{product}
use Rattle.bucket_pairs.specs.Pairs.{EachTied}
use Rattle.bucket_blocks.proofs.guess_rows.Given as goal

abbrev pub invariant-loop-b : goal.invariant-loop-b
invariant-loop-b l = EachTied (product l.fn.cols) (l.ws ∷ l.window ∷ l.tables.first ∷ l.tables.second ∷ [])
