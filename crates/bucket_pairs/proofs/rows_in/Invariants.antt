-- `bucket_pairs::rows_in` meets its contract. The loop's invariant: what the pairs from `p` on give, with the rows so far, is what all give.
-- Assumes nothing.
use mathlib.Core.Path.{◌≡◌}
use lib.ListN.{length, drop}
use Rattle.bucket_pairs.specs.Pairs.{read_from, read_rows}
use Rattle.bucket_pairs.proofs.rows_in.Given as goal

abbrev pub invariant-loop-p : goal.invariant-loop-p
invariant-loop-p l = (length l.rows ≡ 64) × (read_from 64 (drop l.p-index l.ws) l.rows l.left ≡ read_rows 64 l.mark l.ws)
