-- `table_open::empty_buckets` meets its contract: i buckets are stored.
-- Assumes nothing.
use mathlib.Core.Path.{◌≡◌}
use Prim.Native.Nat.{◌*◌}
use lib.ListN.{take, replicate}
use Rattle.bucket_words.specs.Words.{bucket_words}
use Rattle.bucket.specs.Bucket.{empty_bucket}
use Rattle.table.specs.Layout.{level_numbers}
use Rattle.table.specs.Calls.{rows, solutions}
use Rattle.table_open.proofs.empty_buckets.Given as goal

abbrev pub invariant-loop-i : goal.invariant-loop-i
invariant-loop-i l =
    take (l.i * bucket_words rows solutions) l.words ≡ level_numbers (replicate l.i (empty_bucket rows solutions))
