-- `plane_write::put_buckets` meets its contract. The first i buckets are written.
-- Assumes nothing.
use mathlib.Core.Path.{◌≡◌}
use Rattle.codec.specs.Parts.{written}
use Rattle.bucket_words.specs.Words.{bucket_words}
use Rattle.table.specs.Calls.{rows, solutions}
use Rattle.plane.specs.Record.{format1, bytes_of, read_all, bucket_record}
use Rattle.plane_write.specs.Steps.{seen_from}
use Rattle.plane_write.proofs.put_buckets.Given as goal

abbrev pub invariant-loop-i : goal.invariant-loop-i
invariant-loop-i l = l.out ≡ written l.at (bytes_of (bucket_record format1) (read_all (bucket_words rows solutions) (seen_from rows solutions) l.i l.b)) l.initial.out
