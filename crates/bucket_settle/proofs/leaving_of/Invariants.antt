-- `bucket_settle::leaving_of` meets its contract. The loop goes from the last row to the first, as the sort of a list inserts.
-- Assumes nothing.
use Rattle.bucket_settle.specs.Settle.{threshold_of}
use Rattle.bucket_settle.proofs.Leave.{Found}
use Rattle.bucket_settle.proofs.leaving_of.Given as goal

abbrev pub invariant-loop-i : goal.invariant-loop-i
invariant-loop-i l = Found threshold_of l.t l.b l.mark l.rows l.i l.out
