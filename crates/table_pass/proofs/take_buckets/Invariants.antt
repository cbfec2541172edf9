-- `table_pass::take_buckets` meets its contract.
-- Assumes nothing.
use Rattle.lists.specs.Entries.{words}
use Rattle.hash.specs.Mix.{mix_of}
use Rattle.table.specs.Calls.{rows, solutions, table_of}
use Rattle.table_pass.specs.Passing.{seconds}
use Rattle.table_pass.proofs.Passing.{Taking}
use Rattle.table_pass.proofs.take_buckets.Given as goal

abbrev pub invariant-loop-e : goal.invariant-loop-e
invariant-loop-e l = Taking rows solutions mix_of l.from (table_of l.initial.t) (words (seconds mix_of l.entries)) l.t l.e-index
