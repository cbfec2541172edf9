-- `table_pass::carry` meets its contract.
-- Assumes nothing.
use Rattle.hash.specs.Mix.{mix_of}
use Rattle.table.specs.Calls.{rows, solutions, table_of}
use Rattle.table_pass.specs.Passing.{seconds}
use Rattle.table_pass.proofs.Passing.{Carrying}
use Rattle.table_pass.proofs.carry.Given as goal

abbrev pub invariant-loop-e : goal.invariant-loop-e
invariant-loop-e l = Carrying rows solutions mix_of (table_of l.initial.t) (seconds mix_of l.entries) l.t l.e-index
