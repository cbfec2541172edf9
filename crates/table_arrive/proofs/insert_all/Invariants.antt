-- `table_arrive::insert_all` meets its contract.
-- Assumes nothing.
use Rattle.table_arrive.proofs.Tables.{Inserting}
use Rattle.table_arrive.proofs.insert_all.Given as goal

abbrev pub invariant-loop-i : goal.invariant-loop-i
invariant-loop-i l = Inserting l.count l.entries l.initial.pairs l.pairs l.i
