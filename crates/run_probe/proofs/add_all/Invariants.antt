-- `run_probe::add_all` meets its contract.
-- Assumes nothing.
use Rattle.run_probe.proofs.Fill.{Filling}
use Rattle.run_probe.proofs.add_all.Given as goal

abbrev pub invariant-loop-i : goal.invariant-loop-i
invariant-loop-i l = Filling l.initial.t l.words l.t l.i
