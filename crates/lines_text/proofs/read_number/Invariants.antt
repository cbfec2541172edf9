-- `lines_text::read_number` meets its contract. The loop's invariant: reading on from n and what is left decides.
-- Assumes nothing.
use Rattle.std.proofs.Common.{◌≡◌, ◌≤◌, drop}
use Rattle.lines_text.specs.Decimal.{read_on, number_to}
use Rattle.lines_text.proofs.read_number.Given as goal

abbrev pub invariant-loop-b : goal.invariant-loop-b
invariant-loop-b l = (l.n ≤ l.limit) × (read_on l.limit l.n (drop l.b-index l.s) ≡ number_to l.limit l.s)
