-- What an entry for other languages does: the number of the answer is returned, and what goes with it is left in *value.
-- Assumes nothing.
use Rattle.std.specs.Prelude.{ℕ, ◌≡◌, List}
use Rattle.answer.specs.Numbers.{Answer, number_of, value_of}
use Rattle.table.specs.Calls.{Outcome}
use Rattle.plane_write.specs.Write.{Written}

-- `number` is returned and `value` is left, for this answer
abbrev pub Gives : Answer → ℕ → ℕ → Type 0
Gives a number value = (number ≡ number_of a) × (value ≡ value_of a)

-- and the table afterwards is t, every number of it
abbrev pub GivesTable : Outcome → ℕ → ℕ → List ℕ → Type 0
GivesTable o number value t = Gives o.answer number value × (t ≡ o.table)

-- and the output afterwards is out, every byte of it
abbrev pub GivesOutput : Written → ℕ → ℕ → List ℕ → Type 0
GivesOutput w number value out = Gives w.answer number value × (out ≡ w.output)
