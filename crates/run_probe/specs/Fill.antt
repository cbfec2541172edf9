-- A table that is filled with words, until the first refusal.
-- Assumes nothing.
use Rattle.std.specs.Prelude.{ℕ, suc, ◌%◌, cond, List, [], ◌∷◌}
use Rattle.model.specs.Model.{add}
use Rattle.model.specs.Machine.{accepted}
use Rattle.table.specs.Calls.{Outcome, open_call, served}
use Rattle.run_probe.specs.Steps.{Probed}

-- an add of the word w, with its low seven bits as plan
abbrev pub add_of : List ℕ → ℕ → Outcome
add_of t w = served t (add w (w % 128))

-- words are added one after the other: how many were accepted before the first refusal, k more than these, and the numbers of the table then
unfoldable pub taken_from : ℕ → List ℕ → List ℕ → Probed
taken_from k t [] = record { number = k; words = t }
taken_from k t (w ∷ ws) = cond (accepted (add_of t w).answer) (taken_from (suc k) (add_of t w).table ws) (record { number = k; words = (add_of t w).table })

-- the same of a table that is opened first; 0 where the opening is refused
unfoldable pub filled : ℕ → ℕ → List ℕ → List ℕ → Probed
filled b1 b2 t ws = cond (accepted (open_call b1 b2 t).answer) (taken_from 0 (open_call b1 b2 t).table ws) (record { number = 0; words = (open_call b1 b2 t).table })
