-- `bucket_settle::put_into` meets its contract. The loop carries the entry that is to stand at `at`: it and what is to come are the result's.
-- Assumes nothing.
use mathlib.Core.Path.{◌≡◌}
use mathlib.Core.List.{◌∷◌, ◌++◌}
use lib.ListN.{take, drop}
use Rattle.bucket_settle.proofs.put_into.Given as goal

abbrev pub invariant-loop-at : goal.invariant-loop-at
invariant-loop-at l = take l.at l.entries ++ l.carried ∷ drop l.at l.entries ≡ take l.i l.initial.entries ++ l.fn.e ∷ drop l.i l.initial.entries
