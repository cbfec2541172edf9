-- A place in an ascending list of entries; only the contracts of inner functions cite these.
-- Assumes nothing.
use Rattle.std.specs.Prelude.{ℕ, suc, cond, List, [], ◌∷◌, eqb, ltb, Option, None, Some}
use Rattle.lists.specs.Entries.{Entry}

-- how many entries in front have a word below w
abbrev pub below : ℕ → List Entry → ℕ
below w [] = 0
below w (e ∷ es) = cond (ltb e.word w) (suc (below w es)) 0

-- the plan of the entry in front, if that has the word w
abbrev pub plan_first : ℕ → List Entry → Option ℕ
plan_first w [] = None
plan_first w (e ∷ es) = cond (eqb e.word w) (Some e.plan) None

-- the entries without the one in front, if that has the word w
abbrev pub after : ℕ → List Entry → List Entry
after w [] = []
after w (e ∷ es) = cond (eqb e.word w) es (e ∷ es)
