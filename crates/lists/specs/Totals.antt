-- Totals: for each plan, how many entries have it; document 02, order 2.
-- Assumes nothing.
use Rattle.std.specs.Prelude.{ℕ, suc, ◌+◌, ◌-◌, List, [], ◌∷◌, eqb, length, get_or, set}
use Rattle.lists.specs.Lists.{keep, tabulate}
use Rattle.lists.specs.Entries.{Entry}

-- how many of the entries have the plan p
abbrev pub plan_count : ℕ → List Entry → ℕ
plan_count p es = length (keep (λ e. eqb e.plan p) es)

-- that for each of the plans below m
unfoldable pub totals_of : ℕ → List Entry → List ℕ
totals_of m es = tabulate (λ p. plan_count p es) m

-- the totals with one entry more that has the plan p
abbrev pub one_more : ℕ → List ℕ → List ℕ
one_more p ts = set ts p (suc (get_or ts p 0))

-- with one less
abbrev pub one_less : ℕ → List ℕ → List ℕ
one_less p ts = set ts p (get_or ts p 0 - 1)

-- the sum of the numbers
abbrev pub sum_of : List ℕ → ℕ
sum_of [] = 0
sum_of (x ∷ xs) = x + sum_of xs
