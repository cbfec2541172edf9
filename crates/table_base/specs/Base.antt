-- The base list as it lies in the table, for any number of entries that there is room for.
-- Assumes nothing.
use Rattle.std.specs.Prelude.{ℕ, suc, ◌-◌, ◌*◌, ◌/◌, ◌≤◌, ◌≡◌, Bool, true, false, cond, List, [], ◌∷◌, ◌++◌, eqb, ltb, length, replicate, Some, None, Option}
use Rattle.std.proofs.Math.Option as Math
use Rattle.std.proofs.Math.Option.{none, some}
use Rattle.lists.specs.Entries.{Entry}
use Rattle.table.specs.Layout.{pair_numbers, pairs_from}

-- how many entries the numbers have room for
abbrev pub capacity : List ℕ → ℕ
capacity xs = length xs / 2

-- the entries in numbers with room for m of them: their pairs, and 0 for the unused ones. In a table m is `base_limit`
abbrev pub pairs_in : ℕ → List Entry → List ℕ
pairs_in m es = pair_numbers es ++ replicate (2 * m - 2 * length es) 0

-- the numbers have room for m entries, and hold `count`
pub record Pairs (m count : ℕ) (xs : List ℕ) : Type 0 where
  pub fits : count ≤ m
  pub rest : xs ≡ pairs_in m (pairs_from count xs)

-- what the search for a word gives
abbrev pub found_of : Math.Option ℕ → Option ℕ
found_of (some p) = Some p
found_of none = None

-- the test of a word x: larger than v, or equal to it
abbrev pub hits : Bool → ℕ → ℕ → Bool
hits true v x = ltb v x
hits false v x = eqb v x

-- how many entries stand before the first whose word passes the test
abbrev pub before : (ℕ → Bool) → List Entry → ℕ
before p [] = 0
before p (e ∷ es) = cond (p e.word) 0 (suc (before p es))
