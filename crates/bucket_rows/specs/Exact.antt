-- What is asked: the matrix whose inverse has given columns, where the rows that a mark does not name are units.
-- Assumes nothing.
use Rattle.std.specs.Prelude.{◌≡◌, Option, MatchOption, List, ℕ, ◌^◌, ◌<◌, get_or}
use Rattle.gf2.specs.Vectors.{bit, Inverse}

-- document 01's free rows of K are units
abbrev pub FreeRows : ℕ → ℕ → List ℕ → Type 0
FreeRows n mark K = (j : ℕ) → j < n → bit j mark ≡ 0 → get_or K j 0 ≡ 2 ^ j

-- K fits the columns and the mark
pub record Rowed (n mark : ℕ) (cs K : List ℕ) : Type 0 where
  pub inverse : Inverse n K cs
  pub free : FreeRows n mark K

-- an answer that is exact both ways: the rows of a matrix that fits, or the fact that there is none
abbrev pub FoundFree : ℕ → ℕ → List ℕ → Option (List ℕ) → Type 0
FoundFree n mark cs r = MatchOption r ((K : List ℕ) → Rowed n mark cs K → ⊥) (Rowed n mark cs)
