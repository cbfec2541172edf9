-- A level; document 01, "Identifier, word, place". n is its number of buckets, `bounds` lists the bound of each.
-- Assumes nothing.
use Rattle.std.specs.Prelude.{ℕ, Bool, not, List, map, eqb, ltb, get_or}
use Rattle.lists.specs.Lists.{keep, tabulate}
use Rattle.gf2.specs.Bound.{Due, bound_of}
use Rattle.hash.specs.Mix.{mix_of}
use Rattle.identifier.specs.Place.{second_of, threshold_at, bucket_at}

-- what a level makes of a word: a vector and a place
pub record Level : Type 0 where
  pub vector : ℕ → ℕ
  pub place : ℕ → ℕ

-- document 01's level 1: vector w and place S(w)
abbrev pub first_level : Level
first_level = record { vector = λ w. w; place = λ w. mix_of w }

-- document 01's level 2: vector w' and place S(w')
abbrev pub second_level : Level
second_level = record { vector = λ w. second_of w; place = λ w. mix_of (second_of w) }

-- the threshold of a word
abbrev pub threshold : Level → ℕ → ℕ
threshold L w = threshold_at (L.place w)

-- the bucket of a word
abbrev pub bucket : Level → ℕ → ℕ → ℕ
bucket L n w = bucket_at n (L.place w)

-- document 01's "held": the threshold of the word is below its bucket's bound
abbrev pub holds : Level → ℕ → List ℕ → ℕ → Bool
holds L n bounds w = ltb (threshold L w) (get_or bounds (bucket L n w) 0)

-- of the words ws, those that the level does not hold
abbrev pub passed : Level → ℕ → List ℕ → List ℕ → List ℕ
passed L n bounds ws = keep (λ w. not (holds L n bounds w)) ws

-- a word, as the level's bucket sees it
abbrev pub due_as : Level → ℕ → Due
due_as L w = record { vector = L.vector w; threshold = threshold L w }

-- document 01's "due": of the words ws, those whose bucket is i
abbrev pub due : Level → ℕ → List ℕ → ℕ → List Due
due L n ws i = map (due_as L) (keep (λ w. eqb (bucket L n w) i) ws)

-- the bounds lowered for the words ws: each becomes the largest, not above it, under which no non-empty selection of the words due
-- there XORs to zero
abbrev pub lower : Level → ℕ → List ℕ → List ℕ → List ℕ
lower L n bounds ws = tabulate (λ i. bound_of (get_or bounds i 0) (due L n ws i)) n
