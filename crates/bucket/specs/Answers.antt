-- What a bucket answers to any vector, live or not; document 02, order 6. Contracts do not cite it.
-- Assumes nothing.
use Rattle.std.specs.Prelude.{◌≡◌, ℕ, get_or}
use mathlib.Core.List.{List, ◌∷◌, map, Perm}
use Rattle.std.specs.Int.Bits.{bit_and}
use Rattle.gf2.specs.Vectors.{bit, product, combine}
use Rattle.gf2.specs.Select.{chosen}
use Rattle.bucket.specs.declared.Bucket.{Bucket}
use Rattle.bucket.specs.Bucket.{Sound, lookup}

-- the live vectors in k's combination of K's rows, as bits: k is the XOR of the rows that its product chooses
abbrev pub live_in : Bucket → ℕ → ℕ
live_in b k = bit_and (product b.cols k) b.mark

-- the XOR of their plans
abbrev pub combined : List ℕ → Bucket → ℕ → ℕ
combined K b k = combine (map (lookup b) K) (live_in b k)

-- b, whose matrix is K, without k, as it is left: its live vectors are the others, each with its plan; k gets the XOR of the plans, as b has
-- them, of those in its combination of the rows, and 0 where there is none among them
pub record Forgotten (n : ℕ) (K : List ℕ) (k : ℕ) (b left : Bucket) : Type 0 where
  pub matrix : List ℕ
  pub sound : Sound n matrix left
  pub others : Perm (chosen b.mark K) (k ∷ chosen left.mark matrix)
  pub plans : (i : ℕ) → bit i left.mark ≡ 1 → lookup left (get_or matrix i 0) ≡ lookup b (get_or matrix i 0)
  pub answer : lookup left k ≡ combine (map (lookup b) matrix) (live_in left k)
  pub none : live_in left k ≡ 0 → lookup left k ≡ 0
