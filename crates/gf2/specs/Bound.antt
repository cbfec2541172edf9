-- The bound of a bucket. Document 01's terms: a word is due in a bucket; a selection under a bound takes the vectors of the words due
-- there whose threshold is below it.
-- Assumes nothing.
use Rattle.std.specs.Prelude.{◌≡◌, true, cond, List, map, ℕ, zero, suc, ◌≤◌, ltb}
use Rattle.lists.specs.Lists.{keep}
use Rattle.gf2.specs.Select.{indep}

-- a word due in a bucket, as the bucket's level sees it
pub record Due : Type 0 where
  pub vector : ℕ
  pub threshold : ℕ

-- the vectors that are selected under the bound t
abbrev pub under : ℕ → List Due → List ℕ
under t ds = map (λ d. d.vector) (keep (λ d. ltb d.threshold t) ds)

-- under the bound t no non-empty selection XORs to zero
abbrev pub Free : ℕ → List Due → Type 0
Free t ds = indep (under t ds) ≡ true

-- the largest number not above the old bound under which no non-empty selection XORs to zero
abbrev pub bound_of : ℕ → List Due → ℕ
bound_of zero ds = zero
bound_of (suc old) ds = cond (indep (under (suc old) ds)) (suc old) (bound_of old ds)

-- b is that number
pub record Largest (old : ℕ) (ds : List Due) (b : ℕ) : Type 0 where
  pub low : b ≤ old
  pub free : Free b ds
  pub most : (t : ℕ) → t ≤ old → Free t ds → t ≤ b
