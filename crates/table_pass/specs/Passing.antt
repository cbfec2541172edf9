-- The words that leave level 1 in an add arrive at level 2 one after the other, more than one on a draft first; table_arrive has the arrival of one. S is the mix,
-- n the number of rows, r of solution words.
-- Assumes nothing.
use Rattle.std.specs.Prelude.{ℕ, ◌≡◌, Bool, true, List, [], ◌∷◌, map, get_or}
use Rattle.lists.specs.Entries.{Entry}
use Rattle.table.specs.Table.{Table, with_second, on_second, put, bucket_of}
use Rattle.table.specs.Layout.{buckets1_at, buckets2_at, numbers_of}
use Rattle.table_arrive.specs.Arrival.{to_second, fits, Kept, FlatKept}

-- the words that leave level 1, as level 2 sees them
abbrev pub seconds : (ℕ → ℕ) → List Entry → List Entry
seconds S = map (on_second S)

module _ (n r : ℕ) (S : ℕ → ℕ) where
  -- words arrive at level 2 one after the other
  abbrev pub all_to_second : Table → List Entry → Table
  all_to_second T [] = T
  all_to_second T (e ∷ es) = all_to_second (to_second n r S T e) es

  -- the level 2 buckets of these vectors become those of D
  abbrev pub take_over : Table → List ℕ → Table → Table
  take_over D [] T = T
  take_over D (v ∷ vs) T = take_over D vs (with_second T (put S T.level2 v (bucket_of n r S D.level2 v)))

module _ (n r : ℕ) where
  -- words went on to the table U on a draft; where the base list is too long, nothing is said of the draft, which nobody reads then
  pub record Drafted (U : Table) (done : Bool) (after : List ℕ) : Type 0 where
    pub says : done ≡ fits U
    pub kept : done ≡ true → Kept n r U
    pub table : done ≡ true → after ≡ numbers_of U

  -- two lists of numbers that hold sound buckets, with equal bucket numbers
  pub record SameSize (t u : List ℕ) : Type 0 where
    pub one : FlatKept n r t
    pub other : FlatKept n r u
    pub buckets1 : get_or t buckets1_at 0 ≡ get_or u buckets1_at 0
    pub buckets2 : get_or t buckets2_at 0 ≡ get_or u buckets2_at 0
