-- Document 01's tests of a table that is handed in, as they are computed: the shape (cause 4), and whether it is sound (cause 5; with
-- the totals, the plans and the cleared rows of document 02, orders 2, 3 and 6).
-- Assumes nothing.
use Rattle.std.specs.Prelude.{ℕ, suc, ◌+◌, Bool, true, not, ◌&&◌, List, [], ◌∷◌, ◌++◌, eqb, ltb, leb, length, get_or}
use Rattle.std.specs.Option.{is_some, unwrap_or}
use Rattle.lists.specs.Lists.{count_from}
use Rattle.lists.specs.Entries.{Entry, desk_plan, assignable}
use Rattle.lists.specs.Totals.{plan_count}
use Rattle.gf2.specs.Vectors.{outside}
use Rattle.gf2.specs.Select.{chosen}
use Rattle.bucket_rows.specs.Elimination.{sound_rows}
use Rattle.bucket.specs.declared.Bucket.{Bucket}
use Rattle.bucket.specs.Bucket.{largest_bound}
use Rattle.bucket_settle.specs.Settle.{listed}
use Rattle.model.specs.Model.{base_limit}
use Rattle.table.specs.Table.{Table, total_numbers, thr, index, holds}
use Rattle.table.specs.Layout.{leading, buckets1_at, buckets2_at, in_range, length_of, unused_in, table_from}
use Rattle.table.specs.Content.{occupied}

-- not cause 4: at least the leading numbers, the bucket numbers in range, and the length that they give
unfoldable pub shape_test : ℕ → ℕ → List ℕ → Bool
shape_test n r xs =
    let b1 : ℕ = get_or xs buckets1_at 0 in
    let b2 : ℕ = get_or xs buckets2_at 0 in
    leb leading (length xs) && (in_range b1 b2 && eqb (length xs) (length_of n r b1 b2))

-- every element passes the test
abbrev pub all_of : {A : Type 0} → (A → Bool) → List A → Bool
all_of p [] = true
all_of p (x ∷ xs) = p x && all_of p xs

-- w is below the first word
abbrev pub before : ℕ → List Entry → Bool
before w [] = true
before w (e ∷ es) = ltb w e.word

-- strictly ascending by word
abbrev pub ascends : List Entry → Bool
ascends [] = true
ascends (e ∷ es) = before e.word es && ascends es

-- the occupied rows of a bucket with their plans, as the elimination finds them
abbrev pub rows_in : ℕ → Bucket → List Entry
rows_in n b = listed b (chosen b.mark (unwrap_or (sound_rows n b.mark b.cols) b.cols))

-- no solution word has a bit outside the mark
abbrev pub clear_test : Bucket → Bool
clear_test b = all_of (λ s. eqb (outside s b.mark) 0) b.sols

-- a bucket: the bound is at most the largest, free rows of the solutions are 0, the columns are invertible, free rows are units, and each
-- occupied row passes `row`
unfoldable pub bucket_test : ℕ → (Entry → Bool) → Bucket → Bool
bucket_test n row b = leb b.bound largest_bound && (clear_test b && (is_some (sound_rows n b.mark b.cols) && all_of row (rows_in n b)))

-- the buckets from number i on
abbrev pub level_test : ℕ → (ℕ → Bucket → Entry → Bool) → ℕ → List Bucket → Bool
level_test n row i [] = true
level_test n row i (b ∷ bs) = bucket_test n (row i b) b && level_test n row (suc i) bs

-- the occupied rows of a level with their plans
unfoldable pub rows_found : ℕ → List Bucket → List Entry
rows_found n [] = []
rows_found n (b ∷ bs) = rows_in n b ++ rows_found n bs

-- each of the first m totals is the number of the entries with that plan
unfoldable pub totals_test : ℕ → List ℕ → List Entry → Bool
totals_test m ts es = all_of (λ p. eqb (get_or ts p 0) (plan_count p es)) (count_from 0 m)

module _ (n r : ℕ) (S U : ℕ → ℕ) (T : Table) where
  -- level 1 does not hold the word whose w' is v
  abbrev pub passes1 : ℕ → Bool
  passes1 v = not (holds n r S T.level1 (U (U v)))

  -- an occupied row e of bucket i, b, is held where the tests send it: at level 1
  abbrev pub row1 : ℕ → Bucket → Entry → Bool
  row1 i b e = eqb (index S (length T.level1) e.word) i && ltb (thr S e.word) b.bound

  -- at level 2, also by its level 1 form
  abbrev pub row2 : ℕ → Bucket → Entry → Bool
  row2 i b e = eqb (index S (length T.level2) e.word) i && (ltb (thr S e.word) b.bound && passes1 e.word)

  -- in the base list, where its plan may be given
  abbrev pub row0 : Entry → Bool
  row0 e = assignable e.plan && (not (holds n r S T.level2 e.word) && passes1 e.word)

  -- the table is sound, but for the unused pairs. That no word has the desk's plan is seen from its total, which must be right
  abbrev pub table_test : Bool
  table_test =
      leb (length T.base) base_limit
      && (eqb T.count (occupied T.level1 + (occupied T.level2 + length T.base))
      && (eqb (get_or T.totals desk_plan 0) 0
      && (level_test n row1 0 T.level1 && (level_test n row2 0 T.level2 && (all_of row0 T.base && (ascends T.base
      && totals_test total_numbers T.totals (rows_found n T.level1 ++ (rows_found n T.level2 ++ T.base))))))))

-- not cause 5
unfoldable pub sound_test : ℕ → ℕ → (ℕ → ℕ) → (ℕ → ℕ) → List ℕ → Bool
sound_test n r S U xs = table_test n r S U (table_from n r xs) && all_of (λ x. eqb x 0) (unused_in n r xs)
