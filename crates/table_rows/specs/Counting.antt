-- The occupied rows of a level, in the order in which the code tests them, with one test for both levels, and what is left of the totals once each is counted off.
-- Assumes nothing.
use Rattle.std.specs.Prelude.{ℕ, suc, ◌≡◌, Bool, true, false, cond, ◌&&◌, List, [], ◌∷◌, eqb, ltb, leb, get_or, drop}
use Rattle.lists.specs.Entries.{Entry}
use Rattle.lists.specs.Totals.{one_less}
use Rattle.hash.specs.Mix.{mix_of, unmix_of}
use Rattle.std.specs.Option.{is_some}
use Rattle.bucket_rows.specs.Elimination.{sound_rows}
use Rattle.bucket.specs.declared.Bucket.{Bucket}
use Rattle.bucket.specs.Bucket.{largest_bound}
use Rattle.table.specs.Table.{thr, index}
use Rattle.table.specs.Layout.{level_from}
use Rattle.table.specs.Test.{passes1, rows_in, clear_test}
use Rattle.table.specs.Calls.{rows, solutions, table_of}
use Rattle.table_layout.specs.declared.Level.{Level}
use Rattle.table_layout.specs.declared.Level.TheVariants.{First, Second}

-- at level 2: level 1 does not hold the word whose w' is v
abbrev pub passes : List ℕ → Level → ℕ → Bool
passes t First v = true
passes t Second v = passes1 rows solutions mix_of unmix_of (table_of t) v

-- a vector v in bucket i, of m, under its bound, is held where the tests send it
abbrev pub held_test : List ℕ → Level → ℕ → ℕ → ℕ → ℕ → Bool
held_test t level m i bound v = eqb (index mix_of m v) i && (ltb (thr mix_of v) bound && passes t level v)

-- an occupied row e of the bucket b, number i of m
abbrev pub row_of : List ℕ → Level → ℕ → ℕ → Bucket → Entry → Bool
row_of t level m i b e = held_test t level m i b.bound e.word

-- ---- each entry is counted off the totals, until a test fails or a total is 0 already

-- whether each entry was counted off, and what is left of the totals; where one was not, what was left before it
pub record Counted : Type 0 where
  pub done : Bool
  pub left : List ℕ

-- each was, and ts are left
abbrev pub ended : List ℕ → Counted
ended ts = record { done = true; left = ts }

-- one was not
abbrev pub stopped : List ℕ → Counted
stopped ts = record { done = false; left = ts }

-- c where b holds, and else the totals ts stay
abbrev pub gate : Bool → List ℕ → Counted → Counted
gate true ts c = c
gate false ts c = stopped ts

-- what is left goes on to f
abbrev pub next : Counted → (List ℕ → Counted) → Counted
next c f = cond c.done (f c.left) c

-- the entry e, if it passes the test
unfoldable pub one_off : (Entry → Bool) → Entry → List ℕ → Counted
one_off p e ts = gate (p e) ts (gate (ltb 0 (get_or ts e.plan 0)) ts (ended (one_less e.plan ts)))

-- entries one after the other
abbrev pub count_off : (Entry → Bool) → List Entry → List ℕ → Counted
count_off p [] ts = ended ts
count_off p (e ∷ es) ts = next (one_off p e ts) (count_off p es)

-- the occupied rows of a bucket, if it is sound and they pass
unfoldable pub bucket_off : ℕ → (Entry → Bool) → Bucket → List ℕ → Counted
bucket_off n row b ts = gate (leb b.bound largest_bound) ts (gate (clear_test b) ts (gate (is_some (sound_rows n b.mark b.cols)) ts (count_off row (rows_in n b) ts)))

-- the buckets of a level from number i on
abbrev pub level_off : ℕ → (ℕ → Bucket → Entry → Bool) → ℕ → List Bucket → List ℕ → Counted
level_off n row i [] ts = ended ts
level_off n row i (b ∷ bs) ts = next (bucket_off n (row i b) b ts) (level_off n row (suc i) bs)

-- the m buckets of a level of the table t, from a place on
abbrev pub level_left : List ℕ → Level → ℕ → ℕ → List ℕ → Counted
level_left t level m place ts = level_off rows (row_of t level m) 0 (level_from rows solutions m (drop place t)) ts

-- what the code answers, and the totals after it
abbrev pub Leaves : Counted → Bool → List ℕ → Type 0
Leaves c done after = (done ≡ c.done) × (after ≡ c.left)
