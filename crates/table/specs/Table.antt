-- The whole table, with buckets of n rows and r solution words; S is the mix. At 64, 8 and mix_of it is document 01's table.
-- Assumes nothing.
use Rattle.std.specs.Prelude.{ℕ, suc, ◌-◌, Bool, cond, List, [], ◌∷◌, ◌++◌, map, ltb, length, get_or, set, replicate}
use Rattle.std.proofs.Math.Option.{Option}
use Rattle.lists.specs.Entries.{Entry, plan_limit, find, update, remove, insert_all}
use Rattle.lists.specs.Totals.{one_more, one_less}
use Rattle.identifier.specs.Place.{threshold_at, bucket_at}
use Rattle.bucket.specs.declared.Bucket.{Bucket}
use Rattle.bucket.specs.Bucket as B
use Rattle.bucket_settle.specs.Settle.{Settlement, plan_of, settle}

-- the number of totals: one for each plan
abbrev pub total_numbers : ℕ
total_numbers = plan_limit

-- every total 0
unfoldable pub zero_totals : List ℕ
zero_totals = replicate total_numbers 0

-- the buckets of each level, the base list by w', the live count, and the totals: how many live words each plan has
pub record Table : Type 0 where
  pub level1 : List Bucket
  pub level2 : List Bucket
  pub base : List Entry
  pub count : ℕ
  pub totals : List ℕ

-- the table with these buckets at level 1
abbrev pub with_first : Table → List Bucket → Table
with_first T bs = record { level1 = bs; level2 = T.level2; base = T.base; count = T.count; totals = T.totals }

-- with these at level 2
abbrev pub with_second : Table → List Bucket → Table
with_second T bs = record { level1 = T.level1; level2 = bs; base = T.base; count = T.count; totals = T.totals }

-- with this base list
abbrev pub with_base : Table → List Entry → Table
with_base T es = record { level1 = T.level1; level2 = T.level2; base = es; count = T.count; totals = T.totals }

-- with this live count
abbrev pub with_count : Table → ℕ → Table
with_count T c = record { level1 = T.level1; level2 = T.level2; base = T.base; count = c; totals = T.totals }

-- with these totals
abbrev pub with_totals : Table → List ℕ → Table
with_totals T ts = record { level1 = T.level1; level2 = T.level2; base = T.base; count = T.count; totals = ts }

-- with one live word more, whose plan is p
abbrev pub with_one : Table → ℕ → Table
with_one T p = with_totals (with_count T (suc T.count)) (one_more p T.totals)

-- the bounds of a level's buckets
unfoldable pub bounds : List Bucket → List ℕ
bounds bs = map (λ b. b.bound) bs

-- the buckets of a level, and the words that leave the level with their plans, in this order
pub record Placed : Type 0 where
  pub buckets : List Bucket
  pub out : List Entry

module _ (S : ℕ → ℕ) where
  -- a level works with vectors: the place of the vector v is S(v); its threshold
  abbrev pub thr : ℕ → ℕ
  thr v = threshold_at (S v)

  -- and its bucket, of m
  abbrev pub index : ℕ → ℕ → ℕ
  index m v = bucket_at m (S v)

  -- w', the vector of the second level
  abbrev pub second : ℕ → ℕ
  second w = S (S w)

  -- the entry of a word as the second level sees it
  abbrev pub on_second : Entry → Entry
  on_second e = record { word = second e.word; plan = e.plan }

  -- the level with v's bucket replaced
  abbrev pub put : List Bucket → ℕ → Bucket → List Bucket
  put bs v b = set bs (index (length bs) v) b

module _ (n r : ℕ) where
  -- bucket i of a level
  abbrev pub nth : List Bucket → ℕ → Bucket
  nth bs i = get_or bs i (B.empty_bucket n r)

  -- opened: every bucket empty, every total 0
  abbrev pub open_table : ℕ → ℕ → Table
  open_table b1 b2 = record {
    level1 = replicate b1 (B.empty_bucket n r);
    level2 = replicate b2 (B.empty_bucket n r);
    base = [];
    count = 0;
    totals = zero_totals;
  }

module _ (n r : ℕ) (S : ℕ → ℕ) where
  -- the bucket of v
  abbrev pub bucket_of : List Bucket → ℕ → Bucket
  bucket_of bs v = nth n r bs (index S (length bs) v)

  -- the level holds v, if v is live: its threshold is below the bound of its bucket
  abbrev pub holds : List Bucket → ℕ → Bool
  holds bs v = ltb (thr S v) (bucket_of bs v).bound

  -- the plan of the word w, if it is live: at level 1 if that holds it, else at level 2 if that holds it, else in the base list
  abbrev pub plan_in : Table → ℕ → Option ℕ
  plan_in T w =
      cond (holds T.level1 w) (plan_of n w (bucket_of T.level1 w))
      (cond (holds T.level2 (second S w)) (plan_of n (second S w) (bucket_of T.level2 (second S w)))
      (find (second S w) T.base))

  -- the table with w's bucket changed by f, or its base list by g, wherever the three tests send w
  abbrev pub touch : Table → ℕ → (ℕ → Bucket → Bucket) → (ℕ → List Entry → List Entry) → Table
  touch T w f g =
      let v : ℕ = second S w in
      cond (holds T.level1 w) (with_first T (put S T.level1 w (f w (bucket_of T.level1 w))))
      (cond (holds T.level2 v) (with_second T (put S T.level2 v (f v (bucket_of T.level2 v))))
      (with_base T (g v T.base)))

  -- the live word w, whose plan is q, gets the plan p
  abbrev pub changed_in : Table → ℕ → ℕ → ℕ → Table
  changed_in T w p q =
      with_totals (touch T w (λ v b. B.changed n v p b) (λ v es. update (record { word = v; plan = p }) es)) (one_more p (one_less q T.totals))

  -- the live word w, whose plan is q, goes
  abbrev pub withdrawn_from : Table → ℕ → ℕ → Table
  withdrawn_from T w q =
      with_totals (with_count (touch T w (λ v b. B.without n v b) (λ v es. remove v es)) (T.count - 1)) (one_less q T.totals)

  -- the word e arrives at a level: it settles in its bucket
  abbrev pub arrive_at : List Bucket → Entry → Placed
  arrive_at bs e =
      let s : Settlement = settle n (thr S) e (bucket_of bs e.word).bound (bucket_of bs e.word) in
      record { buckets = put S bs e.word s.bucket; out = s.out }

  -- words arrive one after the other
  abbrev pub arrive_all : List Bucket → List Entry → Placed
  arrive_all bs [] = record { buckets = bs; out = [] }
  arrive_all bs (e ∷ es) =
      let p : Placed = arrive_at bs e in
      let q : Placed = arrive_all p.buckets es in
      record { buckets = q.buckets; out = p.out ++ q.out }

  -- the new word e arrives at level 1, what leaves that at level 2, and what leaves that at the base list. (In the document each word
  -- goes on at once; the levels share no storage, so that is the same.)
  abbrev pub added_to : Table → Entry → Table
  added_to T e =
      let p : Placed = arrive_at T.level1 e in
      let q : Placed = arrive_all T.level2 (map (on_second S) p.out) in
      with_one (with_base (with_second (with_first T p.buckets) q.buckets) (insert_all q.out T.base)) e.plan
