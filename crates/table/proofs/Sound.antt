-- A table is sound exactly when it stands for a state, and then for the one that it shows. At every number of rows and of solution words,
-- and for every mix S with its inverse U.
-- Assumes nothing.
use Prim.Native.Nat.{ℕ, zero, suc, ◌+◌, ◌^◌, ◌≤◌, ◌<◌, zero-le}
use native.Mathlib.Nat.{zero-add, not-suc-le-zero, le_of_suc-le-suc}
use native.Mathlib.Omega.{arith}
use mathlib.Core.Path.{◌≡◌, refl, sym, ap, ◌∙◌, subst, subst⁻¹, subst₂}
use mathlib.Core.Bool.{Bool, true, false, not, true≢false}
use mathlib.Core.Logic.{◌⊎◌, inl, inr, ⊎_elim}
use mathlib.Core.List.Memᴰ
use mathlib.Core.List.Permᴰ
use mathlib.Core.List.{List, [], ◌∷◌, ◌++◌, map, Memᴰ}
use lib.Dec.{eqb, ltb}
use lib.ListN.{length, get_or}
use borrow.Author.Tests.{eqb-true, eq-eqb, ltb-true, lt-ltb, not-true}
use Rattle.lists.specs.Lists.{keep, count_from}
use Rattle.lists.specs.Entries.{Entry, assignable, words, sort, Ascending, Distinct, plan_limit}
use Rattle.lists.specs.Totals.{totals_of}
use Rattle.lists.proofs.Totals.{totals_perm}
use Rattle.lists.proofs.Keep.{keep_in, keep_out, count_in, count_lt}
use Rattle.lists.proofs.Entries.{assignable_byte, ascending_ext}
use Rattle.lists.proofs.Sorts.{mem_perm, sort_perm, sort_mem, mem_sort, sort_ascending, sort-length, keep_distinct, ascending_distinct, distinct_ext}
use Rattle.lists.proofs.Edits.{distinct_append, distinct_renamed}
use Rattle.gf2.specs.Bound.{Free}
use Rattle.gf2.proofs.Linear.{product_lt}
use Rattle.bucket.specs.declared.Bucket.{Bucket}
use Rattle.bucket.specs.Bucket.{largest_bound, lookup, live}
use Rattle.bucket_settle.specs.Settle.{contents}
use Rattle.bucket_settle.proofs.Hold.{holds_perm}
use Rattle.bucket_settle.proofs.Settling.{seen, rows_of}
use Rattle.bucket_settle.proofs.Sound.{sound-holds, holds-sound, holds_free}
use Rattle.model.specs.Levels.{due, passed}
use Rattle.model.specs.Model.{base_limit, State}
use Rattle.model.proofs.Levels.{passed_words}
use Rattle.model.proofs.Valid.{Valid}
use Rattle.table.specs.Table.{Table, total_numbers, bounds, thr, index, on_second, nth, holds}
use Rattle.table.specs.Content.{occupied, all_rows, back_of, entries_of, live_of, state_of}
use Rattle.table.specs.Sound.{Row, SoundLevel, SoundTable}
use Rattle.table.proofs.Level.{Fits, Small, Given, bounds-length, bound_at, first_level, second_level, within, due_in, due_in_lem, LevelHolds, holds_test}
use Rattle.table.proofs.Stand.{passes, later, last, due-map, words-second, last-length, Stands, test1, test2, distinct_later, distinct_last}
use Rattle.table.proofs.Content.{all-length, entries_length, table_entries, table_count}

-- ---- the entries of a bucket are its live vectors

pub contents_out : (n : ℕ) (b : Bucket) (e : Entry) → Memᴰ e (contents n b) → (e.word < 2 ^ n) × (live n e.word b ≡ true) × (lookup b e.word ≡ e.plan)
unfolding contents
contents_out n b e m =
    let q = Memᴰ.of_map (λ k. record { word = k; plan = lookup b k }) (keep (λ k. live n k b) (count_from 0 (2 ^ n))) m in
    let k = keep_out (λ k. live n k b) (count_from 0 (2 ^ n)) q.0 q.1 in
    subst (λ (x : Entry). (x.word < 2 ^ n) × (live n x.word b ≡ true) × (lookup b x.word ≡ x.plan)) q.2
    (omega (arith, count_lt 0 (2 ^ n) q.0 k.0), k.1, refl)

pub contents_in : (n : ℕ) (b : Bucket) (v : ℕ) → v < 2 ^ n → live n v b ≡ true → Memᴰ (record { word = v; plan = lookup b v }) (contents n b)
unfolding contents
contents_in n b v l t =
    Memᴰ.map (λ k. record { word = k; plan = lookup b k }) (keep_in (λ k. live n k b) (count_from 0 (2 ^ n)) (count_in 0 (2 ^ n) v zero-le (omega arith)) t)

-- ---- the rows of a level

all_in : (n r : ℕ) (bs : List Bucket) (i : ℕ) (e : Entry) → i < length bs → Memᴰ e (contents n (nth n r bs i)) → Memᴰ e (all_rows n bs)
all_in n r [] i e h m = absurd (not-suc-le-zero h)
all_in n r (b ∷ bs) zero e h m = Memᴰ.append_left (all_rows n bs) m
all_in n r (b ∷ bs) (suc i) e h m = Memᴰ.append_right (contents n b) (all_in n r bs i e (le_of_suc-le-suc h) m)

all_out : (n r : ℕ) (bs : List Bucket) (e : Entry) → Memᴰ e (all_rows n bs) → (i : ℕ) × (i < length bs) × Memᴰ e (contents n (nth n r bs i))
all_out n r [] e m = absurd (Memᴰ.not-nil m)
all_out n r (b ∷ bs) e m =
    ⊎_elim {C = (i : ℕ) × (i < length (b ∷ bs)) × Memᴰ e (contents n (nth n r (b ∷ bs) i))}
    (λ x. (0, omega arith, x)) (λ x. let q = all_out n r bs e x in let h = q.1 in (suc q.0, omega arith, q.2)) (Memᴰ.append_cases (contents n b) m)

distinct_all : (n r : ℕ) (g : ℕ → ℕ) (i : ℕ) (bs : List Bucket)
    → ((j : ℕ) → j < length bs → Distinct (contents n (nth n r bs j)))
    → ((j : ℕ) → j < length bs → (e : Entry) → Memᴰ e (contents n (nth n r bs j)) → g e.word ≡ i + j) → Distinct (all_rows n bs)
distinct_all n r g i [] d h = tt
distinct_all n r g i (b ∷ bs) d h =
    distinct_append (contents n b) (all_rows n bs) (d 0 (omega arith))
    (distinct_all n r g (suc i) bs (λ j l. d (suc j) (omega arith)) (λ j l e m. h (suc j) (omega arith) e m ∙ omega arith))
    (λ x y a c q.
    let k = all_out n r bs y c in
    let l = k.1 in
    let u : g x.word ≡ i + 0 = h 0 (omega arith) x a in
    let v : g y.word ≡ i + suc k.0 = h (suc k.0) (omega arith) y k.2 in
    let w : g x.word ≡ g y.word = ap g q in
    omega arith)

-- the plans of base entries may be given
pub base_given : (n r : ℕ) (S U : ℕ → ℕ) (T : Table) → SoundTable n r S U T → (e : Entry) → Memᴰ e T.base → assignable e.plan ≡ true
base_given n r S U T h e m = h.given (back_of U e) (Memᴰ.append_right (all_rows n T.level1) (Memᴰ.map (back_of U) (Memᴰ.append_right (all_rows n T.level2) m)))

clash : {b : Bool} → b ≡ true → b ≡ false → ⊥
clash p q = true≢false (sym p ∙ q)

-- ---- a sound level

module _ (n r : ℕ) (S : ℕ → ℕ) (bs : List Bucket) (h : SoundLevel n r S bs) where
  row-of : (i : ℕ) → i < length bs → (e : Entry) → Memᴰ e (contents n (nth n r bs i)) → Row n r bs i e.word
  row-of i l e m = let k = contents_out n (nth n r bs i) e m in record { bucket_lt = l; vector_lt = k.0; is_live = k.1 }

  row-held : (i v : ℕ) → index S (length bs) v ≡ i → thr S v < (nth n r bs i).bound → holds n r S bs v ≡ true
  row-held i v e l = lt-ltb (thr S v) _ (subst⁻¹ (λ (j : ℕ). thr S v < (nth n r bs j).bound) e l)

  level_held : (e : Entry) → Memᴰ e (all_rows n bs) → holds n r S bs e.word ≡ true
  level_held e m =
      let k = all_out n r bs e m in
      let q = row-of k.0 k.1 e k.2 in
      row-held k.0 e.word (h.here k.0 e.word q) (h.low k.0 e.word q)

  pub level_small : Small n r (all_rows n bs)
  level_small e m =
      let k = all_out n r bs e m in
      let c = contents_out n (nth n r bs k.0) e k.2 in
      (c.0, subst₂ (λ (x z : ℕ). x < 2 ^ z) c.2 (h.buckets k.0 k.1).wide (product_lt (nth n r bs k.0).sols e.word))

  level_distinct : Distinct (all_rows n bs)
  level_distinct =
      distinct_all n r (index S (length bs)) 0 bs (λ j l. (sound-holds (h.buckets j l)).distinct) (λ j l e m. h.here j e.word (row-of j l e m) ∙ sym (zero-add j))

  level_count : length (all_rows n bs) ≡ occupied bs
  level_count = all-length n r bs (λ j l. (contents n (nth n r bs j), sound-holds (h.buckets j l)))

  -- the level holds the entries es, if its rows are those of them that its test sends here
  level_holds : (es : List Entry) → Distinct es → ((e : Entry) → Memᴰ e (all_rows n bs) → Memᴰ e es)
      → ((e : Entry) → Memᴰ e es → holds n r S bs e.word ≡ true → Memᴰ e (all_rows n bs)) → LevelHolds n r S (length bs) bs es
  level_holds es d forth back = record {
    count = refl;
    each = λ i l.
        let b : Bucket = nth n r bs i in
        let P : Entry → Bool = (λ e. ltb (thr S e.word) b.bound) in
        let Q : Entry → Bool = (λ e. eqb (index S (length bs) e.word) i) in
        let g = sound-holds (h.buckets i l) in
        holds_perm g (distinct_ext (contents n b) (keep P (keep Q es)) g.distinct (keep_distinct P (keep Q es) (keep_distinct Q es d))
        (λ e m.
        let q = row-of i l e m in
        keep_in P (keep Q es) (keep_in Q es (forth e (all_in n r bs i e l m)) (eq-eqb _ i (h.here i e.word q))) (lt-ltb _ b.bound (h.low i e.word q)))
        (λ e m.
        let p = keep_out P (keep Q es) e m in
        let q = keep_out Q es e p.0 in
        let e-at : index S (length bs) e.word ≡ i = eqb-true _ i q.1 in
        let k = all_out n r bs e (back e q.0 (row-held i e.word e-at (ltb-true _ b.bound p.1))) in
        subst (λ (j : ℕ). Memᴰ e (contents n (nth n r bs j))) (sym (h.here k.0 e.word (row-of k.0 k.1 e k.2)) ∙ e-at) k.2));
  }

-- ---- a level that holds its due is sound

module _ (n r : ℕ) (S : ℕ → ℕ) (m : ℕ) (bs : List Bucket) (es : List Entry) (a : LevelHolds n r S m bs es) where
  -- a row is due in its bucket, under the bound
  row-due : (i v : ℕ) → Row n r bs i v → (index S (length bs) v ≡ i) × (thr S v < (nth n r bs i).bound) × ((e : Entry) × (e.word ≡ v) × Memᴰ e es)
  row-due i v q =
      let b : Bucket = nth n r bs i in
      let e : Entry = record { word = v; plan = lookup b v } in
      let g = a.each i (subst (λ (z : ℕ). i < z) a.count q.bucket_lt) in
      let k = keep_out (λ y. ltb (thr S y.word) b.bound) (due_in S m i es) e (mem_perm (Permᴰ.symm (rows_of g)) e (contents_in n b v q.vector_lt q.is_live)) in
      let d = keep_out (λ y. eqb (index S m y.word) i) es e k.0 in
      (ap (λ (z : ℕ). index S z v) a.count ∙ eqb-true _ i d.1, ltb-true _ _ k.1, (e, refl, d.0))

  holds_level : 0 < m → (B : List ℕ) → bounds bs ≡ B → ((i : ℕ) → i < m → get_or B i 0 ≤ largest_bound) → SoundLevel n r S bs
  holds_level pos B e low = record {
    some = subst⁻¹ (λ (z : ℕ). 0 < z) a.count pos;
    buckets = λ i l.
        let k : i < m = subst (λ (z : ℕ). i < z) a.count l in
        holds-sound (a.each i k) (subst (λ (t : ℕ). t ≤ largest_bound) (ap (λ (z : List ℕ). get_or z i 0) (sym e) ∙ bound_at n r bs i l) (low i k));
    here = λ i v q. (row-due i v q).0;
    low = λ i v q. (row-due i v q).1;
  }

module _ (n r : ℕ) (S U : ℕ → ℕ) (keeps : (x : ℕ) → x < 2 ^ n → S x < 2 ^ n) (keeps_u : (x : ℕ) → x < 2 ^ n → U x < 2 ^ n)
    (undo : (x : ℕ) → x < 2 ^ n → U (S x) ≡ x) (redo : (x : ℕ) → x < 2 ^ n → S (U x) ≡ x) where
  front : (x : ℕ) → x < 2 ^ n → S (S (U (U x))) ≡ x
  front x h = ap S (redo (U x) (keeps_u x h)) ∙ redo x h

  behind : (x : ℕ) → x < 2 ^ n → U (U (S (S x))) ≡ x
  behind x h = ap U (undo (S x) (keeps x h)) ∙ undo x h

  inj_u : (u v : ℕ) → u < 2 ^ n → v < 2 ^ n → U (U u) ≡ U (U v) → u ≡ v
  inj_u u v hu hv e = sym (front u hu) ∙ ap (λ (x : ℕ). S (S x)) e ∙ front v hv

  pub one_to_one : (u v : ℕ) → u < 2 ^ n → v < 2 ^ n → S u ≡ S v → u ≡ v
  one_to_one u v hu hv e = sym (undo u hu) ∙ ap U e ∙ undo v hv

  -- ---- a sound table stands for what it shows

  module _ (bytes : 2 ^ r ≡ plan_limit) (T : Table) (h : SoundTable n r S U T) where
    abbrev s : State
    s = state_of n U T

    abbrev E1 : List Entry
    E1 = all_rows n T.level1

    abbrev E2 : List Entry
    E2 = all_rows n T.level2 ++ T.base

    -- level 1 does not hold the words of E2
    past1 : (e : Entry) → Memᴰ e E2 → holds n r S T.level1 (U (U e.word)) ≡ false
    past1 e m =
        ⊎_elim
        (λ a. let k = all_out n r T.level2 e a in h.passed k.0 e.word (row-of n r S T.level2 h.level2 k.0 k.1 e k.2))
        (λ b. (h.base-words e b).2) (Memᴰ.append_cases (all_rows n T.level2) m)

    small2 : Small n r E2
    small2 e m =
        ⊎_elim {C = Fits n r e} (level_small n r S T.level2 h.level2 e) (λ b. ((h.base-words e b).0, subst⁻¹ (λ (k : ℕ). e.plan < k) bytes (assignable_byte e.plan (base_given n r S U T h e b)))) (Memᴰ.append_cases (all_rows n T.level2) m)

    distinct_rows : Distinct (entries_of n U T)
    distinct_rows =
        distinct_append E1 (map (back_of U) E2) (level_distinct n r S T.level1 h.level1)
        (distinct_renamed (λ v. U (U v)) (2 ^ n) inj_u E2 (λ e m. (small2 e m).0)
        (distinct_append (all_rows n T.level2) T.base (level_distinct n r S T.level2 h.level2) (ascending_distinct T.base h.ascending)
        (λ x y a b q. clash (level_held n r S T.level2 h.level2 x a) (ap (holds n r S T.level2) q ∙ (h.base-words y b).1))))
        (λ x y a b q.
        let k = Memᴰ.of_map (back_of U) E2 b in
        clash (level_held n r S T.level1 h.level1 x a) (ap (holds n r S T.level1) (q ∙ sym (ap (λ (z : Entry). z.word) k.2)) ∙ past1 k.0 k.1))

    live_in : (e : Entry) → Memᴰ e (entries_of n U T) → Memᴰ e s.live
    unfolding live_of
    live_in e m = mem_sort (entries_of n U T) e m

    live_out : (e : Entry) → Memᴰ e s.live → Memᴰ e E1 ⊎ ((y : Entry) × Memᴰ y E2 × (back_of U y ≡ e))
    unfolding live_of
    live_out e m = ⊎_elim inl (λ b. inr (Memᴰ.of_map (back_of U) E2 b)) (Memᴰ.append_cases E1 (sort_mem (entries_of n U T) e m))

    ascending_live : Ascending s.live
    unfolding live_of
    ascending_live = sort_ascending (entries_of n U T) distinct_rows

    small-live : Small n r s.live
    small-live e m =
        ⊎_elim {C = Fits n r e} (level_small n r S T.level1 h.level1 e)
        (λ q. let p = small2 q.0 q.1 in subst (Fits n r) q.2 (keeps_u _ (keeps_u _ p.0), p.1)) (live_out e m)

    t1 : (w : ℕ) → holds n r S T.level1 w ≡ within S s.size.buckets1 s.bounds1 w
    t1 w = holds_test n r S (length T.level1) T.level1 refl h.level1.some w

    t2 : (w : ℕ) → holds n r S T.level2 w ≡ within S s.size.buckets2 s.bounds2 w
    t2 w = holds_test n r S (length T.level2) T.level2 refl h.level2.some w

    -- what the second level is due is E2
    later_in : (e : Entry) → Memᴰ e E2 → Memᴰ e (later S s)
    later_in e m =
        Memᴰ.cast (sym (λ i. record { word = front e.word (small2 e m).0 i; plan = e.plan }))
        (Memᴰ.map (on_second S) (keep_in _ s.live (live_in (back_of U e) (Memᴰ.append_right E1 (Memᴰ.map (back_of U) m))) (ap not (sym (t1 (U (U e.word))) ∙ past1 e m))))

    later_out : (e : Entry) → Memᴰ e (later S s) → Memᴰ e E2
    later_out e m =
        let q = Memᴰ.of_map (on_second S) (passes S s) m in
        let k = keep_out _ s.live q.0 q.1 in
        ⊎_elim
        (λ a. absurd (clash (level_held n r S T.level1 h.level1 q.0 a) (t1 q.0.word ∙ not-true _ k.1)))
        (λ y. Memᴰ.cast (sym q.2 ∙ sym (ap (on_second S) y.2) ∙ (λ i. record { word = front y.0.word (small2 y.0 y.1).0 i; plan = y.0.plan })) y.1)
        (live_out q.0 k.0)

    later_distinct : Distinct (later S s)
    later_distinct = distinct_later n r S keeps one_to_one s ascending_live small-live

    on1 : LevelHolds n r S s.size.buckets1 T.level1 s.live
    on1 =
        level_holds n r S T.level1 h.level1 s.live (ascending_distinct s.live ascending_live) (λ e m. live_in e (Memᴰ.append_left (map (back_of U) E2) m))
        (λ e m t. ⊎_elim (λ a. a) (λ y. absurd (clash t (ap (λ (z : Entry). holds n r S T.level1 z.word) (sym y.2) ∙ past1 y.0 y.1))) (live_out e m))

    on2 : LevelHolds n r S s.size.buckets2 T.level2 (later S s)
    on2 =
        level_holds n r S T.level2 h.level2 (later S s) later_distinct (λ e m. later_in e (Memᴰ.append_left T.base m))
        (λ e m t. ⊎_elim (λ a. a) (λ b. absurd (clash t (h.base-words e b).1)) (Memᴰ.append_cases (all_rows n T.level2) (later_out e m)))

    base_is : T.base ≡ sort (last S s)
    base_is =
        ascending_ext T.base (sort (last S s)) h.ascending (sort_ascending (last S s) (keep_distinct _ (later S s) later_distinct))
        (λ e m. mem_sort (last S s) e (keep_in _ (later S s) (later_in e (Memᴰ.append_right (all_rows n T.level2) m)) (ap not (sym (t2 e.word) ∙ (h.base-words e m).1))))
        (λ e m.
        let k = keep_out _ (later S s) e (sort_mem (last S s) e m) in
        ⊎_elim (λ a. absurd (clash (level_held n r S T.level2 h.level2 e a) (t2 e.word ∙ not-true _ k.1))) (λ b. b) (Memᴰ.append_cases (all_rows n T.level2) (later_out e k.0)))

    -- the words due at the second level, as the model lists them
    due2 : (i : ℕ) → due (second_level S) s.size.buckets2 (passed (first_level S) s.size.buckets1 s.bounds1 (words s.live)) i ≡ map (seen (thr S)) (due_in S s.size.buckets2 i (later S s))
    due2 i =
        ap (λ (ws : List ℕ). due (second_level S) s.size.buckets2 ws i) (passed_words (first_level S) s.size.buckets1 s.bounds1 s.live)
        ∙ sym (due-map S s.size.buckets2 (words (passes S s)) i) ∙ ap (λ (ws : List ℕ). due (first_level S) s.size.buckets2 ws i) (sym (words-second S (passes S s)))
        ∙ due_in_lem S s.size.buckets2 i (later S s)

    valid : Valid (first_level S) (second_level S) s
    valid = record {
      ascending = ascending_live;
      length1 = bounds-length T.level1;
      length2 = bounds-length T.level2;
      low1 = λ i l. subst⁻¹ (λ (t : ℕ). t ≤ largest_bound) (bound_at n r T.level1 i l) (h.level1.buckets i l).low;
      low2 = λ i l. subst⁻¹ (λ (t : ℕ). t ≤ largest_bound) (bound_at n r T.level2 i l) (h.level2.buckets i l).low;
      free1 = λ i l. subst₂ Free (sym (bound_at n r T.level1 i l)) (sym (due_in_lem S s.size.buckets1 i s.live))
          (holds_free (thr S) (nth n r T.level1 i).bound (due_in S s.size.buckets1 i s.live) (on1.each i l));
      free2 = λ i l. subst₂ Free (sym (bound_at n r T.level2 i l)) (sym (due2 i))
          (holds_free (thr S) (nth n r T.level2 i).bound (due_in S s.size.buckets2 i (later S s)) (on2.each i l));
      fits = subst (λ (k : ℕ). k ≤ base_limit) (ap length base_is ∙ sort-length (last S s) ∙ last-length S s) h.fits;
    }

    count_is : T.count ≡ length s.live
    unfolding live_of
    count_is =
        h.counts
        ∙ sym (sort-length (entries_of n U T) ∙ entries_length n U T (level_count n r S T.level1 h.level1) (level_count n r S T.level2 h.level2))

    given_live : Given s.live
    unfolding live_of
    given_live e m = h.given e (sort_mem (entries_of n U T) e m)

    totals_are : T.totals ≡ totals_of total_numbers s.live
    unfolding live_of
    totals_are = h.totals ∙ sym (totals_perm total_numbers (sort_perm (entries_of n U T)))

    pub sound_stands : Stands n r S T (state_of n U T)
    sound_stands = record {
      valid = valid;
      pos1 = h.level1.some;
      pos2 = h.level2.some;
      small = small-live;
      given = given_live;
      level1 = on1;
      bounds1 = refl;
      level2 = on2;
      bounds2 = refl;
      based = base_is;
      counted = count_is;
      totalled = totals_are;
    }

  -- ---- and a table that stands for a state is sound

  module _ (T : Table) (s : State) (st : Stands n r S T s) where
    -- what is due at the second level passed the first
    came : (e : Entry) → Memᴰ e (later S s) → Fits n r e × (holds n r S T.level1 (U (U e.word)) ≡ false)
    came e m =
        let q = Memᴰ.of_map (on_second S) (passes S s) m in
        let k = keep_out _ s.live q.0 q.1 in
        let p = st.small q.0 k.0 in
        subst (λ (x : Entry). Fits n r x × (holds n r S T.level1 (U (U x.word)) ≡ false)) q.2
        ((keeps _ (keeps _ p.0), p.1), ap (holds n r S T.level1) (behind q.0.word p.0) ∙ test1 n r S keeps one_to_one T s st q.0.word ∙ not-true _ k.1)

    last_of : (e : Entry) → Memᴰ e T.base → Memᴰ e (later S s) × (not (within S s.size.buckets2 s.bounds2 e.word) ≡ true)
    last_of e m = keep_out _ (later S s) e (sort_mem (last S s) e (subst (Memᴰ e) st.based m))

    pub stands_sound : SoundTable n r S U T
    stands_sound = record {
      fits = subst⁻¹ (λ (k : ℕ). k ≤ base_limit) (ap length st.based ∙ sort-length (last S s) ∙ last-length S s) st.valid.fits;
      counts = table_count n r S U keeps undo T s st;
      totals = st.totalled ∙ sym (totals_perm total_numbers (table_entries n r S U keeps undo T s st));
      given = λ e m. st.given e (mem_perm (Permᴰ.symm (table_entries n r S U keeps undo T s st)) e m);
      level1 = holds_level n r S s.size.buckets1 T.level1 s.live st.level1 st.pos1 s.bounds1 st.bounds1 st.valid.low1;
      level2 = holds_level n r S s.size.buckets2 T.level2 (later S s) st.level2 st.pos2 s.bounds2 st.bounds2 st.valid.low2;
      passed = λ i v q.
          let d = (row-due n r S s.size.buckets2 T.level2 (later S s) st.level2 i v q).2 in
          ap (λ (x : ℕ). holds n r S T.level1 (U (U x))) (sym d.1) ∙ (came d.0 d.2).1;
      base-words = λ e m.
          let k = last_of e m in
          let c = came e k.0 in
          (c.0.0, test2 n r S keeps one_to_one T s st e.word ∙ not-true _ k.1, c.1);
      ascending = subst⁻¹ Ascending st.based (sort_ascending (last S s) (distinct_last n r S keeps one_to_one s st.valid st.small));
    }
