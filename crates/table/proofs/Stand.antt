-- The table stands for a state of the model: opening, lookup, change, withdrawal and add keep that. At every number of rows and of solution
-- words, and for every mix that is one to one.
-- Assumes nothing.
use Prim.Native.Nat.{ℕ, zero, suc, ◌^◌, ◌≤◌, ◌<◌}
use native.Mathlib.Omega.{arith}
use mathlib.Core.Path.{◌≡◌, refl, sym, ap, ap₂, ◌∙◌, subst, subst⁻¹, subst₂}
use mathlib.Core.Bool.{Bool, true, false, not}
use mathlib.Core.Logic.{⊎_elim}
use mathlib.Core.Option.{Option, none, some}
use mathlib.Core.List.Memᴰ
use mathlib.Core.List.Permᴰ
use mathlib.Core.List.Sublistᴰ
use mathlib.Core.List.{List, [], ◌∷◌, ◌++◌, map, map-map, map-append, Sublistᴰ, Permᴰ, Memᴰ}
use lib.Dec.{eqb}
use lib.ListN.{length, get_or, set, replicate, length-replicate, get_or-replicate, length-map}
use Rattle.lists.specs.Lists.{keep, tabulate, joined}
use Rattle.lists.specs.Entries.{Entry, assignable, words, find, insert, update, remove, sort, insert_all, Ascending, Distinct}
use Rattle.lists.specs.Totals.{totals_of, one_more, one_less}
use Rattle.lists.proofs.Tests.{by_test}
use Rattle.lists.proofs.Keep.{keep_perm, keep-map, keep_out, map-sub, perm_length, joined_perm}
use Rattle.lists.proofs.Entries.{insert_perm, insert-length, insert_ascending, update-words, update_ascending, update-length, update_perm, remove-sub, remove_ascending, remove-length, remove_perm}
use Rattle.lists.proofs.Sorts.{sort_perm, mem_perm, keep_distinct, ascending_distinct}
use Rattle.lists.proofs.Edits.{find-keep, find-renamed, distinct_renamed, find-sort, insert-all_perm, insert-all-sort}
use Rattle.lists.proofs.Totals.{totals_none, totals_insert, totals_remove, totals_update}
use Rattle.gf2.specs.Bound.{Due}
use Rattle.gf2.proofs.Bound.{fall}
use Rattle.bucket.specs.declared.Bucket.{Bucket}
use Rattle.bucket.specs.Bucket.{largest_bound, empty_bucket}
use Rattle.bucket_settle.proofs.Hold.{Holds, holds_empty}
use Rattle.model.specs.Levels.{due_as, due, passed}
use Rattle.model.specs.Model.{base_limit, Size, State, opened, with_live, would_leave, base}
use Rattle.model.proofs.Levels.{passed_words}
use Rattle.model.proofs.Arrivals.{arrive, arrives, first, first-settled, second-settled}
use Rattle.model.proofs.Valid.{Valid, valid_opened, valid_live, valid_settled}
use Rattle.table.specs.Table.{Table, total_numbers, zero_totals, with_count, with_totals, Placed, bounds, index, second, on_second, bucket_of, put, holds, plan_in, open_table, touch, changed_in, withdrawn_from, arrive_at, arrive_all, added_to}
use Rattle.table.proofs.Level.{Fits, Small, Given, first_level, second_level, within, pass, LevelHolds, level_perm, Arrived, arrive_law, ArrivedAll, arrive-all, Edit, withdraw_edit, change_edit, holds_test, level_find, level_past, level_touch, touch-bounds, touch_keeps}

module _ (S : ℕ → ℕ) where
  -- the entries that the first level does not hold
  abbrev pub passes : State → List Entry
  passes s = pass S s.size.buckets1 s.bounds1 s.live

  -- those are due at the second level, by their vectors there
  abbrev pub later : State → List Entry
  later s = map (on_second S) (passes s)

  -- and those that neither level holds
  abbrev pub last : State → List Entry
  last s = pass S s.size.buckets2 s.bounds2 (later s)

  -- ---- the second level's bounds, by words and by vectors

  pub due-map : (m : ℕ) (ws : List ℕ) (i : ℕ) → due (first_level S) m (map (second S) ws) i ≡ due (second_level S) m ws i
  due-map m ws i =
      ap (map (due_as (first_level S))) (keep-map (second S) (λ v. eqb (index S m v) i) ws)
      ∙ map-map (due_as (first_level S)) (second S) (keep (λ w. eqb (index S m (second S w)) i) ws)

  arrives-map : (m : ℕ) (B ws new : List ℕ) → arrives (first_level S) m B (map (second S) ws) (map (second S) new) ≡ arrives (second_level S) m B ws new
  arrives-map m B ws [] = refl
  arrives-map m B ws (w ∷ new) =
      let i : ℕ = index S m (second S w) in
      ap (λ (t : List ℕ). arrives (first_level S) m t (map (second S) (w ∷ ws)) (map (second S) new))
      (ap (λ (ds : List Due). set B i (fall (get_or B i 0) (due_as (second_level S) w) ds)) (due-map m ws i))
      ∙ arrives-map m (arrive (second_level S) m B ws w) (w ∷ ws) new

  pub words-second : (es : List Entry) → words (map (on_second S) es) ≡ map (second S) (words es)
  words-second es = map-map (λ (e : Entry). e.word) (on_second S) es ∙ sym (map-map (second S) (λ (e : Entry). e.word) es)

  pub last-length : (s : State) → length (last s) ≡ length (base (first_level S) (second_level S) s)
  last-length s =
      let past : Entry → Bool = λ e. not (within S s.size.buckets2 s.bounds2 (second S e.word)) in
      ap length (keep-map (on_second S) (λ e. not (within S s.size.buckets2 s.bounds2 e.word)) (passes s))
      ∙ length-map (keep past (passes s)) (on_second S)
      ∙ sym (ap (λ (ws : List ℕ). length (passed (second_level S) s.size.buckets2 s.bounds2 ws)) (passed_words (first_level S) s.size.buckets1 s.bounds1 s.live)
      ∙ ap length (passed_words (second_level S) s.size.buckets2 s.bounds2 (passes s))
      ∙ length-map (keep past (passes s)) (λ e. e.word))

module _ (n r : ℕ) (S : ℕ → ℕ) where
  -- the table T stands for the state s: each level holds its due of the live words, the base list the others
  pub record Stands (T : Table) (s : State) : Type 0 where
    pub valid : Valid (first_level S) (second_level S) s
    pub pos1 : 0 < s.size.buckets1
    pub pos2 : 0 < s.size.buckets2
    pub small : Small n r s.live
    pub given : Given s.live
    pub level1 : LevelHolds n r S s.size.buckets1 T.level1 s.live
    pub bounds1 : bounds T.level1 ≡ s.bounds1
    pub level2 : LevelHolds n r S s.size.buckets2 T.level2 (later S s)
    pub bounds2 : bounds T.level2 ≡ s.bounds2
    pub based : T.base ≡ sort (last S s)
    pub counted : T.count ≡ length s.live
    pub totalled : T.totals ≡ totals_of total_numbers s.live

  -- ---- opening

  open_bounds : (m : ℕ) → bounds (replicate m (empty_bucket n r)) ≡ tabulate (λ i. largest_bound) m
  unfolding bounds empty_bucket
  open_bounds zero = refl
  open_bounds (suc m) = ap {B = List ℕ} (λ l. largest_bound ∷ l) (open_bounds m)

  open_level : (m : ℕ) → LevelHolds n r S m (replicate m (empty_bucket n r)) []
  open_level m = record {
    count = length-replicate m (empty_bucket n r);
    each = λ i h. subst⁻¹ (λ (b : Bucket). Holds n r b []) (get_or-replicate m i (empty_bucket n r) (empty_bucket n r) h) (holds_empty n r);
  }

  open_totals : zero_totals ≡ totals_of total_numbers []
  unfolding zero_totals
  open_totals = sym (totals_none total_numbers)

  pub open_stands : (z : Size) → 0 < z.buckets1 → 0 < z.buckets2 → Stands (open_table n r z.buckets1 z.buckets2) (opened z)
  open_stands z p1 p2 = record {
    valid = valid_opened (first_level S) (second_level S) z;
    pos1 = p1;
    pos2 = p2;
    small = λ e m. absurd (Memᴰ.not-nil m);
    given = λ e m. absurd (Memᴰ.not-nil m);
    level1 = open_level z.buckets1;
    bounds1 = open_bounds z.buckets1;
    level2 = open_level z.buckets2;
    bounds2 = open_bounds z.buckets2;
    based = refl;
    counted = refl;
    totalled = open_totals;
  }

-- ---- what each live word has (below 2 ^ n, its plan below 2 ^ r, one that may be given) stays so

module _ (P : Entry → Type 0) where
  each_cons : (e : Entry) (es : List Entry) → P e → ((x : Entry) → Memᴰ x es → P x) → (x : Entry) → Memᴰ x (e ∷ es) → P x
  each_cons e es h k x m = ⊎_elim {C = P x} (λ (q : x ≡ e). subst⁻¹ P q h) (k x) (Memᴰ.cases_cons m)

  each_removed : (w q : ℕ) (es : List Entry) → find w es ≡ some q → ((x : Entry) → Memᴰ x es → P x) → (x : Entry) → Memᴰ x (remove w es) → P x
  each_removed w q es f h x m = h x (mem_perm (remove_perm w q es f) x (Memᴰ.tail m))

  each_updated : (d : Entry) (q : ℕ) (es : List Entry) → find d.word es ≡ some q → P d → ((x : Entry) → Memᴰ x es → P x)
      → (x : Entry) → Memᴰ x (update d es) → P x
  each_updated d q es f h k x m = each_cons d (remove d.word es) h (each_removed d.word q es f k) x (mem_perm (Permᴰ.symm (update_perm d q es f)) x m)

  each_inserted : (e : Entry) (es : List Entry) → P e → ((x : Entry) → Memᴰ x es → P x) → (x : Entry) → Memᴰ x (insert e es) → P x
  each_inserted e es h k x m = each_cons e es h k x (mem_perm (Permᴰ.symm (insert_perm e es)) x m)

small-second : (n r : ℕ) (S : ℕ → ℕ) → ((x : ℕ) → x < 2 ^ n → S x < 2 ^ n) → (es : List Entry) → Small n r es → Small n r (map (on_second S) es)
small-second n r S keeps es h x m =
    let q = Memᴰ.of_map (on_second S) es m in
    let k = h q.0 q.1 in
    subst (Fits n r) q.2 (keeps _ (keeps _ k.0), k.1)

module _ (n r : ℕ) (S : ℕ → ℕ) (keeps : (x : ℕ) → x < 2 ^ n → S x < 2 ^ n) (one_to_one : (u v : ℕ) → u < 2 ^ n → v < 2 ^ n → S u ≡ S v → u ≡ v) where
  inj : (u v : ℕ) → u < 2 ^ n → v < 2 ^ n → second S u ≡ second S v → u ≡ v
  inj u v hu hv e = one_to_one u v hu hv (one_to_one (S u) (S v) (keeps u hu) (keeps v hv) e)

  -- ---- states whose live words are in order

  module _ (s : State) where
    small-passes : Small n r s.live → Small n r (passes S s)
    small-passes small e m = small e (keep_out _ s.live e m).0

    pub distinct_later : Ascending s.live → Small n r s.live → Distinct (later S s)
    distinct_later up small =
        distinct_renamed (second S) (2 ^ n) inj (passes S s) (λ e m. (small-passes small e m).0) (keep_distinct _ s.live (ascending_distinct s.live up))

    pub distinct_last : Valid (first_level S) (second_level S) s → Small n r s.live → Distinct (last S s)
    distinct_last v small = keep_distinct _ (later S s) (distinct_later v.ascending small)

  module _ (T : Table) (s : State) (st : Stands n r S T s) where
    pub test1 : (w : ℕ) → holds n r S T.level1 w ≡ within S s.size.buckets1 s.bounds1 w
    test1 w = holds_test n r S s.size.buckets1 T.level1 st.level1.count st.pos1 w ∙ ap (λ (B : List ℕ). within S s.size.buckets1 B w) st.bounds1

    pub test2 : (v : ℕ) → holds n r S T.level2 v ≡ within S s.size.buckets2 s.bounds2 v
    test2 v = holds_test n r S s.size.buckets2 T.level2 st.level2.count st.pos2 v ∙ ap (λ (B : List ℕ). within S s.size.buckets2 B v) st.bounds2

    pass1 : (w : ℕ) {b : Bool} → holds n r S T.level1 w ≡ b → not (within S s.size.buckets1 s.bounds1 w) ≡ not b
    pass1 w h = ap not (sym (test1 w) ∙ h)

    pass2 : (v : ℕ) {b : Bool} → holds n r S T.level2 v ≡ b → not (within S s.size.buckets2 s.bounds2 v) ≡ not b
    pass2 v h = ap not (sym (test2 v) ∙ h)

    module _ (w : ℕ) (l : w < 2 ^ n) where
      abbrev w' : ℕ
      w' = second S w

      l' : w' < 2 ^ n
      l' = keeps (S w) (keeps w l)

      -- the word is due at the second level, and in the base list
      find-later : holds n r S T.level1 w ≡ false → find w' (later S s) ≡ find w s.live
      find-later f =
          find-renamed (second S) (2 ^ n) inj w (passes S s) l (λ e m. (small-passes s st.small e m).0)
          ∙ find-keep (λ v. not (within S s.size.buckets1 s.bounds1 v)) w s.live (pass1 w f)

      find-last : holds n r S T.level1 w ≡ false → holds n r S T.level2 w' ≡ false → find w' (last S s) ≡ find w s.live
      find-last f g = find-keep (λ v. not (within S s.size.buckets2 s.bounds2 v)) w' (later S s) (pass2 w' g) ∙ find-later f

      -- the three tests find the plan, and nothing for every other word
      pub look : plan_in n r S T w ≡ find w s.live
      look =
          by_test (λ (o : Option ℕ). o ≡ find w s.live) (holds n r S T.level1 w)
          (λ t. level_find n r S w st.pos1 st.level1 l t)
          (λ f. by_test (λ (o : Option ℕ). o ≡ find w s.live) (holds n r S T.level2 w')
          (λ t. level_find n r S w' st.pos2 st.level2 l' t ∙ find-later f)
          (λ g. ap (find w') st.based ∙ find-sort w' (last S s) (distinct_last s st.valid st.small) ∙ find-last f g))

      -- ---- change and withdraw

      module _ (f : ℕ → Bucket → Bucket) (g : ℕ → List Entry → List Entry) (edit : Edit n r S f g) (q : ℕ) (live : find w s.live ≡ some q)
          (valid : Valid (first_level S) (second_level S) (with_live s (g w s.live))) (small : Small n r (g w s.live)) (given : Given (g w s.live)) where
        abbrev s' : State
        s' = with_live s (g w s.live)

        passes_out : holds n r S T.level1 w ≡ true → passes S s' ≡ passes S s
        passes_out t = edit.outside (λ v. not (within S s.size.buckets1 s.bounds1 v)) w s.live (pass1 w t)

        later_in : holds n r S T.level1 w ≡ false → later S s' ≡ g w' (later S s)
        later_in t =
            ap (map (on_second S)) (edit.inside (λ v. not (within S s.size.buckets1 s.bounds1 v)) w s.live (pass1 w t))
            ∙ edit.twice w (passes S s) l (λ e m. (small-passes s st.small e m).0)

        touch_stands : (c : ℕ) (ts : List ℕ) → c ≡ length (g w s.live) → ts ≡ totals_of total_numbers (g w s.live) → Stands n r S (with_totals (with_count (touch n r S T w f g) c) ts) s'
        touch_stands c ts count total =
            by_test (λ (U : Table). Stands n r S (with_totals (with_count U c) ts) s') (holds n r S T.level1 w)
            (λ t. now (level_touch n r S w st.pos1 st.level1 l f g edit q live t) (touch-bounds n r S w st.pos1 st.level1 l f g edit q live t ∙ st.bounds1)
            (subst⁻¹ (λ (es : List Entry). LevelHolds n r S s.size.buckets2 T.level2 (map (on_second S) es)) (passes_out t) st.level2) st.bounds2
            (st.based ∙ sym (ap (λ (es : List Entry). sort (pass S s.size.buckets2 s.bounds2 (map (on_second S) es))) (passes_out t))))
            (λ t. by_test (λ (U : Table). Stands n r S (with_totals (with_count U c) ts) s') (holds n r S T.level2 w')
            (λ u. now (level_past n r S w st.pos1 st.level1 l f g edit t) st.bounds1
            (subst⁻¹ (LevelHolds n r S s.size.buckets2 (put S T.level2 w' (f w' (bucket_of n r S T.level2 w')))) (later_in t)
            (level_touch n r S w' st.pos2 st.level2 l' f g edit q (find-later t ∙ live) u))
            (touch-bounds n r S w' st.pos2 st.level2 l' f g edit q (find-later t ∙ live) u ∙ st.bounds2)
            (st.based ∙ sym (last_in t ∙ ap sort (edit.outside (λ v. not (within S s.size.buckets2 s.bounds2 v)) w' (later S s) (pass2 w' u)))))
            (λ u. now (level_past n r S w st.pos1 st.level1 l f g edit t) st.bounds1
            (subst⁻¹ (LevelHolds n r S s.size.buckets2 T.level2) (later_in t) (level_past n r S w' st.pos2 st.level2 l' f g edit u)) st.bounds2
            (ap (g w') st.based ∙ edit.sorted w' q (last S s) (distinct_last s st.valid st.small) (find-last t u ∙ live)
            ∙ sym (last_in t ∙ ap sort (edit.inside (λ v. not (within S s.size.buckets2 s.bounds2 v)) w' (later S s) (pass2 w' u))))))
          where
            -- levels and a base list that stand for those of s'
            now : {b1 b2 : List Bucket} {es : List Entry} → LevelHolds n r S s.size.buckets1 b1 s'.live → bounds b1 ≡ s.bounds1
                → LevelHolds n r S s.size.buckets2 b2 (later S s') → bounds b2 ≡ s.bounds2 → es ≡ sort (last S s') → Stands n r S (record { level1 = b1; level2 = b2; base = es; count = c; totals = ts }) s'
            now l1 e1 l2 e2 b = record { valid = valid; pos1 = st.pos1; pos2 = st.pos2; small = small; given = given; level1 = l1; bounds1 = e1; level2 = l2; bounds2 = e2; based = b; counted = count; totalled = total }

            last_in : holds n r S T.level1 w ≡ false → sort (last S s') ≡ sort (pass S s.size.buckets2 s.bounds2 (g w' (later S s)))
            last_in t = ap (λ (es : List Entry). sort (pass S s.size.buckets2 s.bounds2 es)) (later_in t)

        -- the live count stays
        touch_stays : (ts : List ℕ) → T.count ≡ length (g w s.live) → ts ≡ totals_of total_numbers (g w s.live) → Stands n r S (with_totals (touch n r S T w f g) ts) s'
        touch_stays ts e = touch_stands _ ts (touch_keeps n r S T w f g ∙ e)

      pub withdraw_stands : (q : ℕ) → find w s.live ≡ some q → Stands n r S (withdrawn_from n r S T w q) (with_live s (remove w s.live))
      withdraw_stands q f =
          touch_stands _ _ (withdraw_edit n r S inj) q f
          (valid_live (first_level S) (second_level S) s st.valid (remove w s.live) (remove_ascending w s.live st.valid.ascending) (map-sub (λ (e : Entry). e.word) (remove-sub w s.live)))
          (each_removed (Fits n r) w q s.live f st.small) (each_removed (λ e. assignable e.plan ≡ true) w q s.live f st.given) _ _
          (let h = remove-length w q s.live f in let k = st.counted in omega arith)
          (ap (one_less q) st.totalled ∙ sym (totals_remove total_numbers w q s.live f))

      pub change_stands : (p q : ℕ) → p < 2 ^ r → assignable p ≡ true → find w s.live ≡ some q → Stands n r S (changed_in n r S T w p q) (with_live s (update (record { word = w; plan = p }) s.live))
      change_stands p q h a f =
          let d : Entry = record { word = w; plan = p } in
          touch_stays _ _ (change_edit n r S inj p h) q f
          (valid_live (first_level S) (second_level S) s st.valid (update d s.live) (update_ascending d s.live st.valid.ascending)
          (subst⁻¹ (λ (ws : List ℕ). Sublistᴰ ws (words s.live)) (update-words d s.live) (Sublistᴰ.refl (words s.live))))
          (each_updated (Fits n r) d q s.live f (l, h) st.small) (each_updated (λ e. assignable e.plan ≡ true) d q s.live f a st.given) _
          (st.counted ∙ sym (update-length d s.live))
          (ap (λ (ts : List ℕ). one_more p (one_less q ts)) st.totalled ∙ sym (totals_update total_numbers w q s.live f p))

    -- ---- add

    module _ (e : Entry) (fits : Fits n r e) (assigned : assignable e.plan ≡ true) (fresh : find e.word s.live ≡ none) where
      -- the state that the model comes to
      abbrev t : State
      t = would_leave (first_level S) (second_level S) s e

      abbrev p1 : Placed
      p1 = arrive_at n r S T.level1 e

      abbrev p2 : Placed
      p2 = arrive_all n r S T.level2 (map (on_second S) p1.out)

      a1 : Arrived n r S s.size.buckets1 T.level1 s.live e p1
      a1 = arrive_law n r S s.size.buckets1 T.level1 s.live e st.pos1 fits st.level1

      first_is : bounds p1.buckets ≡ first (first_level S) (second_level S) s st.valid st.pos1 st.pos2 e
      first_is = a1.falls ∙ ap (λ (B : List ℕ). arrive (first_level S) s.size.buckets1 B (words s.live) e.word) st.bounds1

      now1 : bounds p1.buckets ≡ t.bounds1
      now1 = first_is ∙ first-settled (first_level S) (second_level S) s st.valid st.pos1 st.pos2 e

      -- what leaves the first level
      leaves1 : Permᴰ (p1.out ++ passes S s) (pass S s.size.buckets1 t.bounds1 (e ∷ s.live))
      leaves1 = subst₂ (λ (A B : List ℕ). Permᴰ (p1.out ++ pass S s.size.buckets1 A s.live) (pass S s.size.buckets1 B (e ∷ s.live))) st.bounds1 now1 a1.leaves

      small_both : Small n r (e ∷ s.live)
      small_both = each_cons (Fits n r) e s.live fits st.small

      small_out : Small n r p1.out
      small_out x m =
          small_both x (keep_out (λ y. not (within S s.size.buckets1 t.bounds1 y.word)) (e ∷ s.live) x (mem_perm (Permᴰ.symm leaves1) x (Memᴰ.append_left (passes S s) m))).0

      a2 : ArrivedAll n r S s.size.buckets2 T.level2 (later S s) (map (on_second S) p1.out) p2
      a2 = arrive-all n r S s.size.buckets2 st.pos2 T.level2 (later S s) (map (on_second S) p1.out) (small-second n r S keeps p1.out small_out) st.level2

      live_perm : Permᴰ (e ∷ s.live) (insert e s.live)
      live_perm = Permᴰ.symm (insert_perm e s.live)

      -- the entries that are due at the second level now
      due2 : Permᴰ (joined (later S s) (map (on_second S) p1.out)) (later S t)
      due2 =
          Permᴰ.trans (joined_perm (later S s) (map (on_second S) p1.out))
          (subst (λ (l : List Entry). Permᴰ l (later S t)) (map-append (on_second S) p1.out (passes S s))
          (Permᴰ.map (on_second S) (Permᴰ.trans leaves1 (keep_perm _ live_perm))))

      now2 : bounds p2.buckets ≡ t.bounds2
      now2 =
          a2.falls
          ∙ ap (λ (B : List ℕ). arrives (first_level S) s.size.buckets2 B (words (later S s)) (words (map (on_second S) p1.out))) st.bounds2
          ∙ ap₂ (λ (a b : List ℕ). arrives (first_level S) s.size.buckets2 s.bounds2 a b) (words-second S (passes S s)) (words-second S p1.out)
          ∙ arrives-map S s.size.buckets2 s.bounds2 (words (passes S s)) (words p1.out)
          ∙ ap (λ (l : List ℕ). arrives (second_level S) s.size.buckets2 s.bounds2 l (words p1.out)) (sym (passed_words (first_level S) s.size.buckets1 s.bounds1 s.live))
          ∙ second-settled (first_level S) (second_level S) s st.valid st.pos1 st.pos2 e (words p1.out)
          (subst₂ (λ (a b : List ℕ). Permᴰ a b)
          (map-append (λ (x : Entry). x.word) p1.out (passes S s) ∙ ap (λ (l : List ℕ). words p1.out ++ l) (sym (passed_words (first_level S) s.size.buckets1 s.bounds1 s.live)))
          (sym (passed_words (first_level S) s.size.buckets1 t.bounds1 (e ∷ s.live))
          ∙ ap (λ (B : List ℕ). passed (first_level S) s.size.buckets1 B (e.word ∷ words s.live)) (sym now1 ∙ first_is))
          (Permᴰ.map (λ (x : Entry). x.word) leaves1))

      based_now : Permᴰ (p2.out ++ last S s) (last S t)
      based_now =
          Permᴰ.trans
          (subst₂ (λ (A B : List ℕ). Permᴰ (p2.out ++ pass S s.size.buckets2 A (later S s)) (pass S s.size.buckets2 B (joined (later S s) (map (on_second S) p1.out)))) st.bounds2 now2 a2.leaves)
          (keep_perm _ due2)

      -- the base list is as long as the model's
      pub based_length : length (added_to n r S T e).base ≡ length (base (first_level S) (second_level S) t)
      based_length =
          perm_length
          (Permᴰ.trans (insert-all_perm p2.out T.base)
          (Permᴰ.trans (Permᴰ.append_left p2.out (subst⁻¹ (λ (l : List Entry). Permᴰ l (last S s)) st.based (sort_perm (last S s)))) based_now))
          ∙ last-length S t

      pub add_stands : length (base (first_level S) (second_level S) t) ≤ base_limit → Stands n r S (added_to n r S T e) t
      add_stands h =
          let small : Small n r (insert e s.live) = each_inserted (Fits n r) e s.live fits st.small in
          let valid = valid_settled (first_level S) (second_level S) s st.valid (insert e s.live) (insert_ascending e s.live st.valid.ascending fresh) h in
          record {
            valid = valid;
            pos1 = st.pos1;
            pos2 = st.pos2;
            small = small;
            given = each_inserted (λ x. assignable x.plan ≡ true) e s.live assigned st.given;
            level1 = level_perm n r S live_perm a1.level;
            bounds1 = now1;
            level2 = level_perm n r S due2 a2.level;
            bounds2 = now2;
            based = ap (insert_all p2.out) st.based ∙ insert-all-sort p2.out (last S s) (last S t) based_now (distinct_last s st.valid st.small) (distinct_last t valid small);
            counted = ap suc st.counted ∙ sym (insert-length e s.live);
            totalled = ap (one_more e.plan) st.totalled ∙ sym (totals_insert total_numbers e s.live);
          }
