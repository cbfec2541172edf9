-- A level: its buckets hold the words that are due there under their bounds. What an arrival does to a level, and arrivals one after the other;
-- the level whose word is looked up, changed or withdrawn.
-- At every number n of rows and r of solution words, and for every mix S.
-- Assumes nothing.
use Prim.Native.Nat.{ℕ, ◌/◌, ◌^◌, ◌<◌}
use native.Mathlib.Nat.{mod-lt}
use mathlib.Core.Path.{◌≡◌, refl, sym, ap, ap₂, ◌∙◌, subst, subst⁻¹, subst₂}
use mathlib.Core.Bool.{Bool, true, false, not, ◌&&◌, and_comm, and-false}
use mathlib.Core.Option.{some}
use mathlib.Core.List.Permᴰ
use mathlib.Core.List.{List, [], ◌∷◌, ◌++◌, map, map-map, append_assoc, Permᴰ, Memᴰ}
use lib.Dec.{eqb, ltb}
use lib.ListN.{length, get_or, set, length-set, length-map}
use lib.Seq.{get_or-set_same, get_or-set_other, map-set_same}
use borrow.Author.Tests.{eqb-true, eqb-false, eq-eqb}
use Rattle.lists.specs.Lists.{keep, joined}
use Rattle.lists.specs.Entries.{Entry, assignable, words, find, update, remove, sort, Distinct}
use Rattle.lists.proofs.Tests.{by_test, cases, cond_true, cond_false}
use Rattle.lists.proofs.Keep.{keep_perm, keep-keep, keep-map, keep_ext, keep-part, shuffle, map-set, get_d_map_in}
use Rattle.lists.proofs.Edits.{find-keep, remove_in, remove_out, update_in, update_out, remove-renamed, update-renamed, sort-update, sort-remove}
use Rattle.gf2.specs.Bound.{Due}
use Rattle.gf2.proofs.Bound.{fall}
use Rattle.identifier.specs.Place.{thresholds}
use Rattle.bucket.specs.declared.Bucket.{Bucket}
use Rattle.bucket.specs.Bucket.{empty_bucket, changed, without}
use Rattle.bucket_settle.specs.Settle.{plan_of, Settlement, settle}
use Rattle.bucket_settle.proofs.Hold.{Holds, holds_perm, holds-find, holds-withdraw, withdraw-bound, holds-change, change-bound}
use Rattle.bucket_settle.proofs.Settling.{held, over, seen, Settles, settle_law}
use Rattle.model.specs.Levels as M
use Rattle.model.specs.Levels.{Level, due_as, due}
use Rattle.model.proofs.Arrivals.{arrive, arrives}
use Rattle.table.specs.Table.{Table, Placed, bounds, thr, index, second, on_second, nth, bucket_of, put, holds, touch, arrive_at, arrive_all}

pub bounds-length : (bs : List Bucket) → length (bounds bs) ≡ length bs
unfolding bounds
bounds-length bs = length-map bs (λ b. b.bound)

pub bound_at : (n r : ℕ) (bs : List Bucket) (i : ℕ) → i < length bs → get_or (bounds bs) i 0 ≡ (nth n r bs i).bound
unfolding bounds
bound_at n r bs i h = get_d_map_in (λ b. b.bound) bs i (empty_bucket n r) 0 h

-- words of n bits with plans of r bits
abbrev pub Fits : ℕ → ℕ → Entry → Type 0
Fits n r e = (e.word < 2 ^ n) × (e.plan < 2 ^ r)

abbrev pub Small : ℕ → ℕ → List Entry → Type 0
Small n r es = (e : Entry) → Memᴰ e es → Fits n r e

-- each has a plan that may be given
abbrev pub Given : List Entry → Type 0
Given es = (e : Entry) → Memᴰ e es → assignable e.plan ≡ true

-- a test of a number that is i is one of i
pub at_one : (f : ℕ → Bool) (k i : ℕ) → (f k && eqb k i) ≡ (eqb k i && f i)
at_one f k i =
    and_comm (f k) (eqb k i) ∙ cases (eqb k i) (λ t. ap (λ (j : ℕ). eqb k i && f j) (eqb-true k i t)) (λ e. ap (λ (b : Bool). b && f k) e ∙ sym (ap (λ (b : Bool). b && f i) e))

module _ (S : ℕ → ℕ) where
  -- the model's levels for the mix S
  abbrev pub first_level : Level
  first_level = record { vector = λ w. w; place = λ w. S w }

  abbrev pub second_level : Level
  second_level = record { vector = λ w. second S w; place = λ w. S (second S w) }

  -- the vector v is held, in its bucket of m, under these bounds
  abbrev pub within : ℕ → List ℕ → ℕ → Bool
  within m B v = M.holds first_level m B v

  -- of the entries es: those due in bucket i of m, and those that the bounds pass on
  abbrev pub due_in : ℕ → ℕ → List Entry → List Entry
  due_in m i es = keep (λ e. eqb (index S m e.word) i) es

  abbrev pub pass : ℕ → List ℕ → List Entry → List Entry
  pass m B es = keep (λ e. not (within m B e.word)) es

  -- ---- what passes, by the bucket i and the others

  abbrev away : ℕ → ℕ → List ℕ → List Entry → List Entry
  away m i B es = keep (λ e. not (within m B e.word) && not (eqb (index S m e.word) i)) es

  pub due_in_lem : (m i : ℕ) (es : List Entry) → due first_level m (words es) i ≡ map (seen (thr S)) (due_in m i es)
  due_in_lem m i es =
      ap (map (due_as first_level)) (keep-map (λ (e : Entry). e.word) (λ w. eqb (index S m w) i) es) ∙ map-map (due_as first_level) (λ (e : Entry). e.word) (due_in m i es)

  pass_split : (m i : ℕ) (B : List ℕ) (es : List Entry) → Permᴰ (pass m B es) (over (thr S) (get_or B i 0) (due_in m i es) ++ away m i B es)
  pass_split m i B es =
      subst₂ (λ (l k : List Entry). Permᴰ (pass m B es) (l ++ k))
      (keep-keep (λ e. eqb (index S m e.word) i) (λ e. not (within m B e.word)) es
      ∙ keep_ext _ (λ e. eqb (index S m e.word) i && not (ltb (thr S e.word) (get_or B i 0))) es (λ e. at_one (λ k. not (ltb (thr S e.word) (get_or B k 0))) (index S m e.word) i)
      ∙ sym (keep-keep (λ e. not (ltb (thr S e.word) (get_or B i 0))) (λ e. eqb (index S m e.word) i) es))
      (keep-keep (λ e. not (eqb (index S m e.word) i)) (λ e. not (within m B e.word)) es)
      (keep-part (λ e. eqb (index S m e.word) i) (pass m B es))

  away-set : (m i c : ℕ) (B : List ℕ) (es : List Entry) → away m i (set B i c) es ≡ away m i B es
  away-set m i c B es =
      keep_ext _ _ es (λ e.
      let k : ℕ = index S m e.word in
      let x : ℕ = thr S e.word in
      cases (eqb k i)
      (λ t. ap (λ (b : Bool). not (ltb x (get_or (set B i c) k 0)) && not b) t ∙ and-false (not (ltb x (get_or (set B i c) k 0)))
      ∙ sym (ap (λ (b : Bool). not (ltb x (get_or B k 0)) && not b) t ∙ and-false (not (ltb x (get_or B k 0)))))
      (λ f. ap (λ (z : ℕ). not (ltb x z) && not (eqb k i)) (get_or-set_other B i k c 0 (eqb-false k i f))))

module _ (n r : ℕ) (S : ℕ → ℕ) where
  -- of the entries es, bucket b holds those that are due in bucket i of m under its bound
  abbrev pub HoldsDue : ℕ → ℕ → List Entry → Bucket → Type 0
  HoldsDue m i es b = Holds n r b (held (thr S) b.bound (due_in S m i es))

  -- each bucket of the level holds its due
  pub record LevelHolds (m : ℕ) (bs : List Bucket) (es : List Entry) : Type 0 where
    pub count : length bs ≡ m
    pub each : (i : ℕ) → i < m → HoldsDue m i es (nth n r bs i)

  pub level_perm : {m : ℕ} {bs : List Bucket} {es fs : List Entry} → Permᴰ es fs → LevelHolds m bs es → LevelHolds m bs fs
  level_perm {m} {bs} s l = record {
    count = l.count;
    each = λ i h. holds_perm (l.each i h) (keep_perm (λ e. ltb (thr S e.word) (nth n r bs i).bound) (keep_perm (λ e. eqb (index S m e.word) i) s));
  }

  -- bucket i of the level is replaced by one that holds its due of other entries, and the due of every other bucket stays
  pub level_set : {m : ℕ} {bs : List Bucket} {es fs : List Entry} (i : ℕ) (b : Bucket) → LevelHolds m bs es → i < m → HoldsDue m i fs b
      → ((j : ℕ) → eqb i j ≡ false → due_in S m j fs ≡ due_in S m j es) → LevelHolds m (set bs i b) fs
  level_set {m} {bs} {es} {fs} i b l i_lt own others = record {
    count = length-set bs i b ∙ l.count;
    each = λ j h.
        cases (eqb i j)
        (λ t. subst (λ (k : ℕ). HoldsDue m k fs (nth n r (set bs i b) k)) (eqb-true i j t)
        (subst⁻¹ (HoldsDue m i fs) (get_or-set_same bs i b (empty_bucket n r) (subst⁻¹ (λ (z : ℕ). i < z) l.count i_lt)) own))
        (λ f. subst⁻¹ (HoldsDue m j fs) (get_or-set_other bs i j b (empty_bucket n r) (λ q. eqb-false i j f (sym q)))
        (subst⁻¹ (λ (ds : List Entry). Holds n r (nth n r bs j) (held (thr S) (nth n r bs j).bound ds)) (others j f) (l.each j h)));
  }

  -- ---- one arrival

  pub record Arrived (m : ℕ) (bs : List Bucket) (es : List Entry) (e : Entry) (p : Placed) : Type 0 where
    pub level : LevelHolds m p.buckets (e ∷ es)
    pub falls : bounds p.buckets ≡ arrive (first_level S) m (bounds bs) (words es) e.word
    pub leaves : Permᴰ (p.out ++ pass S m (bounds bs) es) (pass S m (bounds p.buckets) (e ∷ es))

  module _ (bs : List Bucket) (es : List Entry) (e : Entry) (pos : 0 < length bs) (small : Fits n r e)
      (l : LevelHolds (length bs) bs es) where
    abbrev m : ℕ
    m = length bs

    abbrev i : ℕ
    i = index S m e.word

    i_lt : i < m
    i_lt = mod-lt (S e.word / thresholds) pos

    abbrev fs : List Entry
    fs = due_in S m i es

    abbrev s : Settlement
    s = settle n (thr S) e (nth n r bs i).bound (nth n r bs i)

    law : Settles n r (thr S) e fs (nth n r bs i).bound s
    law = settle_law n r (thr S) e fs small.0 small.1 (nth n r bs i).bound (nth n r bs i) refl (l.each i i_lt)

    own_due : due_in S m i (e ∷ es) ≡ e ∷ fs
    own_due = cond_true (e ∷ fs) fs (eq-eqb i i refl)

    here-bound : get_or (bounds bs) i 0 ≡ (nth n r bs i).bound
    here-bound = bound_at n r bs i i_lt

    new_bounds : bounds (set bs i s.bucket) ≡ set (bounds bs) i s.bucket.bound
    unfolding bounds
    new_bounds = map-set (λ b. b.bound) bs i s.bucket

    there-bound : get_or (bounds (set bs i s.bucket)) i 0 ≡ s.bucket.bound
    there-bound =
        ap (λ (B : List ℕ). get_or B i 0) new_bounds ∙ get_or-set_same (bounds bs) i s.bucket.bound 0 (subst⁻¹ (λ (z : ℕ). i < z) (bounds-length bs) i_lt)

    away-after : away S m i (bounds (set bs i s.bucket)) (e ∷ es) ≡ away S m i (bounds bs) es
    away-after =
        let B : List ℕ = bounds (set bs i s.bucket) in
        cond_false (e ∷ away S m i B es) (away S m i B es)
        (ap (λ (b : Bool). not (ltb (thr S e.word) (get_or B i 0)) && not b) (eq-eqb i i refl) ∙ and-false (not (ltb (thr S e.word) (get_or B i 0))))
        ∙ ap (λ (C : List ℕ). away S m i C es) new_bounds ∙ away-set S m i s.bucket.bound (bounds bs) es

    arrive-here : Arrived m bs es e (arrive_at n r S bs e)
    arrive-here = record {
      level = level_set i s.bucket l i_lt (subst⁻¹ (λ (l : List Entry). Holds n r s.bucket (held (thr S) s.bucket.bound l)) own_due law.holds)
          (λ j f. cond_false (e ∷ due_in S m j es) (due_in S m j es) f);
      falls = new_bounds ∙ ap (set (bounds bs) i) (law.falls ∙ ap₂ (λ (t : ℕ) (ds : List Due). fall t (seen (thr S) e) ds) (sym here-bound) (sym (due_in_lem S m i es)));
      leaves = Permᴰ.trans (Permᴰ.append_left s.out (pass_split S m i (bounds bs) es))
          (subst (λ (l : List Entry). Permᴰ l (pass S m (bounds (set bs i s.bucket)) (e ∷ es)))
          (append_assoc s.out (over (thr S) (get_or (bounds bs) i 0) fs) (away S m i (bounds bs) es))
          (Permᴰ.trans (Permᴰ.append_right (away S m i (bounds bs) es)
          (subst⁻¹ (λ (t : ℕ). Permᴰ (s.out ++ over (thr S) t fs) (over (thr S) s.bucket.bound (e ∷ fs))) here-bound law.leaves))
          (subst₂ (λ (l k : List Entry). Permᴰ (l ++ k) (pass S m (bounds (set bs i s.bucket)) (e ∷ es)))
          (ap₂ (λ (t : ℕ) (l : List Entry). over (thr S) t l) there-bound own_due) away-after
          (Permᴰ.symm (pass_split S m i (bounds (set bs i s.bucket)) (e ∷ es))))));
    }

  pub arrive_law : (m : ℕ) (bs : List Bucket) (es : List Entry) (e : Entry) → 0 < m → Fits n r e → LevelHolds m bs es → Arrived m bs es e (arrive_at n r S bs e)
  arrive_law m bs es e pos small l =
      subst (λ (k : ℕ). 0 < k → LevelHolds k bs es → Arrived k bs es e (arrive_at n r S bs e)) l.count (λ p a. arrive-here bs es e p small a) pos l

  -- ---- arrivals one after the other

  pub record ArrivedAll (m : ℕ) (bs : List Bucket) (es new : List Entry) (p : Placed) : Type 0 where
    pub level : LevelHolds m p.buckets (joined es new)
    pub falls : bounds p.buckets ≡ arrives (first_level S) m (bounds bs) (words es) (words new)
    pub leaves : Permᴰ (p.out ++ pass S m (bounds bs) es) (pass S m (bounds p.buckets) (joined es new))

  pub arrive-all : (m : ℕ) → 0 < m → (bs : List Bucket) (es new : List Entry) → Small n r new → LevelHolds m bs es → ArrivedAll m bs es new (arrive_all n r S bs new)
  arrive-all m pos bs es [] small l = record { level = l; falls = refl; leaves = Permᴰ.refl (pass S m (bounds bs) es) }
  arrive-all m pos bs es (e ∷ new) small l =
      let p : Placed = arrive_at n r S bs e in
      let q : Placed = arrive_all n r S p.buckets new in
      let a = arrive_law m bs es e pos (small e (Memᴰ.head refl)) l in
      let b = arrive-all m pos p.buckets (e ∷ es) new (λ x i. small x (Memᴰ.tail i)) a.level in
      record {
        level = b.level;
        falls = b.falls ∙ ap (λ (t : List ℕ). arrives (first_level S) m t (e.word ∷ words es) (words new)) a.falls;
        leaves = Permᴰ.trans (shuffle p.out q.out (pass S m (bounds bs) es)) (Permᴰ.trans (Permᴰ.append_left q.out a.leaves) b.leaves);
      }

-- ---- a level whose word is looked up, changed or withdrawn

module _ (n r : ℕ) (S : ℕ → ℕ) where
  -- the test of a level, by its bounds
  pub holds_test : (m : ℕ) (bs : List Bucket) → length bs ≡ m → 0 < m → (v : ℕ) → holds n r S bs v ≡ within S m (bounds bs) v
  holds_test m bs c pos v =
      subst (λ (k : ℕ). 0 < k → holds n r S bs v ≡ within S k (bounds bs) v) c (λ p. ap (ltb (thr S v)) (sym (bound_at n r bs (index S (length bs) v) (mod-lt (S v / thresholds) p)))) pos

  -- wherever the word is, the live count stays
  pub touch_keeps : (T : Table) (w : ℕ) (f : ℕ → Bucket → Bucket) (g : ℕ → List Entry → List Entry) → (touch n r S T w f g).count ≡ T.count
  touch_keeps T w f g =
      let Kept : Table → Type 0 = λ (U : Table). U.count ≡ T.count in
      by_test Kept (holds n r S T.level1 w) (λ _. refl) (λ _. by_test Kept (holds n r S T.level2 (second S w)) (λ _. refl) (λ _. refl))

  -- and so do the totals
  pub touch_totals : (T : Table) (w : ℕ) (f : ℕ → Bucket → Bucket) (g : ℕ → List Entry → List Entry) → (touch n r S T w f g).totals ≡ T.totals
  touch_totals T w f g =
      let Kept : Table → Type 0 = λ (U : Table). U.totals ≡ T.totals in
      by_test Kept (holds n r S T.level1 w) (λ _. refl) (λ _. by_test Kept (holds n r S T.level2 (second S w)) (λ _. refl) (λ _. refl))

  -- ---- an edit of one word's entry: f in a bucket is g on its entries

  pub record Edit (f : ℕ → Bucket → Bucket) (g : ℕ → List Entry → List Entry) : Type 0 where
    pub inside : (P : ℕ → Bool) (v : ℕ) (es : List Entry) → P v ≡ true → keep (λ e. P e.word) (g v es) ≡ g v (keep (λ e. P e.word) es)
    pub outside : (P : ℕ → Bool) (v : ℕ) (es : List Entry) → P v ≡ false → keep (λ e. P e.word) (g v es) ≡ keep (λ e. P e.word) es
    pub twice : (v : ℕ) (es : List Entry) → v < 2 ^ n → ((e : Entry) → Memᴰ e es → e.word < 2 ^ n) → map (on_second S) (g v es) ≡ g (second S v) (map (on_second S) es)
    pub bucket : {b : Bucket} {rows : List Entry} → Holds n r b rows → (v q : ℕ) → v < 2 ^ n → find v rows ≡ some q → Holds n r (f v b) (g v rows)
    pub bound : {b : Bucket} {rows : List Entry} → Holds n r b rows → (v q : ℕ) → v < 2 ^ n → find v rows ≡ some q → (f v b).bound ≡ b.bound
    pub sorted : (v q : ℕ) (es : List Entry) → Distinct es → find v es ≡ some q → g v (sort es) ≡ sort (g v es)

  module _ (inj : (u v : ℕ) → u < 2 ^ n → v < 2 ^ n → second S u ≡ second S v → u ≡ v) where
    pub withdraw_edit : Edit (λ v b. without n v b) (λ v es. remove v es)
    withdraw_edit = record {
      inside = remove_in;
      outside = remove_out;
      twice = λ v es l b. remove-renamed (second S) (2 ^ n) inj v es l b;
      bucket = λ h v q l f. holds-withdraw h v q l f;
      bound = λ h v q l f. withdraw-bound h v q l f;
      sorted = λ v q es d f. sort-remove v q es d f;
    }

    pub change_edit : (p : ℕ) → p < 2 ^ r → Edit (λ v b. changed n v p b) (λ v es. update (record { word = v; plan = p }) es)
    change_edit p hp = record {
      inside = λ P v es t. update_in P (record { word = v; plan = p }) es t;
      outside = λ P v es t. update_out P (record { word = v; plan = p }) es t;
      twice = λ v es l b. update-renamed (second S) (2 ^ n) inj (record { word = v; plan = p }) es l b;
      bucket = λ h v q l f. holds-change h v q l f p hp;
      bound = λ h v q l f. change-bound h v q l f p hp;
      sorted = λ v q es d f. sort-update (record { word = v; plan = p }) q es d f;
    }

  module _ {m : ℕ} {bs : List Bucket} {es : List Entry} (v : ℕ) (pos : 0 < m) (a : LevelHolds n r S m bs es) (l : v < 2 ^ n) where
    abbrev at : ℕ
    at = index S m v

    at_lt : at < m
    at_lt = mod-lt (S v / thresholds) pos

    abbrev b : Bucket
    b = nth n r bs at

    -- v's bucket, by the number of buckets
    here : bucket_of n r S bs v ≡ b
    here = ap (λ (k : ℕ). nth n r bs (index S k v)) a.count

    low : {t : Bool} → holds n r S bs v ≡ t → ltb (thr S v) b.bound ≡ t
    low t = ap (λ (c : Bucket). ltb (thr S v) c.bound) (sym here) ∙ t

    find-here : holds n r S bs v ≡ true → find v (held (thr S) b.bound (due_in S m at es)) ≡ find v es
    find-here t =
        find-keep (λ w. ltb (thr S w) b.bound) v (due_in S m at es) (low t) ∙ find-keep (λ w. eqb (index S m w) at) v es (eq-eqb at at refl)

    pub level_find : holds n r S bs v ≡ true → plan_of n v (bucket_of n r S bs v) ≡ find v es
    level_find t = ap (plan_of n v) here ∙ holds-find (a.each at at_lt) v l ∙ find-here t

    module _ (f : ℕ → Bucket → Bucket) (g : ℕ → List Entry → List Entry) (edit : Edit f g) where
      due_own : due_in S m at (g v es) ≡ g v (due_in S m at es)
      due_own = edit.inside (λ w. eqb (index S m w) at) v es (eq-eqb at at refl)

      due_else : (j : ℕ) → eqb at j ≡ false → due_in S m j (g v es) ≡ due_in S m j es
      due_else j t = edit.outside (λ w. eqb (index S m w) j) v es t

      -- the level does not hold v
      pub level_past : holds n r S bs v ≡ false → LevelHolds n r S m bs (g v es)
      level_past off = record {
        count = a.count;
        each = λ j h. subst⁻¹ (Holds n r (nth n r bs j))
            (cases (eqb at j)
            (λ t. subst (λ (k : ℕ). held (thr S) (nth n r bs k).bound (due_in S m k (g v es)) ≡ held (thr S) (nth n r bs k).bound (due_in S m k es)) (eqb-true at j t)
            (ap (held (thr S) b.bound) due_own ∙ edit.outside (λ w. ltb (thr S w) b.bound) v (due_in S m at es) (low off)))
            (λ t. ap (held (thr S) (nth n r bs j).bound) (due_else j t)))
            (a.each j h);
      }

      module _ (q : ℕ) (live : find v es ≡ some q) (on : holds n r S bs v ≡ true) where
        there : find v (held (thr S) b.bound (due_in S m at es)) ≡ some q
        there = find-here on ∙ live

        same-bound : (f v b).bound ≡ b.bound
        same-bound = edit.bound (a.each at at_lt) v q l there

        own : HoldsDue n r S m at (g v es) (f v b)
        own =
            subst⁻¹ (Holds n r (f v b))
            (ap₂ (λ (t : ℕ) (ds : List Entry). held (thr S) t ds) same-bound due_own ∙ edit.inside (λ w. ltb (thr S w) b.bound) v (due_in S m at es) (low on))
            (edit.bucket (a.each at at_lt) v q l there)

        same-put : put S bs v (f v (bucket_of n r S bs v)) ≡ set bs at (f v b)
        same-put = ap (λ (k : ℕ). set bs (index S k v) (f v (nth n r bs (index S k v)))) a.count

        pub level_touch : LevelHolds n r S m (put S bs v (f v (bucket_of n r S bs v))) (g v es)
        level_touch = subst⁻¹ (λ (cs : List Bucket). LevelHolds n r S m cs (g v es)) same-put (level_set n r S at (f v b) a at_lt own due_else)

        pub touch-bounds : bounds (put S bs v (f v (bucket_of n r S bs v))) ≡ bounds bs
        unfolding bounds
        touch-bounds = ap bounds same-put ∙ map-set_same (λ c. c.bound) bs at (f v b) (empty_bucket n r) same-bound
