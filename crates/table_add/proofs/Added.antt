-- A word that is not live arrives at level 1: what that leaves is document 01's add. At every number n of rows and r of solution words, and for
-- every mix S; then at 64 and 8.
-- Assumes nothing.
use Prim.Native.Nat.{ℕ, suc, ◌+◌, ◌^◌, ◌≤◌, ◌<◌}
use native.Mathlib.Omega.{arith}
use mathlib.Core.Path.{◌≡◌, refl, sym, ap, ap₂, ◌∙◌, subst, subst⁻¹}
use mathlib.Core.Bool.{Bool, true, false}
use mathlib.Core.List.{List, [], ◌∷◌, map}
use mathlib.Core.Option.{none, some}
use lib.Dec.{ltb}
use lib.ListN.{length, get_or, set, drop}
use borrow.Author.Tests.{leb-false, le-ltb, lt-ltb}
use Rattle.std.specs.Prelude.{Ok, Err}
use Rattle.answer.specs.Numbers.{Answer}
use Rattle.answer.specs.declared.Cause.TheVariants.{Live, Full}
use Rattle.lists.specs.Entries.{Entry}
use Rattle.lists.specs.Totals.{one_more}
use Rattle.lists.proofs.Entries.{assignable_byte}
use Rattle.lists.proofs.Tests.{cond_true, cond_false}
use Rattle.hash.specs.Mix.{mix_of}
use Rattle.bucket.specs.declared.Bucket.{Bucket}
use Rattle.bucket_words.specs.Words.{bucket_words, bucket_from}
use Rattle.bucket_settle.specs.Settle.{SoundBucket}
use Rattle.bucket_fall.specs.declared.Settled.{Settled}
use Rattle.bucket_fall.specs.Settled.{settled_of}
use Rattle.model.specs.Model.{base_limit, add}
use Rattle.table.specs.Table.{Table, total_numbers, with_first, with_count, with_one, thr, index, second, on_second, put, bucket_of, holds, arrive_at, added_to}
use Rattle.table.specs.Layout.{buckets1_at, live_count_at, totals_at, in_range, numbers_of, bucket_place, table_from}
use Rattle.table.specs.Calls.{rows, solutions, table_of, plan_in, Outcome, turned_down, joined, served}
use Rattle.table.proofs.Numbers.{header_read, write_count, long_numbers, read_total, write_more}
use Rattle.table.proofs.Calls.{shape_range, sound-shaped}
use Rattle.table_layout.proofs.Shape.{first_in, first-here, first_stored, stored_same}
use Rattle.table_edit.specs.Ready.{Ready}
use Rattle.table_edit.proofs.Touched.{flat_of, live_room}
use Rattle.table_edit.proofs.Calls.{total_few}
use Rattle.table_arrive.specs.Arrival.{settled_at, stored_at, to_second, Straight, Passed, Kept, FlatKept}
use Rattle.table_arrive.proofs.Tables.{flat, first-sound, numbers_table, numbers_kept}
use Rattle.table_arrive.proofs.Settled.{past-settled, straightly, straight_is, bucket_is, out_is}
use Rattle.table_pass.specs.Passing.{seconds, all_to_second}
use Rattle.table_add.specs.Arrivals.{entering, Passing, counted_in, Countable}
use Rattle.table_pass.proofs.Arrivals.{all_law, add_law}
use Rattle.table_pass.proofs.Passing.{pass_none, pass_one}

pub passed_as : (n r : ℕ) (t : List ℕ) (U : Table) (done b : Bool) (u : List ℕ) → done ≡ b → Passed n r t U done u → Passed n r t U b u
passed_as n r t U done b u y g = subst (λ (x : Bool). Passed n r t U x u) y g

-- u is the table t after the add of e, but for the live count and the totals
pub record Counted (n r : ℕ) (S : ℕ → ℕ) (t : List ℕ) (e : Entry) (u : List ℕ) : Type 0 where
  pub long : totals_at + total_numbers ≤ length u
  pub count : get_or u live_count_at 0 ≡ (table_from n r t).count
  pub total : (p : ℕ) → p < total_numbers → get_or u (totals_at + p) 0 ≡ get_or (table_from n r t).totals p 0
  pub fits : ltb base_limit (length (added_to n r S (table_from n r t) e).base) ≡ false
  pub next : (added_to n r S (table_from n r t) e).count ≡ get_or u live_count_at 0 + 1
  pub table : e.plan < total_numbers → numbers_of (added_to n r S (table_from n r t) e) ≡ counted_in e.plan u

module _ (n r : ℕ) (S : ℕ → ℕ) (t : List ℕ) (h : FlatKept n r t) (e : Entry) (small : e.word < 2 ^ n) (at : ℕ) (p : at ≡ bucket_place n r (index S (get_or t buckets1_at 0) e.word))
    (s : Settled) (q : s ≡ settled_of (settled_at n r (thr S) at e t)) where
  abbrev T : Table
  T = table_from n r t

  abbrev U : Table
  U = added_to n r S T e

  -- the table once the words that left level 1 have gone on
  abbrev D : Table
  D = all_to_second n r S T (seconds S s.out)

  here : bucket_from n r (drop at t) ≡ bucket_of n r S T.level1 e.word
  here = first-here n r t (flat n r t h).shape S e.word at p

  sound : SoundBucket n r (bucket_of n r S T.level1 e.word)
  sound = first-sound n r t h S e.word

  U-is : U ≡ with_one (with_first D (arrive_at n r S T.level1 e).buckets) e.plan
  U-is =
      add_law n r S T e
      ∙ ap (λ (es : List Entry). with_one (with_first (all_to_second n r S T (map (on_second S) es)) (arrive_at n r S T.level1 e).buckets) e.plan)
      (sym (out_is n r S T.level1 e at t s here q))

  -- the words did not go on
  pub enter_full : (t1 : List ℕ) → Passed n r t D false t1 → (ltb base_limit (length U.base) ≡ true) × (t1 ≡ t)
  enter_full t1 g = (lt-ltb base_limit (length U.base) (omega (arith, leb-false (length D.base) base_limit (sym g.says), ap (λ (X : Table). length X.base) U-is)), g.table)

  -- or they did: then the bucket is stored, and the live count rises
  module _ (t1 : List ℕ) (g : Passed n r t D true t1) where
    kept-D : Kept n r D
    kept-D = g.kept refl

    kept1 : FlatKept n r t1
    kept1 = numbers_kept n r D kept-D t1 g.table

    table1 : table_from n r t1 ≡ D
    table1 = numbers_table n r D kept-D t1 g.table

    first-same : D.level1 ≡ T.level1
    first-same = ap (λ (X : Table). X.level1) (all_law n r S T (seconds S s.out))

    place1 : at ≡ bucket_place n r (index S (get_or t1 buckets1_at 0) e.word)
    place1 =
        p ∙ ap (λ (k : ℕ). bucket_place n r (index S k e.word))
        (sym (header_read n r t).0 ∙ ap (λ (bs : List Bucket). length bs) (sym first-same) ∙ ap (λ (X : Table). length X.level1) (sym table1) ∙ (header_read n r t1).0)

    pub enter_room : at + bucket_words n r ≤ length t1
    enter_room = first_in n r t1 (flat n r t1 kept1).shape S e.word at place1

    -- the bucket that is there need not be stored
    pub enter-same : s.bucket ≡ bucket_from n r (drop at t) → t1 ≡ stored_at n r at s.bucket t1
    enter-same k =
        sym (stored_same n r t1 at enter_room)
        ∙ ap (λ (b : Bucket). stored_at n r at b t1)
        (first-here n r t1 (flat n r t1 kept1).shape S e.word at place1 ∙ ap (λ (X : Table). bucket_of n r S X.level1 e.word) table1 ∙ ap (λ (bs : List Bucket). bucket_of n r S bs e.word) first-same ∙ sym here ∙ sym k)

    module _ (t2 : List ℕ) (w : t2 ≡ stored_at n r at s.bucket t1) where
      abbrev E : Table
      E = with_first D (arrive_at n r S T.level1 e).buckets

      t2_is : t2 ≡ numbers_of E
      t2_is =
          w ∙ first_stored n r t1 (flat n r t1 kept1) S e.word at place1 s.bucket
          ∙ ap (λ (X : Table). numbers_of (with_first X (put S X.level1 e.word s.bucket))) table1
          ∙ ap (λ (bs : List Bucket). numbers_of (with_first D (put S bs e.word s.bucket))) first-same
          ∙ ap (λ (bs : List Bucket). numbers_of (with_first D bs)) (bucket_is n r S T.level1 e at t s here q)

      counted : get_or t2 live_count_at 0 ≡ T.count
      unfolding numbers_of
      counted = ap (λ (l : List ℕ). get_or l live_count_at 0) t2_is ∙ ap (λ (X : Table). X.count) (all_law n r S T (seconds S s.out))

      -- one live word more
      written : e.plan < total_numbers → numbers_of (with_one E e.plan) ≡ counted_in e.plan t2
      unfolding numbers_of
      written l =
          let c : suc D.count ≡ get_or t2 live_count_at 0 + 1 = omega (arith, ap (λ (l : List ℕ). get_or l live_count_at 0) t2_is) in
          write_more n r (with_count E (suc D.count)) e.plan (omega (arith, kept-D.totalled))
          ∙ ap (one_more (totals_at + e.plan)) (write_count n r E (suc D.count) ∙ sym (ap₂ (λ (l : List ℕ) (k : ℕ). set l live_count_at k) t2_is (sym c)))

      pub enter-counted : Counted n r S t e t2
      enter-counted = record {
        long = omega (arith, ap length t2_is, long_numbers n r E, kept-D.totalled);
        count = counted;
        total = λ p l. ap (λ (u : List ℕ). get_or u (totals_at + p) 0) t2_is ∙ read_total n r E p (omega (arith, kept-D.totalled))
            ∙ ap (λ (X : Table). get_or X.totals p 0) (all_law n r S T (seconds S s.out));
        fits = le-ltb base_limit (length U.base) (omega (arith, kept-D.short, ap (λ (X : Table). length X.base) U-is));
        next = omega (arith, counted);
        table = λ l. ap numbers_of U-is ∙ written l;
      }

-- ---- a word that settles at once: straight into its bucket, or in none at level 1. Either way u is the table before it is counted

module _ (n r : ℕ) (S : ℕ → ℕ) (t : List ℕ) (h : FlatKept n r t) (e : Entry) (small : e.word < 2 ^ n) (at : ℕ) (p : at ≡ bucket_place n r (index S (get_or t buckets1_at 0) e.word)) where
  pub counted_straight : (u : List ℕ) → Straight n r (thr S) at e t true u → Counted n r S t e u
  counted_straight u g =
      let s : Settled = straightly n r (thr S) at e t u g in
      enter-counted n r S t h e small at p s (straight_is n r (thr S) at e t u g) t (pass_none n r S t h s.out refl) u g.table

  -- level 1 does not hold the word: v is its form at level 2
  module _ (f : holds n r S (table_from n r t).level1 e.word ≡ false) (v : ℕ) (w : v ≡ S (S e.word)) (u : List ℕ) where
    abbrev passing : Settled
    passing = settled_of (record { bucket = bucket_from n r (drop at t); out = e ∷ [] })

    passing_is : passing ≡ settled_of (settled_at n r (thr S) at e t)
    passing_is = past-settled n r (thr S) at e t (ap (λ (b : Bucket). ltb (thr S e.word) b.bound) (first-here n r t (flat n r t h).shape S e.word at p) ∙ f)

    passes : (done : Bool) → Passed n r t (to_second n r S (table_from n r t) (record { word = v; plan = e.plan })) done u → Passed n r t (all_to_second n r S (table_from n r t) (seconds S passing.out)) done u
    passes done g = pass_one n r S t h passing.out e refl v done u refl w g

    pub counted-second : Passed n r t (to_second n r S (table_from n r t) (record { word = v; plan = e.plan })) true u → Counted n r S t e u
    counted-second g =
        let k = passes true g in
        enter-counted n r S t h e small at p passing passing_is u k u (enter-same n r S t h e small at p passing passing_is u k refl)

    pub full_second : Passed n r t (to_second n r S (table_from n r t) (record { word = v; plan = e.plan })) false u → (ltb base_limit (length (added_to n r S (table_from n r t) e).base) ≡ true) × (u ≡ t)
    full_second g = enter_full n r S t h e small at p passing passing_is u (passes false g)

-- ---- at 64 and 8

module _ (t : List ℕ) (h : Ready t) where
  pub ready_kept : FlatKept rows solutions t
  ready_kept = record {
    table = record {
      range = ap₂ in_range (header_read rows solutions t).0 (header_read rows solutions t).1 ∙ shape_range rows solutions t h.shape;
      first = h.sound.table.level1.buckets;
      second = h.sound.table.level2.buckets;
      short = h.sound.table.fits;
      totalled = (sound-shaped (table_of t) h.sound.table).totalled;
    };
    numbers = (flat_of h).numbers;
  }

  -- there is room for one more in the live count and in each total
  pub count_room : (e : Entry) (u : List ℕ) → Counted rows solutions mix_of t e u → e.plan < total_numbers → Countable e.plan u
  count_room e u g l = record {
    long = g.long;
    fits = l;
    count = subst⁻¹ (λ (k : ℕ). k + 1 < 2 ^ 64) g.count (live_room h);
    total = λ x k. omega (arith, g.total x k, total_few t h x k, live_room h);
  }

module _ (t : List ℕ) (w p : ℕ) where
  abbrev added : Table
  added = added_to rows solutions mix_of (table_of t) (record { word = w; plan = p })

  abbrev outcome : Outcome
  outcome = entering t (record { word = w; plan = p })

  pub entered_full : (u : List ℕ) → (ltb base_limit (length added.base) ≡ true) × (u ≡ t) → (Err Full ≡ outcome.answer) × (u ≡ outcome.table)
  entered_full u g = let e = cond_true (turned_down Full t) (record { answer = Ok added.count; table = numbers_of added }) g.0 in (ap (λ (o : Outcome). o.answer) (sym e), g.1 ∙ ap (λ (o : Outcome). o.table) (sym e))

  -- u is counted: a is the answer, v the table then
  pub entered_done : (u : List ℕ) → Counted rows solutions mix_of t (record { word = w; plan = p }) u → p < total_numbers → (a : Answer) (v : List ℕ)
      → (a ≡ Ok (get_or u live_count_at 0 + 1)) × (v ≡ counted_in p u) → (a ≡ outcome.answer) × (v ≡ outcome.table)
  entered_done u g l a v k =
      let e = cond_false (turned_down Full t) (record { answer = Ok added.count; table = numbers_of added }) g.fits in
      (k.0 ∙ ap Ok (sym g.next) ∙ ap (λ (o : Outcome). o.answer) (sym e), k.1 ∙ sym (g.table l) ∙ ap (λ (o : Outcome). o.table) (sym e))

  -- the call, by the plan of w
  pub added-live : (q : ℕ) → plan_in t w ≡ some q → served t (add w p) ≡ turned_down (Live q) t
  unfolding served
  added-live q e = ap (joined t added) e

  pub added-gone : plan_in t w ≡ none → served t (add w p) ≡ outcome
  unfolding served
  added-gone e = ap (joined t added) e

-- a word that level 1 does not hold: v is its form at level 2, u the table once it has gone on
module _ {t : List ℕ} {w p : ℕ} (h : Passing t w p) (small : w < 2 ^ rows) {v : ℕ} (e : v ≡ second mix_of w) {u : List ℕ} {done : Bool}
    (g : Passed rows solutions t (to_second rows solutions mix_of (table_of t) (record { word = v; plan = p })) done u) where
  passing-counted : done ≡ true → Counted rows solutions mix_of t (record { word = w; plan = p }) u
  passing-counted y =
      counted-second rows solutions mix_of t (ready_kept t h.ready) (record { word = w; plan = p }) small _ refl h.past v e u (passed_as rows solutions t _ done true u y g)

  pub passing_room : done ≡ true → Countable p u
  passing_room y = count_room t h.ready (record { word = w; plan = p }) u (passing-counted y) (assignable_byte p h.plan)

  pub passing-done : done ≡ true → (a : Answer) (x : List ℕ) → (a ≡ Ok (get_or u live_count_at 0 + 1)) × (x ≡ counted_in p u) → (a ≡ (outcome t w p).answer) × (x ≡ (outcome t w p).table)
  passing-done y = entered_done t w p u (passing-counted y) (assignable_byte p h.plan)

  pub passing_full : done ≡ false → (Err Full ≡ (outcome t w p).answer) × (u ≡ (outcome t w p).table)
  passing_full y =
      entered_full t w p u (full_second rows solutions mix_of t (ready_kept t h.ready) (record { word = w; plan = p }) small _ refl h.past v e u (passed_as rows solutions t _ done false u y g))
