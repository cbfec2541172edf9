-- What the code finds in a settled bucket is what an arrival leaves. At every number n of rows and r of solution words, and for every mix S.
-- Assumes nothing.
use Prim.Native.Nat.{ℕ, suc, ◌+◌, ◌-◌, ◌^◌, ◌≤◌, ◌<◌}
use native.Mathlib.Omega.{arith}
use mathlib.Core.Path.{◌≡◌, refl, sym, ap, ap₂, ◌∙◌, subst, subst⁻¹}
use mathlib.Core.Bool.{Bool, true, false, cond, ◌&&◌, true≢false}
use mathlib.Core.List.{List, [], ◌∷◌, ◌++◌}
use lib.Dec.{ltb}
use lib.ListN.{length, get_or, take, drop}
use borrow.Rule.Slice.PartMut.{mid_of, put_mid, Post-is, put_same}
use borrow.Author.Tests.{le-leb, lt-leb, lt-ltb, le-ltb, ltb-true, ltb-false}
use Rattle.lists.specs.Entries.{Entry, insert_all}
use Rattle.lists.proofs.Entries.{insert-length}
use Rattle.lists.proofs.Tests.{cond_true, cond_false, and_one, and_two}
use Rattle.bucket.specs.declared.Bucket.{Bucket}
use Rattle.std.specs.Prelude.{Option, Some, None, is_some, option_map, unwrap_or}
use Rattle.bucket.specs.Bucket.{add}
use Rattle.bucket.proofs.Laws.{some_of, none_of}
use Rattle.bucket_words.specs.Words.{bucket_words, words_of, bucket_from, Stepped}
use Rattle.bucket_settle.specs.Settle.{SoundBucket, Settlement, settle}
use Rattle.bucket_settle.proofs.Sound.{settle-sound, settle_few}
use Rattle.bucket_fall.specs.declared.Settled.{Settled}
use Rattle.bucket_fall.specs.Settled.{settled_of}
use Rattle.bucket_fall.proofs.Run.{settle-done, settle-past}
use Rattle.model.specs.Model.{base_limit}
use Rattle.table.specs.Table.{Table, with_second, with_base, thr, index, put, bucket_of, holds, arrive_at}
use Rattle.table.specs.Layout.{buckets1_at, buckets2_at, base_count_at, numbers_of, bucket_place, table_from}
use Rattle.table_layout.proofs.Shape.{part-bucket, stored_same, second_in, second-here, second_stored}
use Rattle.table_arrive.specs.Arrival.{settled_at, stored_at, goes_in, added_in, DependsIn, to_second, Straight, Passed, Kept, FlatKept}
use Rattle.table_arrive.proofs.Tables.{count0, flat, second-sound, second-kept, base_kept, numbers_table, numbers_kept}

-- ---- the base list

pub insert-all-length : (es base : List Entry) → length (insert_all es base) ≡ length es + length base
insert-all-length [] base = omega arith
insert-all-length (e ∷ es) base = insert-all-length es _ ∙ omega (arith, insert-length e base)

-- ---- at level 2 each bucket stays sound

module _ (n r : ℕ) (S : ℕ → ℕ) where
  pub to_second-kept : (T : Table) (e : Entry) → Kept n r T → e.word < 2 ^ n → SoundBucket n r (bucket_of n r S T.level2 e.word) → length (to_second n r S T e).base ≤ base_limit → Kept n r (to_second n r S T e)
  to_second-kept T e h small s l =
      base_kept n r _ (second-kept n r T h (index S (length T.level2) e.word) _ (settle-sound n r (thr S) e small (bucket_of n r S T.level2 e.word) s)) _ l

-- ---- a word that settles at once

module _ (n r : ℕ) (thr : ℕ → ℕ) (e : Entry) (xs : List ℕ) where
  -- what the bucket step does on the stretch xs, where it says done and leaves ys
  abbrev pub Step : Bool → List ℕ → Type 0
  Step done ys = (done ≡ goes_in n r thr e xs) × (ys ≡ cond done (added_in n r e xs) xs)

  -- the bound as it lies in the stretch
  abbrev bound : ℕ
  bound = get_or xs (n + 1 + r) 0

  goes_is : goes_in n r thr e xs ≡ (ltb (thr e.word) bound && is_some (add n e.word e.plan (bucket_from n r xs)))
  unfolding bucket_from
  goes_is = refl

  stepped : (o : Option Bucket) {done : Bool} {ys : List ℕ} → done ≡ is_some o → ys ≡ unwrap_or (option_map words_of o) xs → ys ≡ cond done (words_of (unwrap_or o (bucket_from n r xs))) xs
  stepped None d w = w ∙ sym (cond_false _ xs d)
  stepped (Some b) d w = w ∙ sym (cond_true (words_of b) xs d)

  -- its threshold x is below the bound: what the add to the bucket does
  pub step-held : (x : ℕ) → x ≡ thr e.word → x < bound → {done : Bool} {ys : List ℕ} → Stepped n r (add n e.word e.plan) xs done ys → Step done ys
  step-held x y h g =
      (g.says ∙ sym (goes_is ∙ ap (λ (c : Bool). c && is_some (add n e.word e.plan (bucket_from n r xs))) (lt-ltb (thr e.word) bound (subst (λ (k : ℕ). k < bound) y h))), stepped (add n e.word e.plan (bucket_from n r xs)) g.says g.words)

  -- its threshold is not below the bound
  pub step_past : (x : ℕ) → x ≡ thr e.word → bound ≤ x → Step false xs
  step_past x y h =
      (sym (goes_is ∙ ap (λ (c : Bool). c && is_some (add n e.word e.plan (bucket_from n r xs))) (le-ltb (thr e.word) bound (subst (λ (k : ℕ). bound ≤ k) y h))), refl)

module _ (n r : ℕ) (thr : ℕ → ℕ) (at : ℕ) (e : Entry) (t : List ℕ) where
  -- where it goes in it settles there, and no word leaves
  goes_settled : goes_in n r thr e (drop at t) ≡ true → settled_at n r thr at e t ≡ record { bucket = unwrap_or (add n e.word e.plan (bucket_from n r (drop at t))) (bucket_from n r (drop at t)); out = [] }
  goes_settled g =
      let b : Bucket = bucket_from n r (drop at t) in
      settle-done n thr e b.bound b (ltb-true (thr e.word) b.bound (and_one (ltb (thr e.word) b.bound) _ g)) (some_of (add n e.word e.plan b) b (and_two (ltb (thr e.word) b.bound) _ g))

  -- where its threshold is not below the bound it leaves alone
  pub past-settled : ltb (thr e.word) (bucket_from n r (drop at t)).bound ≡ false
      → settled_of (record { bucket = bucket_from n r (drop at t); out = e ∷ [] }) ≡ settled_of (settled_at n r thr at e t)
  past-settled f = ap settled_of (sym (settle-past n thr e _ (bucket_from n r (drop at t)) (ltb-false (thr e.word) _ f)))

  -- ---- the bucket step on the stretch that is lent

  abbrev k : ℕ
  k = at + bucket_words n r - at

  abbrev part : List ℕ
  part = mid_of at k t

  -- it is put back where it was lent
  put_back : (done : Bool) (ys : List ℕ) → done ≡ goes_in n r thr e (drop at t) → ys ≡ cond done (added_in n r e part) part → put_mid at k t ys ≡ cond done (stored_at n r at (settled_at n r thr at e t).bucket t) t
  put_back true ys g w =
      ap₂ (λ (zs us : List ℕ). take at t ++ (zs ++ us))
      (w ∙ ap (λ (b : Bucket). words_of (unwrap_or (add n e.word e.plan b) b)) (part-bucket n r t at) ∙ sym (ap (λ (z : Settlement). words_of z.bucket) (goes_settled (sym g))))
      (Post-is at (at + bucket_words n r) t (omega arith))
  put_back false ys g w = ap (put_mid at k t) w ∙ put_same at k t

  pub straight_at : (done : Bool) (ys : List ℕ) → Step n r thr e part done ys → Straight n r thr at e t done (put_mid at k t ys)
  straight_at done ys h =
      let g : done ≡ goes_in n r thr e (drop at t) = h.0 ∙ ap (λ (b : Bucket). ltb (thr e.word) b.bound && is_some (add n e.word e.plan b)) (part-bucket n r t at) in
      record { says = g; table = put_back done ys g h.1 }

  pub straight_as : {done b : Bool} {u : List ℕ} → done ≡ b → Straight n r thr at e t done u → Straight n r thr at e t b u
  straight_as {u = u} y g = subst (λ (x : Bool). Straight n r thr at e t x u) y g

  pub straight_left : {done : Bool} {u : List ℕ} → done ≡ false → Straight n r thr at e t done u → u ≡ t
  straight_left y g = g.table ∙ cond_false _ t y

  -- as the code keeps what settles so: no word leaves
  module _ (u : List ℕ) (g : Straight n r thr at e t true u) where
    abbrev pub straightly : Settled
    straightly = settled_of (record { bucket = (settled_at n r thr at e t).bucket; out = [] })

    pub straight_is : straightly ≡ settled_of (settled_at n r thr at e t)
    straight_is = ap (λ (es : List Entry). settled_of (record { bucket = (settled_at n r thr at e t).bucket; out = es })) (sym (ap (λ (z : Settlement). z.out) (goes_settled (sym g.says))))

module _ (n r : ℕ) (S : ℕ → ℕ) (bs : List Bucket) (e : Entry) (at : ℕ) (t : List ℕ) (s : Settled)
    (a : bucket_from n r (drop at t) ≡ bucket_of n r S bs e.word) (q : s ≡ settled_of (settled_at n r (thr S) at e t)) where
  abbrev b : Bucket
  b = bucket_of n r S bs e.word

  settled_is : s ≡ settled_of (settle n (thr S) e b.bound b)
  settled_is = q ∙ ap (λ (c : Bucket). settled_of (settle n (thr S) e c.bound c)) a

  pub bucket_is : put S bs e.word s.bucket ≡ (arrive_at n r S bs e).buckets
  bucket_is = ap (λ (x : Settled). put S bs e.word x.bucket) settled_is

  pub out_is : s.out ≡ (arrive_at n r S bs e).out
  out_is = ap (λ (x : Settled). x.out) settled_is

  pub out_count : length s.out ≡ length (arrive_at n r S bs e).out
  out_count = ap length out_is

  module _ (small : e.word < 2 ^ n) (h : SoundBucket n r b) where
    pub out_few : length s.out ≤ suc n
    out_few = omega (arith, out_count, settle_few n r (thr S) e small b h)

    pub bucket-sound : SoundBucket n r s.bucket
    bucket-sound = subst⁻¹ (λ (x : Settled). SoundBucket n r x.bucket) settled_is (settle-sound n r (thr S) e small b h)

-- ---- a word at level 2

module _ (n r : ℕ) (S : ℕ → ℕ) (t : List ℕ) (h : FlatKept n r t) (e : Entry) (at : ℕ) (p : at ≡ bucket_place n r (get_or t buckets1_at 0 + index S (get_or t buckets2_at 0) e.word))
    (s : Settled) (q : s ≡ settled_of (settled_at n r (thr S) at e t)) where
  abbrev T : Table
  T = table_from n r t

  abbrev U : Table
  U = to_second n r S T e

  here : bucket_from n r (drop at t) ≡ bucket_of n r S T.level2 e.word
  here = second-here n r t (flat n r t h).shape S e.word at p

  sound : SoundBucket n r (bucket_of n r S T.level2 e.word)
  sound = second-sound n r t h S e.word

  base-length : length U.base ≡ get_or t base_count_at 0 + length s.out
  base-length = omega (arith, insert-all-length (arrive_at n r S T.level2 e).out T.base, out_count n r S T.level2 e at t s here q, count0 n r t h)

  pub arrive_full : base_limit < get_or t base_count_at 0 + length s.out → Passed n r t U false t
  arrive_full l = record { says = sym (lt-leb (length U.base) base_limit (omega (arith, base-length))); kept = λ z. absurd (true≢false (sym z)); table = refl }

  module _ (small : e.word < 2 ^ n) (t1 : List ℕ) (q1 : t1 ≡ stored_at n r at s.bucket t) where
    abbrev T1 : Table
    T1 = with_second T (put S T.level2 e.word s.bucket)

    stored : t1 ≡ numbers_of T1
    stored = q1 ∙ second_stored n r t (flat n r t h) S e.word at p s.bucket

    kept1 : Kept n r T1
    kept1 = second-kept n r T h.table _ s.bucket (bucket-sound n r S T.level2 e at t s here q small sound)

    table1 : table_from n r t1 ≡ T1
    table1 = numbers_table n r T1 kept1 t1 stored

    pub arrive_stored : FlatKept n r t1
    arrive_stored = numbers_kept n r T1 kept1 t1 stored

    pub arrive_count : get_or t1 base_count_at 0 ≡ get_or t base_count_at 0
    arrive_count = sym (count0 n r t1 arrive_stored) ∙ ap (λ (X : Table). length X.base) table1 ∙ count0 n r t h

    pub arrive-done : (t2 : List ℕ) → t2 ≡ numbers_of (with_base (table_from n r t1) (insert_all (s.out) (table_from n r t1).base))
        → get_or t base_count_at 0 + length s.out ≤ base_limit → Passed n r t U true t2
    arrive-done t2 q2 l =
        let short : length U.base ≤ base_limit = omega (arith, base-length) in
        record {
          says = sym (le-leb (length U.base) base_limit short);
          kept = λ _. to_second-kept n r S T e h.table small sound short;
          table = q2
              ∙ ap₂ (λ (X : Table) (es : List Entry). numbers_of (with_base X (insert_all es X.base))) table1 (out_is n r S T.level2 e at t s here q)
              ∙ ap (λ (bs : List Bucket). numbers_of (with_base (with_second T bs) (insert_all (arrive_at n r S T.level2 e).out T.base))) (bucket_is n r S T.level2 e at t s here q);
        }

-- a word that its level holds and that does not go straight in depends
pub straight_depends : (n r : ℕ) (S : ℕ → ℕ) (bs : List Bucket) (e : Entry) (at : ℕ) (t : List ℕ) → bucket_from n r (drop at t) ≡ bucket_of n r S bs e.word → holds n r S bs e.word ≡ true
    → {done : Bool} {u : List ℕ} → done ≡ false → Straight n r (thr S) at e t done u → DependsIn n r S bs e
straight_depends n r S bs e at t a h y g =
    let b : Bucket = bucket_of n r S bs e.word in
    none_of (add n e.word e.plan b) (sym (ap (λ (c : Bool). c && is_some (add n e.word e.plan b)) h)
    ∙ sym (ap (λ (c : Bucket). ltb (thr S e.word) c.bound && is_some (add n e.word e.plan c)) a) ∙ sym g.says ∙ y)

-- straight into its bucket
pub arrive_straight : (n r : ℕ) (S : ℕ → ℕ) (t : List ℕ) (h : FlatKept n r t) (e : Entry) (at : ℕ) → at ≡ bucket_place n r (get_or t buckets1_at 0 + index S (get_or t buckets2_at 0) e.word) → e.word < 2 ^ n
    → (u : List ℕ) → Straight n r (thr S) at e t true u → Passed n r t (to_second n r S (table_from n r t) e) true u
arrive_straight n r S t h e at p small u g =
    let s : Settled = straightly n r (thr S) at e t u g in
    let q = straight_is n r (thr S) at e t u g in
    arrive-done n r S t h e at p s q small u g.table u (sym (arrive_stored n r S t h e at p s q small u g.table).numbers) (omega (arith, count0 n r t h, h.table.short))

-- on to the base list: level 2 does not hold it
module _ (n r : ℕ) (S : ℕ → ℕ) (t : List ℕ) (h : FlatKept n r t) (e : Entry) (f : holds n r S (table_from n r t).level2 e.word ≡ false) where
  abbrev place : ℕ
  place = bucket_place n r (get_or t buckets1_at 0 + index S (get_or t buckets2_at 0) e.word)

  abbrev alone : Settled
  alone = record { bucket = bucket_from n r (drop place t); out = e ∷ [] }

  alone_is : alone ≡ settled_of (settled_at n r (thr S) place e t)
  alone_is =
      past-settled n r (thr S) place e t (ap (λ (b : Bucket). ltb (thr S e.word) b.bound) (second-here n r t (flat n r t h).shape S e.word place refl) ∙ f)

  pub pass_full : base_limit ≤ get_or t base_count_at 0 → Passed n r t (to_second n r S (table_from n r t) e) false t
  pass_full l = arrive_full n r S t h e place refl alone alone_is (omega arith)

  pub pass-done : e.word < 2 ^ n → (u : List ℕ) → u ≡ numbers_of (with_base (table_from n r t) (insert_all (e ∷ []) (table_from n r t).base)) → get_or t base_count_at 0 < base_limit
      → Passed n r t (to_second n r S (table_from n r t) e) true u
  pass-done small u w l =
      arrive-done n r S t h e place refl alone alone_is small t (sym (stored_same n r t place (second_in n r t (flat n r t h).shape S e.word place refl))) u w (omega arith)
