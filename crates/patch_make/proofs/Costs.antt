-- "Changing one plan costs at most 89 bytes, and 22 if the plan was that already": for any sound table and any accepted change.
-- Assumes nothing.
use Prim.Native.Nat.{ℕ, ◌+◌, ◌*◌, ◌/◌, ◌≤◌, ◌<◌}
use native.Mathlib.Nat.{mod-lt}
use native.Mathlib.Omega.{arith}
use mathlib.Core.Path.{◌≡◌, refl, sym, ap, ap₂, ◌∙◌}
use mathlib.Core.Bool.{Bool, true, false, cond}
use mathlib.Core.Option.{Option, none, some}
use mathlib.Core.List.{List, ◌++◌, map}
use lib.Bits.{xor_self}
use lib.ListN.{length, get_or, set, length-map}
use lib.Seq.{set-append_left, map-set_same}
use Rattle.std.specs.Prelude.{Ok, Err}
use Rattle.lists.specs.Entries.{Entry, find, update, Ascending}
use Rattle.lists.proofs.Tests.{cases, by_test}
use Rattle.lists.proofs.Keep.{map-set}
use Rattle.gf2.proofs.Solutions.{sol_step_none}
use Rattle.hash.specs.Mix.{mix_of}
use Rattle.hash.specs.Fnv.{fnv_of}
use Rattle.hash.proofs.FnvLaws.{fnv_lt}
use Rattle.answer.specs.Numbers.{Answer, number_of}
use Rattle.identifier.specs.Identifier.{Token}
use Rattle.identifier.specs.Place.{thresholds}
use Rattle.model.specs.Model.{change}
use Rattle.model.specs.Request.{word_for}
use Rattle.model.specs.Machine.{accepted}
use Rattle.model.proofs.Requests.{Reads, reads}
use Rattle.bucket.specs.declared.Bucket.{Bucket}
use Rattle.bucket.specs.Bucket as B
use Rattle.bucket.proofs.Laws.{has_row, no_row}
use Rattle.bucket_settle.specs.Settle.{plan_of}
use Rattle.table.specs.Table as C
use Rattle.table.specs.Table.{Table}
use Rattle.table.specs.Layout.{numbers_of}
use Rattle.table.specs.Calls.{rows, solutions, table_of, plan_in, shaped, sound, FlatSound, Outcome, replaced, served, call_read, call}
use Rattle.table.specs.History.{flat_state}
use Rattle.table.proofs.Calls.{changed_back}
use Rattle.table.proofs.Statements.{causes_else, sound_stands, call-sound, call_size}
use Rattle.plane.specs.Record.{format1, PlaneBucket, end_length}
use Rattle.plane.specs.Plane.{Plane, plane_bytes}
use Rattle.plane.specs.Fits.{Fits}
use Rattle.plane.proofs.Round.{written_read}
use Rattle.plane_write.specs.Write.{seen_of, plane_of, Written, put_front}
use Rattle.plane_write.proofs.Shown.{live-plan}
use Rattle.plane_write.proofs.Accepted.{in-front, front_room, fits}
use Rattle.patch.specs.Base.{gone_of, news_of}
use Rattle.patch.specs.Record.{change_length, gone_length, new_length}
use Rattle.patch.specs.Wrong.{changes_at}
use Rattle.patch.specs.Patch.{Patch, patch_bytes, patch_of, between, changes_of, buckets_of}
use Rattle.patch.specs.Calls.{make_call}
use Rattle.patch_make.specs.After.{plane_in, patch_between}
use Rattle.patch.proofs.Made.{between-sized}
use Rattle.patch.proofs.Round.{patch_bytes-length}
use Rattle.patch.proofs.Statements.{format1_own}
use Rattle.patch_make.proofs.Lists.{table_make}
use Rattle.patch_make.proofs.Small.{changes_none, changes_one, set-second, gone_same, news-same, gone-update, news-update, update_same}

-- ---- one bucket

-- a change to the plan that the vector has shows nothing new
seen_same : (n v p : ℕ) (b : Bucket) → plan_of n v b ≡ some p → seen_of (B.changed n v p b) ≡ seen_of b
unfolding B.change B.change_at
seen_same n v p b e =
    cases (B.live n v b)
    (λ t. let q : B.lookup b v ≡ p = live-plan (B.live n v b) (B.lookup b v) p e in
    let w = has_row n v b t in
    rw (w.1, q, xor_self p) (ap (λ (l : List ℕ). record { bound = b.bound; sols = l }) (sol_step_none (get_or b.cols w.0 0) b.sols)))
    (λ f. rw (no_row n v b f) refl)

-- ---- the plane of a table in which the live word w, of the plan q, gets the plan p

-- what the records of the patch from the plane P to the plane Q add up to
abbrev records_length : Plane → Plane → ℕ
records_length P Q =
    length (changes_of 0 (buckets_of P) (buckets_of Q)) * change_length format1 + length (gone_of P.base Q.base) * gone_length + length (news_of P.base Q.base) * new_length

-- a choice by two tests, where the plan chosen by them is some q
choice : (P : Table → Type 0) (a b : Bool) (x y z : Option ℕ) {T1 T2 T3 : Table} (q : ℕ) → cond a x (cond b y z) ≡ some q → (x ≡ some q → P T1) → (y ≡ some q → P T2) → (z ≡ some q → P T3)
    → P (cond a T1 (cond b T2 T3))
choice P true b x y z q e f g h = f e
choice P false true x y z q e f g h = g e
choice P false false x y z q e f g h = h e

module _ (n r : ℕ) (S : ℕ → ℕ) (T : Table) (asc : Ascending T.base) (some1 : 0 < length T.level1) (w q : ℕ) (live : C.plan_in n r S T w ≡ some q) where
  abbrev v : ℕ
  v = C.second S w

  abbrev i1 : ℕ
  i1 = C.index S (length T.level1) w

  abbrev i2 : ℕ
  i2 = C.index S (length T.level2) v

  -- its bucket at each level, after the change to p
  abbrev c1 : ℕ → Bucket
  c1 p = B.changed n w p (C.bucket_of n r S T.level1 w)

  abbrev c2 : ℕ → Bucket
  c2 p = B.changed n v p (C.bucket_of n r S T.level2 v)

  abbrev A : List PlaneBucket
  A = map seen_of T.level1

  abbrev Z : List PlaneBucket
  Z = map seen_of T.level2

  by_level : (P : Table → Type 0) {T1 T2 T3 : Table} → (plan_of n w (C.bucket_of n r S T.level1 w) ≡ some q → P T1) → (plan_of n v (C.bucket_of n r S T.level2 v) ≡ some q → P T2)
      → (find v T.base ≡ some q → P T3) → P (cond (C.holds n r S T.level1 w) T1 (cond (C.holds n r S T.level2 v) T2 T3))
  by_level P = choice P (C.holds n r S T.level1 w) (C.holds n r S T.level2 v) _ _ _ q live

  -- one bucket set
  one_bucket : (i : ℕ) (c : PlaneBucket) (Q : Plane) → buckets_of Q ≡ set (A ++ Z) i c → Q.base ≡ T.base → records_length (plane_of T) Q ≤ change_length format1
  one_bucket i c Q e f =
      let l : length (changes_of 0 (A ++ Z) (set (A ++ Z) i c)) ≤ 1 = changes_one 0 (A ++ Z) i c in
      rw (e, f, gone_same T.base asc, news-same T.base asc) (omega arith)

  -- one record at most
  pub change_cheap : (p : ℕ) → records_length (plane_of T) (plane_of (C.changed_in n r S T w p q)) ≤ change_length format1
  change_cheap p =
      let e : Entry = record { word = v; plan = p } in
      let l : length (news_of T.base (update e T.base)) ≤ 1 = news-update T.base asc e in
      by_level (λ (U : Table). records_length (plane_of T) (plane_of U) ≤ change_length format1)
      (λ _. one_bucket i1 (seen_of (c1 p)) (plane_of (C.with_first T (set T.level1 i1 (c1 p))))
      (ap (λ (l : List PlaneBucket). l ++ Z) (map-set seen_of T.level1 i1 (c1 p))
      ∙ sym (set-append_left A Z i1 (seen_of (c1 p)) (rw (length-map T.level1 seen_of) (mod-lt (S w / thresholds) some1)))) refl)
      (λ _. one_bucket (length A + i2) (seen_of (c2 p)) (plane_of (C.with_second T (set T.level2 i2 (c2 p))))
      (ap (λ (l : List PlaneBucket). A ++ l) (map-set seen_of T.level2 i2 (c2 p)) ∙ sym (set-second A Z i2 (seen_of (c2 p)))) refl)
      (λ f. rw (changes_none 0 (A ++ Z), gone-update T.base asc e q f) (omega arith))

  -- to the plan that it has
  pub change-same : plane_of (C.changed_in n r S T w q q) ≡ plane_of T
  change-same =
      by_level (λ (U : Table). plane_of U ≡ plane_of T)
      (λ e. ap (λ (l : List PlaneBucket). record { level1 = l; level2 = Z; base = T.base }) (map-set_same seen_of T.level1 i1 (c1 q) (B.empty_bucket n r) (seen_same n w q _ e)))
      (λ e. ap (λ (l : List PlaneBucket). record { level1 = A; level2 = l; base = T.base }) (map-set_same seen_of T.level2 i2 (c2 q) (B.empty_bucket n r) (seen_same n v q _ e)))
      (λ e. ap (λ (l : List Entry). record { level1 = A; level2 = Z; base = l }) (update_same T.base asc (record { word = v; plan = q }) e))

-- ---- the numbers of a table

-- an accepted change: its word, of the plan q, is live in a sound table
record Was (t : List ℕ) (id : Token) (p q : ℕ) : Type 0 where
  pub word : ℕ
  pub for : word_for (change id p) ≡ Ok word
  pub shape : shaped t ≡ true
  pub tested : sound t ≡ true
  pub live : plan_in t word ≡ some q

was : (t : List ℕ) (id : Token) (p q : ℕ) → (call t (change id p)).answer ≡ Ok q → Was t id p q
unfolding call served
was t id p q e = go (word_for (change id p)) refl (reads (change id p)) e
  where
    found : (T : ℕ → Table) (o : Option ℕ) → (replaced t T o).answer ≡ Ok q → o ≡ some q
    found T (some x) f = cc
    found T none f = cc

    go : (x : Answer) → word_for (change id p) ≡ x → Reads (change id p) x → (call_read t (change id p) x).answer ≡ Ok q → Was t id p q
    go (Err a) i k = λ f. absurd (omega (arith, ap number_of f))
    go (Ok w) i k =
        by_test (λ (o : Outcome). o.answer ≡ Ok q → Was t id p q) (shaped t)
        (λ k. by_test (λ (o : Outcome). o.answer ≡ Ok q → Was t id p q) (sound t)
        (λ s f. record { word = w; for = i; shape = k; tested = s; live = found (C.changed_in rows solutions mix_of (table_of t) w p) (plan_in t w) f })
        (λ _ f. absurd (omega (arith, ap number_of f))))
        (λ _ f. absurd (omega (arith, ap number_of f)))

module _ (t : List ℕ) (flat : FlatSound t) (id : Token) (p q : ℕ) (e : (call t (change id p)).answer ≡ Ok q) where
  -- the table after the change
  abbrev u : List ℕ
  u = (call t (change id p)).table

  h : Was t id p q
  h = was t id p q e

  abbrev T : Table
  T = table_of t

  abbrev U : Table
  U = C.changed_in rows solutions mix_of T h.word p q

  then : u ≡ numbers_of U
  unfolding served
  then = ap (λ (o : Outcome). o.table) (causes_else t (change id p) h.word h.for h.shape h.tested ∙ ap (replaced t (C.changed_in rows solutions mix_of T h.word p)) h.live)

  table_after : table_of u ≡ U
  table_after = ap table_of then ∙ changed_back t (flat_state t) (sound_stands t h.shape flat) id h.word p q h.for h.live

  -- the planes before and after
  abbrev P : Plane
  P = plane_of (table_of t)

  abbrev Q : Plane
  Q = plane_of (table_of u)

  fits-before : Fits format1 P
  fits-before = fits t h.shape flat

  fits_after : Fits format1 Q
  fits_after =
      let k = call-sound t h.shape flat (change id p) in
      fits u k.0 k.2

  -- the patch from the plane before to the plane after
  abbrev D : Patch
  D = patch_of format1 (plane_bytes format1 P) (plane_bytes format1 Q)

  is_between : D ≡ between (fnv_of (plane_bytes format1 P)) (fnv_of (plane_bytes format1 Q)) P Q
  is_between = ap₂ (between (fnv_of (plane_bytes format1 P)) (fnv_of (plane_bytes format1 Q))) (written_read format1 P fits-before) (written_read format1 Q fits_after)

  size_is : length (patch_bytes format1 D) ≡ changes_at + records_length P Q + end_length
  unfolding between
  size_is =
      ap (λ (x : Patch). length (patch_bytes format1 x)) is_between
      ∙ patch_bytes-length format1 format1_own (between (fnv_of (plane_bytes format1 P)) (fnv_of (plane_bytes format1 Q)) P Q)
      (between-sized format1 P Q fits-before fits_after (fnv_of (plane_bytes format1 P)) (fnv_of (plane_bytes format1 Q)) (fnv_lt (plane_bytes format1 P)) (fnv_lt (plane_bytes format1 Q)))
      ∙ omega arith

  at_most : length (patch_bytes format1 D) ≤ 89
  at_most =
      let c = change_cheap rows solutions mix_of T flat.table.ascending flat.table.level1.some h.word q h.live p in
      rw (size_is, table_after) (omega (arith, c))

  if_same : p ≡ q → length (patch_bytes format1 D) ≡ 22
  if_same i =
      let s : plane_of U ≡ P =
      ap (λ (x : ℕ). plane_of (C.changed_in rows solutions mix_of T h.word x q)) i
      ∙ change-same rows solutions mix_of T flat.table.ascending flat.table.level1.some h.word q h.live in
      let k : Q ≡ P = ap plane_of table_after ∙ s in
      size_is
      ∙ ap (λ (X : Plane). changes_at + records_length P X + end_length) k
      ∙ rw (changes_none 0 (buckets_of P), gone_same T.base flat.table.ascending, news-same T.base flat.table.ascending)

-- any sound table
module _ (t : List ℕ) (flat : FlatSound t) (id : Token) (p q : ℕ) (e : (call t (change id p)).answer ≡ Ok q) where
  -- "changing one plan costs at most 89 bytes"
  pub change_costs : length (patch_between t (call t (change id p)).table) ≤ 89
  change_costs = at_most t flat id p q e

  -- "and 22 if the plan was that already"
  pub same_costs : p ≡ q → length (patch_between t (call t (change id p)).table) ≡ 22
  same_costs = if_same t flat id p q e

  -- of the call that makes the patch: between the planes before and after the change it meets no cause but 9
  module _ (out : List ℕ) where
    abbrev made : Written
    made = make_call (plane_in t) (plane_in (call t (change id p)).table) out

    made_is : made ≡ put_front (patch_between t (call t (change id p)).table) out
    made_is =
        let k = (was t id p q e).shape in
        let s = call-sound t k flat (change id p) in
        table_make t (call t (change id p)).table k flat s.0 s.2 (sym (call_size t k flat (change id p))) out

    -- what it returns
    pub change-length : (n : ℕ) → made.answer ≡ Ok n → n ≡ length (patch_between t (call t (change id p)).table)
    change-length n f = (in-front n out (patch_between t (call t (change id p)).table) (ap (λ (w : Written). w.answer) (sym made_is) ∙ f)).size

    pub change_room : length (patch_between t (call t (change id p)).table) ≤ length out → accepted made.answer ≡ true
    change_room l = ap (λ (w : Written). accepted w.answer) made_is ∙ ap accepted (front_room (patch_between t (call t (change id p)).table) out l)
