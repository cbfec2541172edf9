-- What the loops of making ask for: records written one after the other, those of the buckets that differ, and those of the base entries
-- that another base list has otherwise, found by a cursor.
-- Assumes nothing.
use Prim.Native.Nat.{ℕ, suc, ◌+◌, ◌-◌, ◌*◌, ◌≤◌, ◌<◌}
use native.Mathlib.Nat.{add-mul, suc-mul, mul-le-mul_right}
use native.Mathlib.Numerals.{add-one}
use native.Mathlib.Omega.{arith}
use mathlib.Core.Path.{◌≡◌, refl, sym, ap, ap₂, ◌∙◌, subst}
use mathlib.Core.Bool.{Bool, true, false, cond, not}
use mathlib.Core.Option as Math
use mathlib.Core.List.{List, [], ◌∷◌, ◌++◌, map}
use lib.Dec.{eqb}
use lib.ListN.{length, get_or, take, drop, length-append, length-drop, drop_of_length-le}
use lib.Seq.{drop-drop, drop-cons}
use borrow.Author.Tests.{eq-eqb, ne_eqb, eqb-true, eqb-false}
use Rattle.std.specs.Prelude.{Ok, Option, Some, None}
use Rattle.std.specs.Option.{is_some, option_eq}
use Rattle.codec.specs.Bytes.{eq_list}
use Rattle.codec.specs.Parts.{written}
use Rattle.codec.proofs.Part.{length-written, written_none, written-append}
use Rattle.codec.proofs.Round.{length-to_bytes}
use Rattle.lists.specs.Lists.{keep, Every}
use Rattle.lists.specs.Entries.{Entry, find, Ascending}
use Rattle.lists.proofs.Tests.{cases}
use Rattle.lists.proofs.Parts.{stretch, length_stretch}
use Rattle.lists.proofs.Every.{mem_every}
use Rattle.lists.proofs.Entries.{above_mem}
use Rattle.table.specs.Layout.{most_buckets1, most_buckets2}
use Rattle.plane.specs.Record.{Format, word_bytes, bytes_of, PlaneBucket, bucket_body, bucket_length, bucket_bytes, bucket_from}
use Rattle.plane.specs.Plane.{plane_from, wrong_at, buckets1, buckets2, bucket_count, buckets_at, entries_at}
use Rattle.plane.proofs.Scan.{both, known}
use Rattle.plane.proofs.Read.{get_d_read_all}
use Rattle.plane.proofs.Exact.{AllBytes, bytes_drop, bucket-taken, buckets_read, buckets_length}
use Rattle.patch.specs.Base.{is_there, has, gone_of}
use Rattle.patch.specs.Cursor.{plan_first, after}
use Rattle.patch.specs.Record.{Change, change_length, change_record, gone_length, gone_record, new_length, new_record}
use Rattle.patch.specs.Patch.{changes_of, buckets_of}
use Rattle.patch.specs.Calls.{alike}
use Rattle.patch.proofs.Steps.{changes_step}
use Rattle.patch.proofs.Cursor as cursor
use Rattle.patch_make.specs.Steps.{unless, change_part}

-- ---- bytes written one after the other

-- `whole` is to be written at `first` into the output `out₀`; `left` of it, at `at` into `out`, is still to come
pub record Left (whole : List ℕ) (first : ℕ) (out₀ left : List ℕ) (at : ℕ) (out : List ℕ) : Type 0 where
  pub bytes : written at left out ≡ written first whole out₀
  pub end : at + length left ≡ first + length whole

pub left-all : {whole : List ℕ} {first : ℕ} {out : List ℕ} → Left whole first out whole first out
left-all = record { bytes = refl; end = refl }

module _ {whole : List ℕ} {first : ℕ} {out₀ left : List ℕ} {at : ℕ} {out : List ℕ} (h : Left whole first out₀ left at out) where
  -- the part p is written
  pub left_less : (p : List ℕ) {rest : List ℕ} {r : ℕ} {o : List ℕ} → left ≡ p ++ rest → r ≡ at + length p → o ≡ written at p out → Left whole first out₀ rest r o
  left_less p {rest} e n f = record {
    bytes = rw (n, f) (sym (written-append at p rest out) ∙ ap (λ (l : List ℕ). written at l out) (sym e) ∙ h.bytes);
    end = rw n (omega (arith, ap length e ∙ length-append p rest, h.end));
  }

  -- nothing is left
  pub left_none : left ≡ [] → (at ≡ first + length whole) × (out ≡ written first whole out₀)
  left_none e = (omega (arith, ap length e, h.end), sym (written_none at out) ∙ ap (λ (l : List ℕ). written at l out) (sym e) ∙ h.bytes)

  pub left-length : length out ≡ length out₀
  left-length = sym (length-written at left out) ∙ ap length h.bytes ∙ length-written first whole out₀

-- ---- a record, or none

pub unless_less : (same : Bool) (p : List ℕ) → length (unless same p) ≤ length p
unless_less true p = omega arith
unless_less false p = omega arith

-- at most a record more
pub change_less : (F : Format) (at i r : ℕ) (a b : List ℕ) → length b ≡ bucket_body F → r ≡ at + length (change_part F i a b) → r ≤ at + change_length F
change_less F at i r a b n e = omega (arith, unless_less (eq_list a b) (F.change_kind ∷ i ∷ b))

pub gone_size : (w : ℕ) → length (gone_record w) ≡ gone_length
gone_size w = omega (arith, length-to_bytes word_bytes w)

pub new_size : (e : Entry) → length (new_record e) ≡ new_length
new_size e = rw length-append (omega (arith, length-to_bytes word_bytes e.word))

-- one element more, or not, where it is p in front of the bytes
module _ {E : Type 0} (bytes : List E → List ℕ) (p : List ℕ) (x : E) (xs : List E) (e : bytes (x ∷ xs) ≡ p ++ bytes xs) where
  unless-bytes : (b : Bool) → bytes (cond b xs (x ∷ xs)) ≡ unless b p ++ bytes xs
  unless-bytes true = refl
  unless-bytes false = e

-- ---- one more bucket

module _ (F : Format) (bs cs : List PlaneBucket) where
  -- the records from the index i on
  abbrev pub changes_left : ℕ → List ℕ
  changes_left i = bytes_of (change_record F) (changes_of i (drop i bs) (drop i cs))

  pub changes_next : (i : ℕ) (z : PlaneBucket) → i < length bs → i < length cs
      → changes_left i ≡ change_part F i (bucket_bytes (get_or bs i z)) (bucket_bytes (get_or cs i z)) ++ changes_left (i + 1)
  unfolding bytes_of
  changes_next i z hb hc =
      let c : Change = record { index = i; bucket = get_or cs i z } in
      rw (changes_step i bs cs z hb hc, ← add-one i)
      (unless-bytes (bytes_of (change_record F)) (change_record F c) c (changes_of (i + 1) (drop (i + 1) bs) (drop (i + 1) cs)) refl (eq_list (bucket_bytes (get_or bs i z)) (bucket_bytes (get_or cs i z))))

-- ---- the entries of a base list L that another one, R, has otherwise, by a cursor in R

bytes-map : {A B : Type 0} (f : B → List ℕ) (g : A → B) (xs : List A) → bytes_of f (map g xs) ≡ bytes_of (λ x. f (g x)) xs
unfolding bytes_of
bytes-map f g [] = refl
bytes-map f g (x ∷ xs) = ap (λ (l : List ℕ). f (g x) ++ l) (bytes-map f g xs)

-- those of which t is true have records of this size
module _ (f : Entry → List ℕ) (size : ℕ) (sized : (e : Entry) → length (f e) ≡ size) (t : Entry → Bool) (L R : List Entry) (first : ℕ) (out₀ : List ℕ) where
  -- the records of those from the entry i on
  abbrev rest : ℕ → List ℕ
  rest i = bytes_of f (keep t (drop i L))

  -- the first i entries are looked at, and `left` is what is left of R
  pub record Sending (i : ℕ) (left : List Entry) (at : ℕ) (out : List ℕ) : Type 0 where
    pub bytes : Left (rest 0) first out₀ (rest i) at out
    pub room : at ≤ first + i * size
    pub least : ℕ
    pub cursor : cursor.Left least R left
    pub above : Every (λ e. least ≤ e.word) (drop i L)

  pub sending_starts : Ascending R → Sending 0 R first out₀
  sending_starts a = record { bytes = left-all; room = omega arith; least = 0; cursor = cursor.left_all R a; above = mem_every _ L (λ x m. omega arith) }

  module _ {i : ℕ} {left : List Entry} {at : ℕ} {out : List ℕ} (h : Sending i left at out) where
    pub sending_ends : length L ≤ i → (at ≡ first + length (bytes_of f (keep t L))) × (out ≡ written first (bytes_of f (keep t L)) out₀)
    unfolding bytes_of
    sending_ends l = left_none h.bytes (ap (λ (es : List Entry). bytes_of f (keep t es)) (drop_of_length-le L {i = i} l))

    module _ (a : Ascending L) (l : i < length L) {e : Entry} (d : Entry) (q : e ≡ get_or L i d) where
      here : drop i L ≡ e ∷ drop (i + 1) L
      here = drop-cons L i d l ∙ ap₂ (λ (x : Entry) (n : ℕ). x ∷ drop n L) (sym q) (sym (add-one i))

      least_le : h.least ≤ e.word
      least_le = (subst (Every (λ x. h.least ≤ x.word)) here h.above).0

      -- what the cursor says of the word
      pub sought : {o : Option ℕ} → o ≡ plan_first e.word (cursor.from e.word left) → find e.word R ≡ cursor.found o
      sought s = cursor.left_find h.cursor e.word least_le ∙ ap cursor.found (sym s)

      next : {at₁ : ℕ} {out₁ : List ℕ} → Left (rest 0) first out₀ (rest (i + 1)) at₁ out₁ → at₁ ≤ at + size → (left₁ : List Entry) → left₁ ≡ after e.word (cursor.from e.word left) → Sending (i + 1) left₁ at₁ out₁
      next b r left₁ z =
          let g : first + (i + 1) * size ≡ first + i * size + size = omega arith in
          let k = h.room in
          record {
            bytes = b;
            room = omega arith;
            least = suc e.word;
            cursor = rw z (cursor.left_next h.cursor e.word least_le);
            above = mem_every _ (drop (i + 1) L) (λ x m. above_mem e.word (drop (i + 1) L) (subst Ascending here (cursor.ascending_drop i L a)).0 x m);
          }

      pub sent : t e ≡ true → (at₁ : ℕ) (out₁ : List ℕ) (left₁ : List Entry) → at₁ ≡ at + size → out₁ ≡ written at (f e) out → left₁ ≡ after e.word (cursor.from e.word left) → Sending (i + 1) left₁ at₁ out₁
      unfolding bytes_of
      sent y at₁ out₁ left₁ n o z =
          let more : rest i ≡ f e ++ rest (i + 1) = rw (here, y) in
          next (left_less h.bytes (f e) more (n ∙ ap (λ (k : ℕ). at + k) (sym (sized e))) o) (omega arith) left₁ z

      pub kept : t e ≡ false → (at₁ : ℕ) (out₁ : List ℕ) (left₁ : List Entry) → at₁ ≡ at → out₁ ≡ out → left₁ ≡ after e.word (cursor.from e.word left) → Sending (i + 1) left₁ at₁ out₁
      kept y at₁ out₁ left₁ n o z =
          let same : rest i ≡ rest (i + 1) = rw (here, y) in
          rw (n, o) (next (record { bytes = rw same at h.bytes.bytes; end = rw same at h.bytes.end }) (omega arith) left₁ z)

-- an entry's plan is that of its word, if the word has the plan o
has-plan : (p : ℕ) (o : Option ℕ) → has p (cursor.found o) ≡ option_eq eqb o (Some p)
has-plan p None = refl
has-plan p (Some q) = cases (eqb p q) (λ t. t ∙ sym (eq-eqb q p (sym (eqb-true p q t)))) (λ f. f ∙ sym (ne_eqb q p (λ e. eqb-false p q f (sym e))))

-- the words gone, and the entries new or changed
module _ (L R : List Entry) where
  abbrev pub gone : Entry → Bool
  gone e = not (is_there (find e.word R))

  abbrev pub changed : Entry → Bool
  changed e = not (has e.plan (find e.word R))

  -- by what the cursor says of the word
  pub gone_is : (e : Entry) (o : Option ℕ) → find e.word R ≡ cursor.found o → {b : Bool} → is_some o ≡ not b → gone e ≡ b
  gone_is e o q {b} n = ap (λ (x : Math.Option ℕ). not (is_there x)) q ∙ ap not (cursor.there_some o ∙ n) ∙ not_not b
    where
      not_not : (x : Bool) → not (not x) ≡ x
      not_not true = refl
      not_not false = refl

  pub changed_is : (e : Entry) (o : Option ℕ) → find e.word R ≡ cursor.found o → {b : Bool} → b ≡ not (option_eq eqb o (Some e.plan)) → changed e ≡ b
  changed_is e o q n = ap (λ (x : Math.Option ℕ). not (has e.plan x)) q ∙ ap not (has-plan e.plan o) ∙ sym n

  pub gone-bytes : bytes_of (λ e. gone_record e.word) (keep gone L) ≡ bytes_of gone_record (gone_of L R)
  gone-bytes = sym (bytes-map gone_record (λ (e : Entry). e.word) (keep gone L))

-- ---- the buckets of a right plane

module _ (F : Format) (p : List ℕ) (e : wrong_at F p ≡ Ok tt) (b : AllBytes p) where
  abbrev s : ℕ
  s = bucket_length F

  -- where the record of bucket i starts
  abbrev at : ℕ → ℕ
  at i = buckets_at + i * s

  -- the bytes of bucket i stand after its kind byte
  pub bucket-bytes : (i : ℕ) (z : PlaneBucket) → i < bucket_count p → bucket_bytes (get_or (buckets_of (plane_from F p)) i z) ≡ take (bucket_body F) (drop (at i + 1) p)
  bucket-bytes i z h =
      let long : entries_at F (bucket_count p) ≤ length p = rw (known F p e).whole (omega arith) in
      let more : suc i * s ≤ bucket_count p * s = mul-le-mul_right s h in
      let room : bucket_body F < length (drop (at i) p) = rw length-drop (omega (arith, suc-mul i s)) in
      rw (buckets_read F p e b, get_d_read_all s (bucket_from F) (bucket_count p) i (drop buckets_at p) z h, drop-drop (i * s) buckets_at p)
      (rw (bucket-taken F (drop (at i) p) room (bytes_drop (at i) p b), drop-drop 1 (at i) p))

-- ---- two right planes of equal bucket numbers

pub record Alike (F : Format) (p q : List ℕ) : Type 0 where
  pub old : wrong_at F p ≡ Ok tt
  pub new : wrong_at F q ≡ Ok tt
  pub old_bytes : AllBytes p
  pub new_bytes : AllBytes q
  pub most : bucket_count p ≤ most_buckets1 + most_buckets2
  pub same : bucket_count p ≡ bucket_count q
  -- both have room for their buckets
  pub old_room : entries_at F (bucket_count p) ≤ length p
  pub new_room : entries_at F (bucket_count p) ≤ length q

pub planes_alike : (F : Format) (p q : List ℕ) → wrong_at F p ≡ Ok tt → wrong_at F q ≡ Ok tt → alike p q ≡ true → AllBytes p → AllBytes q → Alike F p q
planes_alike F p q ep eq a bp bq =
    let h = known F p ep in
    let b = both (eqb (buckets1 p) (buckets1 q)) _ a in
    let e1 : buckets1 p ≡ buckets1 q = eqb-true (buckets1 p) (buckets1 q) b.0 in
    let e2 : buckets2 p ≡ buckets2 q = eqb-true (buckets2 p) (buckets2 q) b.1 in
    let m1 : buckets1 p ≤ most_buckets1 = h.header.most1 in
    let m2 : buckets2 p ≤ most_buckets2 = h.header.most2 in
    record {
      old = ep;
      new = eq;
      old_bytes = bp;
      new_bytes = bq;
      most = omega arith;
      same = omega arith;
      old_room = rw h.whole (omega arith);
      new_room = rw ((known F q eq).whole, e1, e2) (omega arith);
    }

module _ {F : Format} {p q : List ℕ} (h : Alike F p q) where
  abbrev bs : List PlaneBucket
  bs = buckets_of (plane_from F p)

  abbrev cs : List PlaneBucket
  cs = buckets_of (plane_from F q)

  abbrev z : PlaneBucket
  z = record { bound = 0; sols = [] }

  -- the bytes of bucket i, as the code lends them
  abbrev lent : ℕ → List ℕ → List ℕ
  lent i l = take (buckets_at + i * bucket_length F + 1 + bucket_body F - (buckets_at + i * bucket_length F + 1)) (drop (buckets_at + i * bucket_length F + 1) l)

  -- one more bucket
  pub planes_next : (i : ℕ) → i + 1 ≤ bucket_count p → changes_left F bs cs i ≡ change_part F i (lent i p) (lent i q) ++ changes_left F bs cs (i + 1)
  planes_next i l =
      let at : ℕ = buckets_at + i * bucket_length F + 1 in
      let old : bucket_bytes (get_or bs i z) ≡ lent i p = bucket-bytes F p h.old h.old_bytes i z (omega arith) ∙ sym (stretch at (bucket_body F) p) in
      let new : bucket_bytes (get_or cs i z) ≡ lent i q = bucket-bytes F q h.new h.new_bytes i z (omega arith) ∙ sym (stretch at (bucket_body F) q) in
      changes_next F bs cs i z (rw (buckets_length F p h.old h.old_bytes) (omega arith)) (rw (buckets_length F q h.new h.new_bytes) (omega arith))
      ∙ ap₂ (λ (x y : List ℕ). change_part F i x y ++ changes_left F bs cs (i + 1)) old new

  pub lent_length : (i : ℕ) → i + 1 ≤ bucket_count p → length (lent i q) ≡ bucket_body F
  lent_length i l =
      let more : (i + 1) * bucket_length F ≤ bucket_count p * bucket_length F = mul-le-mul_right (bucket_length F) l in
      length_stretch (buckets_at + i * bucket_length F + 1) (bucket_body F) q (omega (arith, add-mul i 1 (bucket_length F)))

  -- none left
  pub planes_none : changes_left F bs cs (bucket_count p) ≡ []
  unfolding bytes_of
  planes_none =
      ap (λ (l : List PlaneBucket). bytes_of (change_record F) (changes_of (bucket_count p) l (drop (bucket_count p) cs)))
      (drop_of_length-le bs {i = bucket_count p} (rw (buckets_length F p h.old h.old_bytes) (omega arith)))
