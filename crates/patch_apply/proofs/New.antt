-- The new plane as applying builds it: the buckets that differ over the old ones, then header, entries and end.
-- Assumes nothing.
use Prim.Native.Nat.{ℕ, zero, suc, ◌+◌, ◌-◌, ◌*◌, ◌≤◌, ◌<◌}
use native.Mathlib.Nat.{le_of_lt}
use native.Mathlib.Numerals.{sub-one}
use native.Mathlib.Omega.{arith}
use mathlib.Core.Path.{◌≡◌, refl, sym, ap, ap₂, ◌∙◌}
use mathlib.Core.Bool.{true}
use mathlib.Core.List.{List, [], ◌∷◌, ◌++◌}
use lib.Dec.{leb, ltb}
use lib.ListN.{length, get_or, take, drop, set, length-append, length-drop, length-set, take-append-drop}
use lib.Seq.{take_at, drop-drop, get_or-take, length-take-le}
use Rattle.std.proofs.lemmas.List.{take_more}
use borrow.Author.Tests.{ltb-true}
use Rattle.std.specs.Prelude.{Ok}
use Rattle.lists.specs.Entries.{Entry}
use Rattle.lists.specs.Lists.{Every}
use Rattle.lists.proofs.Every.{every, mem_every}
use Rattle.lists.proofs.Parts.{drop-take, rest, stretch}
use Rattle.codec.specs.Parts.{written}
use Rattle.codec.proofs.Part.{written_none, written-fits, written_three}
use Rattle.codec.proofs.Round.{length-to_bytes}
use Rattle.model.specs.Model.{base_limit}
use Rattle.table.specs.Layout.{most_buckets1, most_buckets2}
use Rattle.plane.specs.Record.{Format, word_bytes, bytes_of, read_all, header_record, PlaneBucket, bucket_body, bucket_length, bucket_bytes, bucket_record, bucket_records, bucket_from, entry_length, entry_record, end_record}
use Rattle.plane.specs.Plane.{Plane, plane_bytes, plane_from, wrong_at, buckets1, buckets2, bucket_count, buckets_at, entries_at, end_at, plane_length, all_allowed}
use Rattle.plane.specs.Fits.{FitsBucket, Fits}
use Rattle.plane.proofs.Scan.{both, whole_length}
use Rattle.plane.proofs.Scan as scan
use Rattle.plane_write.proofs.Put.{put_next}
use Rattle.plane.proofs.Round.{Sized, length-bytes, bucket_back, entry_back, plane-length}
use Rattle.plane.proofs.Exact.{AllBytes, bytes_drop, bucket-body, length1, length2, read_written, read_fits}
use Rattle.patch.specs.Record.{sums_kind, sums_body, Change, change_length, change_from}
use Rattle.patch.specs.Patch.{Patch, buckets_of, set_all, patched}
use Rattle.patch.specs.Wrong.{change_allowed, next_index, changes_at, changes_in, patch_from, patch_wrong_at}
use Rattle.patch.specs.Calls.{applied}
use Rattle.patch.specs.Fits.{FitsChange, FitsPatch}
use Rattle.patch.proofs.Steps.{written-past, set-bytes}
use Rattle.patch.proofs.Applied.{every_set, set-all_fit, set-all-length, allowed_each, patched_length1, patched_length2, patched-fits}
use Rattle.patch.proofs.Exact.{parts, patch_fits}
use Rattle.patch_apply.specs.Steps.{changed}
use Rattle.patch_check.proofs.Checked.{buckets_count, gone-start}

-- ---- one change more

-- the first k changes of some bytes
abbrev pub changes_from : Format → ℕ → List ℕ → List Change
changes_from F k p = read_all (change_length F) (change_from F) k p

-- none is left
pub changes_done : (F : Format) (cs : List Change) (left : ℕ) (p new q : List ℕ) → left ≡ 0 → changed F (changes_from F left p) new ≡ changed F cs q → new ≡ changed F cs q
unfolding read_all
changes_done F cs left p new q z e = rw z at e

module _ (F : Format) (at : ℕ) (d : List ℕ) (there : at + change_length F ≤ length d) (b : AllBytes d) where
  -- its record, as the code lends it, and what follows its kind byte
  abbrev part : List ℕ
  part = take (at + change_length F - at) (drop at d)

  abbrev tail : List ℕ
  tail = drop 1 (drop at d)

  tail_long : length tail ≡ length d - (at + 1)
  tail_long = ap length (drop-drop 1 at d) ∙ length-drop (at + 1) d

  tail-bytes : bucket_bytes (bucket_from F tail) ++ drop (bucket_length F) tail ≡ drop 1 tail
  tail-bytes = bucket-body F tail (omega (arith, tail_long)) (bytes_drop 1 (drop at d) (bytes_drop at d b))

  body_long : length (bucket_bytes (bucket_from F tail)) ≡ bucket_body F
  body_long =
      let e = ap length tail-bytes in
      omega (arith, tail_long, e, length-append (bucket_bytes (bucket_from F tail)) (drop (bucket_length F) tail), length-drop (bucket_length F) tail, length-drop 1 tail)

  part_body : take (length part - 2) (drop 2 part) ≡ bucket_bytes (bucket_from F tail)
  part_body =
      let n : change_length F ≡ 2 + bucket_body F = omega arith in
      rest 2 part ∙ ap (drop 2) (stretch at (change_length F) d ∙ ap (λ (j : ℕ). take j (drop at d)) n) ∙ drop-take 2 (bucket_body F) (drop at d)
      ∙ ap (take (bucket_body F)) (sym (drop-drop 1 1 (drop at d)) ∙ sym tail-bytes) ∙ take_at (bucket_bytes (bucket_from F tail)) (drop (bucket_length F) tail) (bucket_body F) body_long

  part-index : get_or part 1 0 ≡ get_or (drop at d) 1 0
  part-index = ap (λ (l : List ℕ). get_or l 1 0) (stretch at (change_length F) d) ∙ get_or-take (change_length F) (drop at d) 1 0 (omega arith)

  pub change-next : (left : ℕ) (q o : List ℕ) → 0 < left → o ≡ written (buckets_at + get_or part 1 0 * bucket_length F + 1) (take (length part - 2) (drop 2 part)) q
      → changed F (changes_from F (left - 1) (drop (at + change_length F) d)) o ≡ changed F (changes_from F left (drop at d)) q
  unfolding read_all
  change-next zero q o h e = absurd (omega arith)
  change-next (suc n) q o h e = rw (e, part_body, part-index, sub-one, drop-drop (change_length F) at d)

-- ---- one entry more

entry_size : (e : Entry) → length (entry_record e) ≡ entry_length
entry_size e = rw length-append (omega (arith, length-to_bytes word_bytes e.word))

pub entries_none : (at : ℕ) (t : List ℕ) → t ≡ written at (bytes_of entry_record []) t
unfolding bytes_of
entries_none at t = sym (written_none at t)

pub entries-next : (i at : ℕ) (es : List Entry) (e : Entry) (t : List ℕ) → i < length es → e ≡ get_or es i e
    → written (at + i * entry_length) (entry_record e) (written at (bytes_of entry_record (take i es)) t) ≡ written at (bytes_of entry_record (take (i + 1) es)) t
entries-next i at es e t h q =
    let n : i ≡ length (take i es) = sym (length-take-le i es (le_of_lt h)) in
    let more : take (i + 1) es ≡ take i es ++ e ∷ [] = take_more es i e h ∙ ap (λ (x : Entry). take i es ++ x ∷ []) (sym q) in
    ap (λ (k : ℕ). written (at + k * entry_length) (entry_record e) (written at (bytes_of entry_record (take i es)) t)) n
    ∙ put_next entry_record entry_length (take i es) e at t (mem_every _ (take i es) (λ x m. entry_size x)) ∙ ap (λ (l : List Entry). written at (bytes_of entry_record l) t) (sym more)

-- ---- all of them

sized : (F : Format) (bs : List PlaneBucket) → Every (FitsBucket F) bs → Every (Sized (bucket_record F) (bucket_length F)) bs
sized F bs h = every (λ b f. (bucket_back F b f).0) bs h

module _ (F : Format) (n : ℕ) where
  -- in the bytes of a plane's buckets, after a header
  changed-bytes : (least : ℕ) (cs : List Change) (bs : List PlaneBucket) (head q : List ℕ) → length head ≡ buckets_at → length bs ≡ n → Every (FitsBucket F) bs → Every (FitsChange F) cs
      → all_allowed (change_allowed n) next_index least cs ≡ true
      → changed F cs (head ++ (bytes_of (bucket_record F) bs ++ q)) ≡ head ++ (bytes_of (bucket_record F) (set_all cs bs) ++ q)
  changed-bytes least [] bs head q l m f g a = refl
  changed-bytes least (c ∷ cs) bs head q l m f g a =
      let i : ℕ = c.index in
      let k = both (change_allowed n least c) (all_allowed (change_allowed n) next_index (suc i) cs) a in
      let low : i < n = ltb-true i n (both (ltb i n) _ (both (leb least i) _ k.0).1).0 in
      let at : buckets_at + i * bucket_length F + 1 ≡ length head + (i * bucket_length F + 1) = omega (arith, l) in
      rw (at, written-past head (i * bucket_length F + 1) (bucket_bytes c.bucket) (bytes_of (bucket_record F) bs ++ q), set-bytes (bucket_records F) bs i c.bucket q (sized F bs f) (bucket_back F c.bucket g.0).0 (omega (arith, m, low)))
      (changed-bytes (suc i) cs (set bs i c.bucket) head q l (length-set bs i c.bucket ∙ m) (every_set (FitsBucket F) bs i c.bucket f g.0) g.1 k.1)

-- ---- the new plane

-- what is known where the new plane's base list has k entries
pub record Known (F : Format) (p d : List ℕ) (k : ℕ) : Type 0 where
  pub there : buckets_at ≤ length p
  pub most1 : buckets1 p ≤ most_buckets1
  pub most2 : buckets2 p ≤ most_buckets2
  pub old : entries_at F (bucket_count p) ≤ length p
  pub changes : changes_at + changes_in F d * change_length F ≤ length d
  pub few : k ≤ base_limit
  pub long : plane_length F (bucket_count p) k ≡ length (applied F p d)

module _ (F : Format) (p d : List ℕ) (bp : AllBytes p) (bd : AllBytes d) (ep : wrong_at F p ≡ Ok tt) (ed : patch_wrong_at F (plane_from F p) d ≡ Ok tt) where
  abbrev P : Plane
  P = plane_from F p

  abbrev D : Patch
  D = patch_from F d

  abbrev Q : Plane
  Q = patched P D

  abbrev B : List ℕ
  B = bytes_of (bucket_record F) (buckets_of P)

  abbrev head : ℕ → List ℕ
  head k = header_record F (buckets1 p) (buckets2 p) k

  fp : Fits F P
  fp = read_fits F p ep bp

  fd : FitsPatch F P D
  fd = patch_fits F P d ed bd

  new_fits : Fits F Q
  new_fits = patched-fits P D F fp fd

  B-long : length B ≡ bucket_count p * bucket_length F
  B-long = length-bytes (bucket_record F) (bucket_length F) (buckets_of P) (sized F (buckets_of P) fp.buckets) ∙ ap (λ (m : ℕ). m * bucket_length F) (buckets_count F p d)

  -- the old plane up to its entries
  front : take (entries_at F (bucket_count p)) p ≡ head (length P.base) ++ B
  unfolding plane_bytes
  front =
      let rest : List ℕ = bytes_of entry_record P.base ++ end_record in
      let split : p ≡ (head (length P.base) ++ B) ++ rest =
      sym (read_written F p ep bp) ∙ ap₂ (λ (a b : ℕ). header_record F a b (length P.base) ++ (B ++ rest)) (length1 F p ep bp) (length2 F p ep bp) in
      ap (take (entries_at F (bucket_count p))) split ∙ take_at (head (length P.base) ++ B) rest (entries_at F (bucket_count p)) (omega (arith, B-long))

  -- the new plane's buckets
  abbrev C : List ℕ
  C = bytes_of (bucket_record F) (set_all D.changes (buckets_of P))

  levels : Q.level1 ++ Q.level2 ≡ set_all D.changes (buckets_of P)
  unfolding patched
  levels = take-append-drop (length P.level1) (set_all D.changes (buckets_of P))

  C-long : length C ≡ bucket_count p * bucket_length F
  C-long =
      length-bytes (bucket_record F) (bucket_length F) (set_all D.changes (buckets_of P)) (sized F (set_all D.changes (buckets_of P)) (set-all_fit F D.changes (buckets_of P) fd.sized.changes fp.buckets))
      ∙ ap (λ (m : ℕ). m * bucket_length F) (set-all-length D.changes (buckets_of P) ∙ buckets_count F p d)

  new-bytes : applied F p d ≡ head (length Q.base) ++ (C ++ (bytes_of entry_record Q.base ++ end_record))
  unfolding plane_bytes
  new-bytes = rw (patched_length1 P D, patched_length2 P D, length1 F p ep bp, length2 F p ep bp, levels)

  new-length : length (applied F p d) ≡ plane_length F (bucket_count p) (length Q.base)
  new-length = plane-length F Q new_fits ∙ rw (patched_length1 P D, patched_length2 P D, length1 F p ep bp, length2 F p ep bp)

  changes_there : changes_at + changes_in F d * change_length F ≤ length d
  unfolding changes_in
  changes_there =
      let s = parts F P d ed bd in
      gone-start F p d (changes_in F d) refl (omega (arith, whole_length sums_kind sums_body d s.sums)) s.changes

  pub known : (k : ℕ) → k ≡ length Q.base → Known F p d k
  known k n =
      let o = scan.known F p ep in
      record {
        there = omega (arith, o.header.there);
        most1 = o.header.most1;
        most2 = o.header.most2;
        old = omega (arith, o.whole);
        changes = changes_there;
        few = rw n new_fits.few;
        long = ap (plane_length F (bucket_count p)) n ∙ sym new-length;
      }

  -- what the calls leave one after the other
  module _ (n k : ℕ) (new o1 o2 o3 : List ℕ) (room : entries_at F (bucket_count p) ≤ length new) (all : n ≡ changes_in F d)
      (e1 : o1 ≡ written 0 (take (entries_at F (bucket_count p)) p) new) (e2 : o2 ≡ changed F (changes_from F n (drop changes_at d)) o1) (e3 : o3 ≡ written 0 (head k) o2) where
    abbrev q : List ℕ
    q = drop (entries_at F (bucket_count p)) new

    old_there : o1 ≡ head (length P.base) ++ (B ++ q)
    old_there =
        let at : 0 + length (head (length P.base) ++ B) ≡ entries_at F (bucket_count p) = omega (arith, B-long) in
        e1 ∙ ap (λ (t : List ℕ). written 0 t new) front ∙ written-fits 0 (head (length P.base) ++ B) new (omega (arith, at))
        ∙ ap (λ (n : ℕ). (head (length P.base) ++ B) ++ drop n new) at

    new_there : o3 ≡ written 0 (head k ++ C) new
    unfolding written patch_from
    new_there =
        let at : 0 + length (head k ++ C) ≡ entries_at F (bucket_count p) = omega (arith, C-long) in
        let put : o2 ≡ head (length P.base) ++ (C ++ q) =
        e2 ∙ ap₂ (λ (m : ℕ) (o : List ℕ). changed F (changes_from F m (drop changes_at d)) o) all old_there
        ∙ changed-bytes F (length (buckets_of P)) 0 D.changes (buckets_of P) (head (length P.base)) q refl refl fp.buckets fd.sized.changes (allowed_each P D fd.allows).0 in
        e3 ∙ ap (written 0 (head k)) put ∙ sym (written-fits 0 (head k ++ C) new (omega (arith, at)) ∙ ap (λ (n : ℕ). (head k ++ C) ++ drop n new) at)

    pub built : (es : List Entry) (o4 o5 : List ℕ) → es ≡ Q.base → k ≡ length es → o4 ≡ written (entries_at F (bucket_count p)) (bytes_of entry_record es) o3
        → o5 ≡ written (end_at F (bucket_count p) k) end_record o4 → o5 ≡ written 0 (applied F p d) new
    built es o4 o5 b l e4 e5 =
        let E : List ℕ = bytes_of entry_record Q.base in
        let n : k ≡ length Q.base = l ∙ ap length b in
        let C-ends : length (head k ++ C) ≡ entries_at F (bucket_count p) = omega (arith, C-long) in
        let E-long : length E ≡ k * entry_length =
        length-bytes entry_record entry_length Q.base (every (λ e f. (entry_back e f).0) Q.base new_fits.entries) ∙ ap (λ (j : ℕ). j * entry_length) (sym n) in
        let from : entries_at F (bucket_count p) ≡ 0 + entries_at F (bucket_count p) = omega arith in
        let put : o4 ≡ written (0 + entries_at F (bucket_count p)) E o3 = e4 ∙ ap₂ (λ (j : ℕ) (x : List Entry). written j (bytes_of entry_record x) o3) from b in
        let to : end_at F (bucket_count p) k ≡ 0 + entries_at F (bucket_count p) + k * entry_length = omega arith in
        e5 ∙ ap (λ (j : ℕ). written j end_record o4) to
        ∙ written_three 0 (entries_at F (bucket_count p)) (k * entry_length) (head k ++ C) E end_record new o3 o4 C-ends E-long new_there put
        ∙ ap (λ (x : List ℕ). written 0 x new) (ap (λ (j : ℕ). head j ++ (C ++ (E ++ end_record))) n ∙ sym new-bytes)
