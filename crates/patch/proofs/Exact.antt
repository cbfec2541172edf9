-- What is right was written: bytes that are wrong nowhere are those of the patch that they say, which fits the plane.
-- Assumes nothing.
use mathlib.Core.Path.{◌≡◌, sym, ap, ◌∙◌}
use mathlib.Core.Bool.{true}
use mathlib.Core.List.{List, ◌∷◌, ◌++◌, append_assoc}
use Prim.Native.Nat.{ℕ, ◌+◌, ◌*◌, ◌<◌}
use native.Mathlib.Omega.{arith}
use lib.Dec.{leb, ltb}
use lib.ListN.{length, get_or, drop, length-drop}
use lib.Seq.{drop-cons, drop-drop}
use Rattle.std.specs.Prelude.{Ok}
use Rattle.lists.specs.Entries.{Entry}
use Rattle.lists.proofs.Tests.{and_both}
use Rattle.codec.specs.Bytes.{to_bytes}
use Rattle.plane.specs.Record.{Format, bytes_of, word_bytes, word_from, bucket_length, bucket_bytes, bucket_from, entry_from, end_record}
use Rattle.plane.specs.Plane.{Plane, fits, whole, entry_allowed, end_wrong}
use Rattle.plane.specs.Fits.{Below, FitsEntry}
use Rattle.plane.proofs.Scan.{both, right, next, whole_length, end_parts}
use Rattle.plane.proofs.Exact.{AllBytes, bytes_drop, front, word-bytes, word_lt, bucket-body, bucket_fit, entry-body, entry_fit, fits-there, fits-allowed, fits-bytes, scan-allowed, scan-bytes, scan_fit, end-bytes}
use Rattle.patch.specs.Record.{sums_kind, sums_body, sums_record, change_length, change_record, change_from, change_records, gone_length, gone_record, gone_from, gone_records, new_length, new_record, new_records}
use Rattle.patch.specs.Patch.{Patch, patch_bytes, buckets_of}
use Rattle.patch.specs.Wrong.{change_allowed, next_index, gone_allowed, next_word, Filled, new_allowed, filled, unfilled, allowed, changes_at, changes_in, gone_at, gone_in, news_at, news_in, end_in, patch_from, changes_wrong, gone_wrong, news_wrong, patch_wrong_at}
use Rattle.patch.specs.Fits.{FitsChange, FitsPatch}

-- ---- each kind

module _ (F : Format) (n : ℕ) (s : ℕ) (p : List ℕ) (e : fits (change_records F) (change_allowed n) s p ≡ true) (b : AllBytes p) where
  there : 2 + word_bytes * F.words < length p
  there = omega (arith, fits-there (change_records F) (change_allowed n) s p e)

  tail-there : 1 + word_bytes * F.words < length (drop 1 p)
  tail-there = rw length-drop (omega (arith, there))

  change-bytes : change_record F (change_from F p) ++ drop (change_length F) p ≡ p
  change-bytes =
      fits-bytes (change_records F) (change_allowed n) s p e
      (ap (λ (l : List ℕ). get_or p 1 0 ∷ (bucket_bytes (bucket_from F (drop 1 p)) ++ l)) (sym (drop-drop (bucket_length F) 1 p))
      ∙ ap (λ (l : List ℕ). get_or p 1 0 ∷ l) (bucket-body F (drop 1 p) tail-there (bytes_drop 1 p b) ∙ drop-drop 1 1 p)
      ∙ sym (drop-cons p 1 0 (omega (arith, there))))

  change_fit : FitsChange F (change_from F p)
  change_fit =
      let a = both (leb s (get_or p 1 0)) _ (fits-allowed (change_records F) (change_allowed n) s p e) in
      bucket_fit F (drop 1 p) tail-there (bytes_drop 1 p b) (both (ltb (get_or p 1 0) n) _ a.1).1

module _ (base : List Entry) (s : ℕ) (p : List ℕ) (e : fits gone_records (gone_allowed base) s p ≡ true) (b : AllBytes p) where
  gone-there : word_bytes < length p
  gone-there = fits-there gone_records (gone_allowed base) s p e

  gone-bytes : gone_record (gone_from p) ++ drop gone_length p ≡ p
  gone-bytes =
      fits-bytes gone_records (gone_allowed base) s p e
      (ap (λ (l : List ℕ). to_bytes word_bytes (gone_from p) ++ l) (sym (drop-drop word_bytes 1 p)) ∙ word-bytes (drop 1 p) (rw length-drop (omega (arith, gone-there))) (bytes_drop 1 p b))

  gone_fit : Below word_bytes (gone_from p)
  gone_fit = word_lt (drop 1 p) (rw length-drop (omega (arith, gone-there))) (bytes_drop 1 p b)

module _ (gone : List ℕ) (s : Filled) (p : List ℕ) (e : fits new_records (new_allowed gone) s p ≡ true) (b : AllBytes p) where
  new-bytes : new_record (entry_from p) ++ drop new_length p ≡ p
  new-bytes = fits-bytes new_records (new_allowed gone) s p e (entry-body p (fits-there new_records (new_allowed gone) s p e) b)

  new_fit : FitsEntry (entry_from p)
  new_fit =
      entry_fit p (fits-there new_records (new_allowed gone) s p e) b s.least (both (entry_allowed s.least (entry_from p)) _ (fits-allowed new_records (new_allowed gone) s p e)).0

-- ---- the patch

module _ (F : Format) (P : Plane) (d : List ℕ) (e : patch_wrong_at F P d ≡ Ok tt) (b : AllBytes d) where
  pub record Parts : Type 0 where
    pub sums : whole sums_kind sums_body d ≡ true
    pub changes : changes_wrong F P d ≡ Ok tt
    pub gone : gone_wrong F P d ≡ Ok tt
    pub news : news_wrong F P d ≡ Ok tt
    pub end : end_wrong (end_in F d) (drop (end_in F d) d) ≡ Ok tt

  pub parts : Parts
  unfolding patch_wrong_at
  parts =
      let h = right (whole sums_kind sums_body d) _ 0 e in
      let n1 = next (changes_wrong F P d) _ h.1 in
      let n2 = next (gone_wrong F P d) _ n1.1 in
      let n3 = next (news_wrong F P d) _ n2.1 in
      record { sums = h.0; changes = n1.0; gone = n2.0; news = n3.0; end = n3.1 }

  abbrev D : Patch
  D = patch_from F d

  at-news : bytes_of new_record D.news ++ end_record ≡ drop (news_at F d) d
  unfolding news_wrong patch_from
  at-news =
      let f = end_parts (end_in F d) (drop (end_in F d) d) parts.end in
      rw (end-bytes (drop (end_in F d) d) f.0 f.1, ← drop-drop (news_in F d * new_length) (news_at F d) d)
      (scan-bytes new_records (new_allowed (patch_from F d).gone) filled (new-bytes (patch_from F d).gone) (unfilled P.base (patch_from F d).gone) (news_in F d) (news_at F d) (drop (news_at F d) d) parts.news (bytes_drop (news_at F d) d b))

  at-gone : bytes_of gone_record D.gone ++ (bytes_of new_record D.news ++ end_record) ≡ drop (gone_at F d) d
  unfolding gone_wrong patch_from
  at-gone =
      rw (at-news, ← drop-drop (gone_in F d * gone_length) (gone_at F d) d)
      (scan-bytes gone_records (gone_allowed P.base) next_word (gone-bytes P.base) 0 (gone_in F d) (gone_at F d) (drop (gone_at F d) d) parts.gone (bytes_drop (gone_at F d) d b))

  at_changes : bytes_of (change_record F) D.changes ++ (bytes_of gone_record D.gone ++ (bytes_of new_record D.news ++ end_record)) ≡ drop changes_at d
  unfolding changes_wrong patch_from
  at_changes =
      rw (at-gone, ← drop-drop (changes_in F d * change_length F) changes_at d)
      (scan-bytes (change_records F) (change_allowed (length (buckets_of P))) next_index (change-bytes F (length (buckets_of P))) 0 (changes_in F d) changes_at (drop changes_at d) parts.changes (bytes_drop changes_at d b))

  sums-there : sums_body < length d
  sums-there = whole_length sums_kind sums_body d parts.sums

  at-sums : sums_record D.old_sum D.new_sum ++ drop changes_at d ≡ d
  unfolding patch_from
  at-sums =
      let w2 : to_bytes word_bytes (word_from (drop 9 d)) ++ drop changes_at d ≡ drop 9 d =
      ap (λ (l : List ℕ). to_bytes word_bytes (word_from (drop 9 d)) ++ l) (sym (drop-drop word_bytes 9 d)) ∙ word-bytes (drop 9 d) (rw length-drop (omega (arith, sums-there))) (bytes_drop 9 d b) in
      let w1 : to_bytes word_bytes (word_from (drop 1 d)) ++ drop 9 d ≡ drop 1 d =
      ap (λ (l : List ℕ). to_bytes word_bytes (word_from (drop 1 d)) ++ l) (sym (drop-drop word_bytes 1 d)) ∙ word-bytes (drop 1 d) (rw length-drop (omega (arith, sums-there))) (bytes_drop 1 d b) in
      rw (append_assoc, w2, w1) (front sums_kind sums_body d parts.sums)

  -- the bytes are those of the patch that they say
  pub patch_written : patch_bytes F (patch_from F d) ≡ d
  unfolding patch_bytes
  patch_written = rw at_changes at-sums

  all-allowed : allowed P D ≡ true
  unfolding allowed changes_wrong gone_wrong news_wrong patch_from
  all-allowed =
      and_both (scan-allowed (change_records F) (change_allowed (length (buckets_of P))) next_index 0 (changes_in F d) changes_at (drop changes_at d) parts.changes)
      (and_both (scan-allowed gone_records (gone_allowed P.base) next_word 0 (gone_in F d) (gone_at F d) (drop (gone_at F d) d) parts.gone)
      (scan-allowed new_records (new_allowed D.gone) filled (unfilled P.base D.gone) (news_in F d) (news_at F d) (drop (news_at F d) d) parts.news))

  -- which fits
  pub patch_fits : FitsPatch F P (patch_from F d)
  unfolding patch_from changes_wrong gone_wrong news_wrong
  patch_fits = record {
    sized = record {
      old_sum = word_lt (drop 1 d) (rw length-drop (omega (arith, sums-there))) (bytes_drop 1 d b);
      new_sum = word_lt (drop (1 + word_bytes) d) (rw length-drop (omega (arith, sums-there))) (bytes_drop (1 + word_bytes) d b);
      changes = scan_fit (change_records F) (change_allowed (length (buckets_of P))) next_index (FitsChange F) (change_fit F (length (buckets_of P))) 0 (changes_in F d) changes_at (drop changes_at d) parts.changes (bytes_drop changes_at d b);
      gone = scan_fit gone_records (gone_allowed P.base) next_word (Below word_bytes) (gone_fit P.base) 0 (gone_in F d) (gone_at F d) (drop (gone_at F d) d) parts.gone (bytes_drop (gone_at F d) d b);
      news = scan_fit new_records (new_allowed (patch_from F d).gone) filled FitsEntry (new_fit (patch_from F d).gone) (unfilled P.base (patch_from F d).gone) (news_in F d) (news_at F d) (drop (news_at F d) d) parts.news (bytes_drop (news_at F d) d b);
    };
    allows = all-allowed;
  }
