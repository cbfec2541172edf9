-- What is right was written: bytes that are wrong nowhere are those of the plane that they say, which fits.
-- Assumes nothing.
use mathlib.Core.Path.{◌≡◌, refl, sym, ap, ◌∙◌}
use mathlib.Core.Bool.{Bool, true}
use mathlib.Core.List.{List, [], ◌∷◌, ◌++◌, append_assoc}
use Prim.Native.Nat.{ℕ, zero, suc, ◌+◌, ◌*◌, ◌≤◌, ◌<◌}
use native.Mathlib.Nat.{zero-mul}
use native.Mathlib.Omega.{arith}
use borrow.Author.Tests.{leb-true, eqb-true}
use lib.Dec.{leb, eqb}
use lib.ListN.{length, get_or, take, drop, length-append, length-drop, take-append-drop}
use lib.Seq.{drop-cons, drop-drop, get_or-take, get_or-drop, length-take-le, take_all, take_at}
use Rattle.std.specs.Prelude.{Ok}
use Rattle.lists.specs.Entries.{Entry, Above, Ascending}
use Rattle.lists.proofs.Parts.{drop_more}
use Rattle.lists.specs.Lists.{Every}
use Rattle.codec.specs.Bytes.{to_bytes}
use Rattle.codec.proofs.Equal.{equal_eq}
use Rattle.codec.proofs.Round.{Bytes, to_from, from_bytes_lt}
use Rattle.bucket.specs.Bucket.{largest_bound}
use Rattle.model.specs.Model.{base_limit}
use Rattle.table.specs.Layout.{in_range}
use Rattle.plane.specs.Record.{Format, bucket_bytes, entry_bytes, end_length, Kind, size_of, record_of, bucket_records, entry_records, bytes_of, read_all, word_bytes, word_from, header_kind, header_body, header_record, bucket_body, bucket_record, bucket_from, entry_body, entry_record, entry_from, end_kind, end_body, end_bytes, end_record, bucket_length, entry_length}
use Rattle.plane.specs.Plane.{end_fits, fits, wrong_in, all_allowed, bound_allowed, entry_allowed, exceeding, buckets1, buckets2, bucket_count, base_count, plane_bytes, plane_from, buckets_at, whole, buckets_wrong, entries_wrong, wrong_at}
use Rattle.plane.specs.Fits.{Below, FitsBucket, FitsEntry, Fits}
use Rattle.plane.proofs.Scan.{both, right, whole_length, Right, parts, entries_in, end_in}
use Rattle.plane.proofs.Read.{length-read_all, read_add}

-- each is below 256
abbrev pub AllBytes : List ℕ → Type 0
AllBytes p = (i : ℕ) → get_or p i 0 < 256

pub bytes_drop : (n : ℕ) (p : List ℕ) → AllBytes p → AllBytes (drop n p)
bytes_drop n p b i = rw get_or-drop (b (n + i))

-- ---- things one after the other

module _ {A : Type 0} (f : A → List ℕ) (size : ℕ) (read : List ℕ → A) where
  -- one more, in front
  pub bytes-front : (m : ℕ) (p : List ℕ) → f (read p) ++ drop size p ≡ p → bytes_of f (read_all size read m (drop size p)) ++ drop (m * size) (drop size p) ≡ drop size p
      → bytes_of f (read_all size read (suc m) p) ++ drop (suc m * size) p ≡ p
  unfolding bytes_of read_all
  bytes-front m p e i =
      rw (drop_more m size p, append_assoc, i) e

  bytes_none : (p : List ℕ) → bytes_of f (read_all size read 0 p) ++ drop (0 * size) p ≡ p
  unfolding bytes_of read_all
  bytes_none p = rw zero-mul

-- ---- words

module _ (p : List ℕ) (n : word_bytes ≤ length p) (b : AllBytes p) where
  size : length (take word_bytes p) ≡ word_bytes
  size = length-take-le word_bytes p n

  bytes : Bytes (take word_bytes p)
  bytes i h = rw (get_or-take word_bytes p i 0 (omega (arith, size))) (b i)

  pub word-bytes : to_bytes word_bytes (word_from p) ++ drop word_bytes p ≡ p
  word-bytes = ap (λ (w : List ℕ). w ++ drop word_bytes p) (rw size at (to_from (take word_bytes p) bytes)) ∙ take-append-drop word_bytes p

  pub word_lt : Below word_bytes (word_from p)
  word_lt = rw size at (from_bytes_lt (take word_bytes p) bytes)

pub words-bytes : (r : ℕ) (p : List ℕ) → r * word_bytes ≤ length p → AllBytes p → bytes_of (to_bytes word_bytes) (read_all word_bytes word_from r p) ++ drop (r * word_bytes) p ≡ p
words-bytes zero p h b = bytes_none (to_bytes word_bytes) word_bytes word_from p
words-bytes (suc r) p h b =
    bytes-front (to_bytes word_bytes) word_bytes word_from r p (word-bytes p (omega arith) b)
    (words-bytes r (drop word_bytes p) (rw length-drop (omega arith)) (bytes_drop word_bytes p b))

pub words_lt : (r : ℕ) (p : List ℕ) → r * word_bytes ≤ length p → AllBytes p → Every (Below word_bytes) (read_all word_bytes word_from r p)
unfolding read_all
words_lt zero p h b = tt
words_lt (suc r) p h b = (word_lt p (omega arith) b, words_lt r (drop word_bytes p) (rw length-drop (omega arith)) (bytes_drop word_bytes p b))

-- ---- records

-- a record that is there starts with its kind
pub front : (kind body : ℕ) (p : List ℕ) → whole kind body p ≡ true → kind ∷ drop 1 p ≡ p
front kind body p e =
    let k : get_or p 0 0 ≡ kind = eqb-true (get_or p 0 0) kind (both (leb (1 + body) (length p)) _ e).1 in
    ap (λ (x : ℕ). x ∷ drop 1 p) (sym k) ∙ sym (drop-cons p 0 0 (omega (arith, whole_length kind body p e)))

-- a bucket after its kind byte
module _ (F : Format) (p : List ℕ) (there : bucket_body F < length p) (b : AllBytes p) where
  room : F.words * word_bytes ≤ length (drop 2 p)
  room = rw length-drop (omega arith)

  pub bucket-body : bucket_bytes (bucket_from F p) ++ drop (bucket_length F) p ≡ drop 1 p
  bucket-body =
      let n : bucket_length F ≡ 2 + F.words * word_bytes = omega arith in
      rw (n, ← drop-drop (F.words * word_bytes) 2 p, words-bytes F.words (drop 2 p) room (bytes_drop 2 p b)) (sym (drop-cons p 1 0 (omega arith)))

  -- so its bytes stand there
  pub bucket-taken : bucket_bytes (bucket_from F p) ≡ take (bucket_body F) (drop 1 p)
  bucket-taken =
      let n = ap length bucket-body ∙ length-drop 1 p in
      sym (take_at (bucket_bytes (bucket_from F p)) (drop (bucket_length F) p) (bucket_body F) (omega (arith, simp (length-append, length-drop) at n))) ∙ ap (take (bucket_body F)) bucket-body

  pub bucket_fit : leb (get_or p 1 0) largest_bound ≡ true → FitsBucket F (bucket_from F p)
  bucket_fit e = record {
    low = leb-true (get_or p 1 0) largest_bound e;
    wide = length-read_all word_bytes word_from F.words (drop 2 p);
    words = words_lt F.words (drop 2 p) room (bytes_drop 2 p b);
  }

-- an entry after its kind byte
module _ (p : List ℕ) (there : entry_body < length p) (b : AllBytes p) where
  pub entry-body : entry_bytes (entry_from p) ++ drop entry_length p ≡ drop 1 p
  entry-body =
      let plan : get_or p entry_body 0 ∷ drop entry_length p ≡ drop word_bytes (drop 1 p) = sym (drop-cons p entry_body 0 there) ∙ sym (drop-drop word_bytes 1 p) in
      rw (append_assoc, plan) (word-bytes (drop 1 p) (rw length-drop (omega arith)) (bytes_drop 1 p b))

  pub entry_fit : (least : ℕ) → entry_allowed least (entry_from p) ≡ true → FitsEntry (entry_from p)
  entry_fit least e = record { word = word_lt (drop 1 p) (rw length-drop (omega arith)) (bytes_drop 1 p b); plan = (both (leb least (entry_from p).word) _ e).1 }

-- a record with a value that is allowed: it is there, and starts with its kind
module _ {A S : Type 0} (k : Kind A) (allowed : S → A → Bool) (s : S) (p : List ℕ) (e : fits k allowed s p ≡ true) where
  pub fits-there : k.body < length p
  fits-there = whole_length k.number k.body p (both (whole k.number k.body p) _ e).0

  pub fits-allowed : allowed s (k.read p) ≡ true
  fits-allowed = (both (whole k.number k.body p) _ e).1

  pub fits-bytes : k.write (k.read p) ++ drop (size_of k) p ≡ drop 1 p → record_of k (k.read p) ++ drop (size_of k) p ≡ p
  fits-bytes h = ap (λ (l : List ℕ). k.number ∷ l) h ∙ front k.number k.body p (both (whole k.number k.body p) _ e).0

-- ---- records of one kind that are wrong nowhere

module _ {A S : Type 0} (k : Kind A) (allowed : S → A → Bool) (next : S → A → S) where
  -- their values are allowed
  pub scan-allowed : (s : S) (m at : ℕ) (p : List ℕ) → wrong_in k allowed next s m at p ≡ Ok tt → all_allowed allowed next s (read_all (size_of k) k.read m p) ≡ true
  unfolding read_all
  scan-allowed s zero at p e = refl
  scan-allowed s (suc m) at p e =
      let f = right (fits k allowed s p) _ at e in
      rw (both (whole k.number k.body p) _ f.0).1 (scan-allowed (next s (k.read p)) m (at + size_of k) (drop (size_of k) p) f.1)

  -- the bytes are those of the values
  pub scan-bytes : ((s : S) (p : List ℕ) → fits k allowed s p ≡ true → AllBytes p → record_of k (k.read p) ++ drop (size_of k) p ≡ p)
      → (s : S) (m at : ℕ) (p : List ℕ) → wrong_in k allowed next s m at p ≡ Ok tt → AllBytes p
      → bytes_of (record_of k) (read_all (size_of k) k.read m p) ++ drop (m * size_of k) p ≡ p
  scan-bytes one s zero at p e b = bytes_none (record_of k) (size_of k) k.read p
  scan-bytes one s (suc m) at p e b =
      let f = right (fits k allowed s p) _ at e in
      bytes-front (record_of k) (size_of k) k.read m p (one s p f.0 b)
      (scan-bytes one (next s (k.read p)) m (at + size_of k) (drop (size_of k) p) f.1 (bytes_drop (size_of k) p b))

  -- which fit
  pub scan_fit : (F : A → Type 0) → ((s : S) (p : List ℕ) → fits k allowed s p ≡ true → AllBytes p → F (k.read p))
      → (s : S) (m at : ℕ) (p : List ℕ) → wrong_in k allowed next s m at p ≡ Ok tt → AllBytes p → Every F (read_all (size_of k) k.read m p)
  unfolding read_all
  scan_fit F one s zero at p e b = tt
  scan_fit F one s (suc m) at p e b =
      let f = right (fits k allowed s p) _ at e in
      (one s p f.0 b, scan_fit F one (next s (k.read p)) m (at + size_of k) (drop (size_of k) p) f.1 (bytes_drop (size_of k) p b))

buckets_bytes : (F : Format) (m at : ℕ) (p : List ℕ) → buckets_wrong F m at p ≡ Ok tt → AllBytes p
    → bytes_of (bucket_record F) (read_all (bucket_length F) (bucket_from F) m p) ++ drop (m * bucket_length F) p ≡ p
unfolding buckets_wrong
buckets_bytes F = scan-bytes (bucket_records F) bound_allowed (λ s b. s)
    (λ s p e b. fits-bytes (bucket_records F) bound_allowed s p e (bucket-body F p (fits-there (bucket_records F) bound_allowed s p e) b)) tt

buckets_fit : (F : Format) (m at : ℕ) (p : List ℕ) → buckets_wrong F m at p ≡ Ok tt → AllBytes p → Every (FitsBucket F) (read_all (bucket_length F) (bucket_from F) m p)
unfolding buckets_wrong
buckets_fit F = scan_fit (bucket_records F) bound_allowed (λ s b. s) (FitsBucket F)
    (λ s p e b. bucket_fit F p (fits-there (bucket_records F) bound_allowed s p e) b (fits-allowed (bucket_records F) bound_allowed s p e)) tt

entries_bytes : (least k at : ℕ) (p : List ℕ) → entries_wrong least k at p ≡ Ok tt → AllBytes p
    → bytes_of entry_record (read_all entry_length entry_from k p) ++ drop (k * entry_length) p ≡ p
unfolding entries_wrong
entries_bytes =
    scan-bytes entry_records entry_allowed exceeding (λ s p e b. fits-bytes entry_records entry_allowed s p e (entry-body p (fits-there entry_records entry_allowed s p e) b))

entries_fit : (least k at : ℕ) (p : List ℕ) → entries_wrong least k at p ≡ Ok tt → AllBytes p → Every FitsEntry (read_all entry_length entry_from k p)
unfolding entries_wrong
entries_fit = scan_fit entry_records entry_allowed exceeding FitsEntry
    (λ s p e b. entry_fit p (fits-there entry_records entry_allowed s p e) b s (fits-allowed entry_records entry_allowed s p e))

-- each exceeds the one before
above_of : (w least : ℕ) (es : List Entry) → w < least → all_allowed entry_allowed exceeding least es ≡ true → Above w es
above_of w least [] h a = tt
above_of w least (e ∷ es) h a =
    let c = both (entry_allowed least e) _ a in
    let n : least ≤ e.word = leb-true least e.word (both (leb least e.word) _ c.0).0 in
    (omega arith, above_of w (suc e.word) es (omega arith) c.1)

pub ascending_of : (least : ℕ) (es : List Entry) → all_allowed entry_allowed exceeding least es ≡ true → Ascending es
ascending_of least [] a = tt
ascending_of least (e ∷ es) a =
    let c = both (entry_allowed least e) _ a in
    (above_of e.word (suc e.word) es (omega arith) c.1, ascending_of (suc e.word) es c.1)

-- the end
pub end-bytes : (q : List ℕ) → end_fits q ≡ true → length q ≡ end_length → end_record ≡ q
end-bytes q e n =
    let a = both (whole end_kind end_body q) _ e in
    let t : take end_body (drop 1 q) ≡ drop 1 q = take_all end_body (drop 1 q) (rw length-drop (omega arith)) in
    ap (λ (x : List ℕ). end_kind ∷ x) (sym (equal_eq (take end_body (drop 1 q)) end_bytes a.1) ∙ t) ∙ front end_kind end_body q a.0

-- ---- the plane

module _ (F : Format) (p : List ℕ) (e : wrong_at F p ≡ Ok tt) (b : AllBytes p) where
  abbrev s : ℕ
  s = bucket_length F

  h : Right F p
  h = parts F p e

  head_bytes : header_record F (buckets1 p) (buckets2 p) (base_count p) ++ drop buckets_at p ≡ p
  head_bytes =
      let a = both (whole header_kind header_body p) _ h.header in
      let there : header_body < length p = whole_length header_kind header_body p a.0 in
      let f : get_or p 1 0 ≡ F.number = eqb-true (get_or p 1 0) F.number (both (eqb (get_or p 1 0) F.number) _ a.1).0 in
      rw (← f, ← drop-cons p 4 0 (omega arith), ← drop-cons p 3 0 (omega arith), ← drop-cons p 2 0 (omega arith), ← drop-cons p 1 0 (omega arith)) (front header_kind header_body p a.0)

  -- the buckets of both levels stand one after the other
  pub buckets_read : (plane_from F p).level1 ++ (plane_from F p).level2 ≡ read_all s (bucket_from F) (bucket_count p) (drop buckets_at p)
  unfolding plane_from
  buckets_read = sym (read_add s (bucket_from F) (buckets1 p) (buckets2 p) (drop buckets_at p) ∙ rw drop-drop refl)

  pub buckets_length : length ((plane_from F p).level1 ++ (plane_from F p).level2) ≡ bucket_count p
  buckets_length = ap length buckets_read ∙ length-read_all s (bucket_from F) (bucket_count p) (drop buckets_at p)

  base-bytes : bytes_of entry_record (plane_from F p).base ++ end_record ≡ drop (entries_in F p) p
  unfolding plane_from
  base-bytes =
      rw (end-bytes (drop (end_in F p) p) h.end h.nothing, ← drop-drop (base_count p * entry_length) (entries_in F p) p)
      (entries_bytes 0 (base_count p) (entries_in F p) (drop (entries_in F p) p) h.entries (bytes_drop (entries_in F p) p b))

  pub length1 : length (plane_from F p).level1 ≡ buckets1 p
  unfolding plane_from
  length1 = length-read_all s (bucket_from F) (buckets1 p) _

  pub length2 : length (plane_from F p).level2 ≡ buckets2 p
  unfolding plane_from
  length2 = length-read_all s (bucket_from F) (buckets2 p) _

  length0 : length (plane_from F p).base ≡ base_count p
  unfolding plane_from
  length0 = length-read_all entry_length entry_from (base_count p) _

  -- the bytes are those of the plane that they say
  pub read_written : plane_bytes F (plane_from F p) ≡ p
  unfolding plane_bytes
  read_written =
      rw (base-bytes, buckets_read, ← drop-drop (bucket_count p * s) buckets_at p, buckets_bytes F (bucket_count p) buckets_at (drop buckets_at p) h.buckets (bytes_drop buckets_at p b), length1, length2, length0)
      head_bytes

  -- which fits
  pub read_fits : Fits F (plane_from F p)
  unfolding plane_from entries_wrong
  read_fits =
      let a = both (whole header_kind header_body p) _ h.header in
      let c = both (in_range (buckets1 p) (buckets2 p)) _ (both (eqb (get_or p 1 0) F.number) _ a.1).1 in
      record {
        range = rw (length1, length2) c.0;
        few = rw length0 (leb-true (base_count p) base_limit c.1);
        buckets = rw buckets_read (buckets_fit F (bucket_count p) buckets_at (drop buckets_at p) h.buckets (bytes_drop buckets_at p b));
        entries = entries_fit 0 (base_count p) (entries_in F p) (drop (entries_in F p) p) h.entries (bytes_drop (entries_in F p) p b);
        ascending = ascending_of 0 (plane_from F p).base (scan-allowed entry_records entry_allowed exceeding 0 (base_count p) (entries_in F p) (drop (entries_in F p) p) h.entries);
      }
