-- What is written is read again: the bytes of a plane that fits are wrong nowhere, have the length of a plane, and say that plane.
-- Assumes nothing.
use mathlib.Core.Path.{◌≡◌, refl, sym, ap, ap₂, ◌∙◌}
use mathlib.Core.Bool.{Bool, true}
use mathlib.Core.List.{List, [], ◌∷◌, ◌++◌, append_assoc}
use Prim.Native.Nat.{ℕ, suc, ◌+◌, ◌*◌, ◌≤◌}
use native.Mathlib.Nat.{suc-mul, zero-mul}
use native.Mathlib.Omega.{arith}
use borrow.Author.Tests.{le-leb, eq-eqb}
use lib.ListN.{length, drop, length-append}
use lib.Seq.{take_at, drop_at, get_or_at, drop-append-add, drop-drop}
use Rattle.std.specs.Prelude.{Ok}
use Rattle.lists.specs.Entries.{Entry, Above, Ascending}
use Rattle.lists.specs.Lists.{Every}
use Rattle.lists.proofs.Every.{every, every_split}
use Rattle.codec.specs.Bytes.{from_bytes, to_bytes}
use Rattle.codec.proofs.Equal.{equal_refl}
use Rattle.codec.proofs.Round.{length-to_bytes, from_to}
use Rattle.bucket.specs.Bucket.{largest_bound}
use Rattle.model.specs.Model.{base_limit}
use Rattle.plane.specs.Record.{Format, Kind, size_of, record_of, bucket_records, entry_records, bytes_of, read_all, word_bytes, word_from, header_body, header_record, PlaneBucket, bucket_record, bucket_from, entry_record, entry_from, end_bytes, end_record, bucket_length, entry_length}
use Rattle.plane.specs.Plane.{wrong_in, all_allowed, bound_allowed, entry_allowed, exceeding, Plane, plane_bytes, plane_from, buckets_at, entries_at, end_at, plane_length, buckets_wrong, entries_wrong, wrong_at}
use Rattle.plane.proofs.Scan.{both, scan-next, Right, nowhere}
use Rattle.plane.specs.Fits.{Below, FitsBucket, FitsEntry, Fits}

-- ---- things one after the other

module _ {A : Type 0} (f : A → List ℕ) where
  pub bytes-append : (xs ys : List A) → bytes_of f (xs ++ ys) ≡ bytes_of f xs ++ bytes_of f ys
  unfolding bytes_of
  bytes-append [] ys = refl
  bytes-append (x ∷ xs) ys = rw (bytes-append xs ys, append_assoc (f x) (bytes_of f xs) (bytes_of f ys))

  module _ (size : ℕ) where
    -- things of `size` bytes each
    abbrev pub Sized : A → Type 0
    Sized x = length (f x) ≡ size

    pub length-bytes : (xs : List A) → Every Sized xs → length (bytes_of f xs) ≡ length xs * size
    unfolding bytes_of
    length-bytes [] h = sym (zero-mul size)
    length-bytes (x ∷ xs) h = rw (length-append, h.0, length-bytes xs h.1, suc-mul) (omega arith)

    module _ (read : List ℕ → A) where
      -- that are read again, whatever follows
      abbrev pub Back : A → Type 0
      Back x = Sized x × ((q : List ℕ) → read (f x ++ q) ≡ x)

      pub read_back : (xs : List A) (q : List ℕ) → Every Back xs → read_all size read (length xs) (bytes_of f xs ++ q) ≡ xs
      unfolding bytes_of read_all
      read_back [] q h = refl
      read_back (x ∷ xs) q h =
          rw (append_assoc (f x) (bytes_of f xs) q, h.0.1 (bytes_of f xs ++ q), drop_at (f x) (bytes_of f xs ++ q) size h.0.0, read_back xs q h.1)

-- ---- each kind of thing

pub word_back : (x : ℕ) → Below word_bytes x → Back (to_bytes word_bytes) word_bytes word_from x
word_back x h =
    (length-to_bytes word_bytes x, λ q. ap from_bytes (take_at (to_bytes word_bytes x) q word_bytes (length-to_bytes word_bytes x)) ∙ from_to word_bytes x h)

-- the solution words of a bucket that fits
words_back : (F : Format) (b : PlaneBucket) → FitsBucket F b → Every (Back (to_bytes word_bytes) word_bytes word_from) b.sols
words_back F b h = every word_back b.sols h.words

pub bucket_back : (F : Format) (b : PlaneBucket) → FitsBucket F b → Back (bucket_record F) (bucket_length F) (bucket_from F) b
bucket_back F b h = (
  omega (arith, length-bytes (to_bytes word_bytes) word_bytes b.sols (every (λ x k. k.0) b.sols (words_back F b h)), h.wide),
  λ q. ap (λ (s : List ℕ). record { bound = b.bound; sols = s }) (rw (← h.wide) (read_back (to_bytes word_bytes) word_bytes word_from b.sols q (words_back F b h))),
)

pub entry_back : (e : Entry) → FitsEntry e → Back entry_record entry_length entry_from e
entry_back e h =
    let t : List ℕ = to_bytes word_bytes e.word in
    let n : length t ≡ word_bytes = length-to_bytes word_bytes e.word in (
      rw length-append (omega arith),
      λ q. rw append_assoc (ap₂ (λ (w p : ℕ). record { word = w; plan = p }) ((word_back e.word h.word).1 (e.plan ∷ q)) (get_or_at t e.plan q 0 word_bytes n)),
    )

-- ---- the check of what is written

-- records of one kind that are read again, with allowed values, are wrong nowhere
module _ {A S : Type 0} (k : Kind A) (allowed : S → A → Bool) (next : S → A → S) where
  pub scan_right : (s : S) (xs : List A) (q : List ℕ) (at : ℕ) → Every (Back (record_of k) (size_of k) k.read) xs → all_allowed allowed next s xs ≡ true
      → wrong_in k allowed next s (length xs) at (bytes_of (record_of k) xs ++ q) ≡ Ok tt
  unfolding bytes_of
  scan_right s [] q at h a = refl
  scan_right s (x ∷ xs) q at h a =
      let rest : List ℕ = bytes_of (record_of k) xs ++ q in
      let c = both (allowed s x) (all_allowed allowed next (next s x) xs) a in
      let n : size_of k ≤ length (record_of k x ++ rest) = rw (length-append (record_of k x) rest) (omega (arith, h.0.0)) in
      let v : k.read (record_of k x ++ rest) ≡ x = h.0.1 rest in
      ap (wrong_in k allowed next s (suc (length xs)) at) (append_assoc (record_of k x) (bytes_of (record_of k) xs) q)
      ∙ scan-next k allowed next s (length xs) at (record_of k x ++ rest)
      (rw (le-leb (size_of k) (length (record_of k x ++ rest)) n, eq-eqb k.number k.number refl, v, c.0))
      (rw (v, drop_at (record_of k x) rest (size_of k) h.0.0) (scan_right (next s x) xs q (at + size_of k) h.1 c.1))

bounds-allowed : (F : Format) (bs : List PlaneBucket) → Every (FitsBucket F) bs → all_allowed bound_allowed (λ s b. s) tt bs ≡ true
bounds-allowed F [] h = refl
bounds-allowed F (b ∷ bs) h = rw (le-leb b.bound largest_bound h.0.low) (bounds-allowed F bs h.1)

-- the first word is at least `least`
abbrev pub From : ℕ → List Entry → Type 0
From least [] = Unit {0}
From least (e ∷ es) = least ≤ e.word

from_above : (w : ℕ) (es : List Entry) → Above w es → From (suc w) es
from_above w [] h = tt
from_above w (e ∷ es) h = h.0

pub from_zero : (es : List Entry) → From 0 es
from_zero [] = tt
from_zero (e ∷ es) = omega arith

pub ascending_allowed : (least : ℕ) (es : List Entry) → Every FitsEntry es → Ascending es → From least es → all_allowed entry_allowed exceeding least es ≡ true
ascending_allowed least [] h a f = refl
ascending_allowed least (e ∷ es) h a f =
    rw (le-leb least e.word f, h.0.plan) (ascending_allowed (suc e.word) es h.1 a.1 (from_above e.word es a.0))

-- ---- the plane

module _ (F : Format) (P : Plane) (h : Fits F P) where
  abbrev m : ℕ
  m = length P.level1 + length P.level2

  abbrev k : ℕ
  k = length P.base

  abbrev B : List ℕ
  B = bytes_of (bucket_record F) (P.level1 ++ P.level2)

  abbrev E : List ℕ
  E = bytes_of entry_record P.base

  length-B : length B ≡ m * bucket_length F
  length-B =
      length-bytes (bucket_record F) (bucket_length F) (P.level1 ++ P.level2) (every (λ b f. (bucket_back F b f).0) (P.level1 ++ P.level2) h.buckets)
      ∙ ap (λ (n : ℕ). n * bucket_length F) (length-append P.level1 P.level2)

  length-E : length E ≡ k * entry_length
  length-E = length-bytes entry_record entry_length P.base (every (λ e f. (entry_back e f).0) P.base h.entries)

  at_entries : drop (entries_at F m) (plane_bytes F P) ≡ E ++ end_record
  unfolding plane_bytes
  at_entries =
      drop-append-add (header_record F (length P.level1) (length P.level2) k) (B ++ (E ++ end_record)) (m * bucket_length F)
      ∙ drop_at B (E ++ end_record) (m * bucket_length F) length-B

  at-end : drop (end_at F m k) (plane_bytes F P) ≡ end_record
  at-end = sym (drop-drop (k * entry_length) (entries_at F m) (plane_bytes F P)) ∙ ap (drop (k * entry_length)) at_entries ∙ drop_at E end_record (k * entry_length) length-E

  -- document 01's length of a plane
  pub plane-length : length (plane_bytes F P) ≡ plane_length F m k
  unfolding plane_bytes
  plane-length = rw (length-append, length-append, length-append, length-B, length-E) (omega arith)

  right : Right F (plane_bytes F P)
  unfolding plane_bytes buckets_wrong entries_wrong
  right = record {
    header = rw (le-leb (1 + header_body) (length (plane_bytes F P)) (omega arith), eq-eqb F.number F.number refl, h.range, le-leb k base_limit h.few);
    buckets = rw (← length-append P.level1 P.level2)
        (scan_right (bucket_records F) bound_allowed (λ s b. s) tt (P.level1 ++ P.level2) (E ++ end_record) buckets_at (every (bucket_back F) (P.level1 ++ P.level2) h.buckets) (bounds-allowed F (P.level1 ++ P.level2) h.buckets));
    entries = rw at_entries
        (scan_right entry_records entry_allowed exceeding 0 P.base end_record (entries_at F m) (every entry_back P.base h.entries) (ascending_allowed 0 P.base h.entries h.ascending (from_zero P.base)));
    end = rw (at-end, equal_refl end_bytes);
    nothing = ap length at-end;
  }

  pub written_right : wrong_at F (plane_bytes F P) ≡ Ok tt
  written_right = nowhere F (plane_bytes F P) right

  two : Every (FitsBucket F) P.level1 × Every (FitsBucket F) P.level2
  two = every_split (FitsBucket F) P.level1 P.level2 h.buckets

  split : B ++ (E ++ end_record) ≡ bytes_of (bucket_record F) P.level1 ++ (bytes_of (bucket_record F) P.level2 ++ (E ++ end_record))
  split = rw (bytes-append (bucket_record F) P.level1 P.level2, append_assoc)

  at_second : drop (entries_at F (length P.level1)) (plane_bytes F P) ≡ bytes_of (bucket_record F) P.level2 ++ (E ++ end_record)
  unfolding plane_bytes
  at_second =
      let n : ℕ = length P.level1 * bucket_length F in
      drop-append-add (header_record F (length P.level1) (length P.level2) k) (B ++ (E ++ end_record)) n
      ∙ rw split
      (drop_at (bytes_of (bucket_record F) P.level1) (bytes_of (bucket_record F) P.level2 ++ (E ++ end_record)) n
      (length-bytes (bucket_record F) (bucket_length F) P.level1 (every (λ b f. (bucket_back F b f).0) P.level1 two.0)))

  -- the plane that was written is read
  pub written_read : plane_from F (plane_bytes F P) ≡ P
  unfolding plane_bytes plane_from
  written_read =
      let level : (bs : List PlaneBucket) (q : List ℕ) → Every (FitsBucket F) bs → read_all (bucket_length F) (bucket_from F) (length bs) (bytes_of (bucket_record F) bs ++ q) ≡ bs =
      λ bs q f. read_back (bucket_record F) (bucket_length F) (bucket_from F) bs q (every (bucket_back F) bs f) in
      rw (at_second, at_entries, split, level P.level1 (bytes_of (bucket_record F) P.level2 ++ (E ++ end_record)) two.0, level P.level2 (E ++ end_record) two.1)
      (rw (read_back entry_record entry_length entry_from P.base end_record (every entry_back P.base h.entries)))
