-- What the writer's steps ask for: bytes written one after the other.
-- Assumes nothing.
use mathlib.Core.Path.{◌≡◌, sym, ap, ◌∙◌}
use mathlib.Core.List.{List, [], ◌∷◌, ◌++◌, append-nil}
use Prim.Native.Nat.{ℕ, zero, suc, ◌+◌, ◌-◌, ◌*◌, ◌≤◌, ◌<◌}
use native.Mathlib.Nat.{suc-mul, add-zero}
use native.Mathlib.Numerals.{add-one}
use native.Mathlib.Omega.{arith}
use lib.ListN.{length, get_or, set, take, drop, length-append, length-drop}
use lib.Seq.{get_or-drop, take-suc, length-take-le}
use Rattle.lists.specs.Entries.{Entry}
use Rattle.lists.specs.Lists.{Every}
use Rattle.lists.proofs.Every.{mem_every}
use Rattle.lists.proofs.Parts.{stretch}
use Rattle.codec.specs.Bytes.{to_bytes}
use Rattle.codec.specs.Parts.{written}
use Rattle.codec.proofs.Part.{written_none, written-more, written-append, written_cons, written_three}
use Rattle.codec.proofs.Round.{length-to_bytes}
use Rattle.bucket_words.specs.Words.{bucket_words, bucket_from}
use Rattle.table.specs.Layout.{header, bucket_place}
use Rattle.table.proofs.Numbers.{from-part}
use Rattle.plane.specs.Record.{Format, bytes_of, read_all, word_bytes, bucket_record, entry_body, entry_bytes, entry_record, end_record, bucket_length, entry_length}
use Rattle.plane.specs.Plane.{buckets_at, entries_at, end_at}
use Rattle.plane.proofs.Read.{length-read_all, read_add}
use Rattle.plane_write.specs.Steps.{seen_from, pair_from, records_of}
use Rattle.plane.proofs.Round.{Sized, bytes-append, length-bytes}

-- the record of a base entry, once the byte of its kind and its word are there
pub entry-put : (kind a w plan : ℕ) (t l : List ℕ) → l ≡ written (a + 1) (to_bytes word_bytes w) (set t a kind)
    → set l (a + entry_body) plan ≡ written a (kind ∷ entry_bytes (record { word = w; plan = plan })) t
entry-put kind a w plan t l e =
    let n : a + entry_body ≡ a + 1 + length (to_bytes word_bytes w) = omega (arith, length-to_bytes word_bytes w) in
    rw (e, n) (sym (written-more (a + 1) plan (to_bytes word_bytes w) (set t a kind)) ∙ written_cons a kind (to_bytes word_bytes w ++ (plan ∷ [])) t)

-- one more thing after xs
module _ {A : Type 0} (f : A → List ℕ) (size : ℕ) where
  pub put_next : (xs : List A) (x : A) (a : ℕ) (t : List ℕ) → Every (Sized f size) xs
      → written (a + length xs * size) (f x) (written a (bytes_of f xs) t) ≡ written a (bytes_of f (xs ++ (x ∷ []))) t
  unfolding bytes_of
  put_next xs x a t h = rw (bytes-append f xs (x ∷ []), append-nil (f x), ← length-bytes f size xs h) (sym (written-append a (bytes_of f xs) (f x) t))

  pub read_none : (step : ℕ) (read : List ℕ → A) (a : ℕ) (p t : List ℕ) → t ≡ written a (bytes_of f (read_all step read 0 p)) t
  unfolding bytes_of read_all
  read_none step read a p t = sym (written_none a t)

  -- the first i of the things read from p are written
  pub read_next : (step : ℕ) (read : List ℕ → A) (i a : ℕ) (p t : List ℕ) → Every (Sized f size) (read_all step read i p)
      → written (a + i * size) (f (read (drop (i * step) p))) (written a (bytes_of f (read_all step read i p)) t) ≡ written a (bytes_of f (read_all step read (i + 1) p)) t
  unfolding read_all
  read_next step read i a p t h =
      rw (read_add step read i 1 p) (rw (length-read_all step read i p) at (put_next (read_all step read i p) (read (drop (i * step) p)) a t h))

words-sized : (xs : List ℕ) → Every (Sized (to_bytes word_bytes) word_bytes) xs
words-sized xs = mem_every _ xs (λ x m. length-to_bytes word_bytes x)

-- the words before i are written
pub words-next : (words : List ℕ) (i a : ℕ) (t : List ℕ) → i < length words
    → written (a + i * word_bytes) (to_bytes word_bytes (get_or words i 0)) (written a (bytes_of (to_bytes word_bytes) (take i words)) t)
    ≡ written a (bytes_of (to_bytes word_bytes) (take (i + 1) words)) t
words-next words i a t h =
    rw (add-one, take-suc words i 0 h)
    (rw (length-take-le i words (omega arith)) at (put_next (to_bytes word_bytes) word_bytes (take i words) (get_or words i 0) a t (words-sized (take i words))))

-- a bucket in a part of just its numbers
pub bucket-here : (n r k : ℕ) (xs : List ℕ) → bucket_from n r (take (k + bucket_words n r - k) (drop k xs)) ≡ bucket_from n r (drop k xs)
bucket-here n r k xs = rw (stretch k (bucket_words n r) xs) (from-part n r (drop k xs))

-- the length of the record of a bucket
bucket_size : (n : ℕ) (F : Format) (xs : List ℕ) → bucket_words n F.words ≤ length xs → Sized (bucket_record F) (bucket_length F) (seen_from n F.words xs)
unfolding bucket_from
bucket_size n F xs h =
    let l : length (take F.words (drop (n + 1) xs)) ≡ F.words = length-take-le F.words (drop (n + 1) xs) (rw length-drop (omega arith)) in
    omega (arith, length-bytes (to_bytes word_bytes) word_bytes (take F.words (drop (n + 1) xs)) (words-sized (take F.words (drop (n + 1) xs))))

pub buckets_sized : (n : ℕ) (F : Format) (i : ℕ) (xs : List ℕ) → i * bucket_words n F.words ≤ length xs → Every (Sized (bucket_record F) (bucket_length F)) (read_all (bucket_words n F.words) (seen_from n F.words) i xs)
unfolding read_all
buckets_sized n F zero xs h = tt
buckets_sized n F (suc i) xs h =
    let k : i * bucket_words n F.words + bucket_words n F.words ≤ length xs = rw (suc-mul i (bucket_words n F.words)) at h in
    (bucket_size n F xs (omega arith), buckets_sized n F i (drop (bucket_words n F.words) xs) (rw length-drop (omega arith)))

entries_sized : (es : List Entry) → Every (Sized entry_record entry_length) es
entries_sized es = mem_every _ es (λ e m. rw length-append (omega (arith, length-to_bytes word_bytes e.word)))

-- the next pair
pub entries_next : (i a : ℕ) (p t : List ℕ)
    → written (a + i * entry_length) (entry_record (record { word = get_or p (i * 2) 0; plan = get_or p (i * 2 + 1) 0 })) (written a (bytes_of entry_record (read_all 2 pair_from i p)) t)
    ≡ written a (bytes_of entry_record (read_all 2 pair_from (i + 1) p)) t
entries_next i a p t =
    rw (get_or-drop (i * 2) p 0 0, get_or-drop (i * 2) p 1 0, add-zero) at (read_next entry_record entry_length 2 pair_from i a p t (entries_sized (read_all 2 pair_from i p)))

pub records_put : (n : ℕ) (F : Format) (m k : ℕ) (t out o1 o2 o3 : List ℕ) → bucket_place n F.words m + k * 2 ≤ length t
    → o1 ≡ written buckets_at (bytes_of (bucket_record F) (read_all (bucket_words n F.words) (seen_from n F.words) m (drop header t))) out
    → o2 ≡ written (entries_at F m) (bytes_of entry_record (read_all 2 pair_from k (drop (bucket_place n F.words m) t))) o1
    → o3 ≡ written (end_at F m k) end_record o2 → o3 ≡ written buckets_at (records_of n F m k t) out
records_put n F m k t out o1 o2 o3 h e f g =
    let bs = read_all (bucket_words n F.words) (seen_from n F.words) m (drop header t) in
    let es = read_all 2 pair_from k (drop (bucket_place n F.words m) t) in
    g
    ∙ written_three buckets_at (m * bucket_length F) (k * entry_length) (bytes_of (bucket_record F) bs) (bytes_of entry_record es) end_record out o1 o2
    (length-bytes (bucket_record F) (bucket_length F) bs (buckets_sized n F m (drop header t) (rw length-drop (omega arith))) ∙ ap (λ (i : ℕ). i * bucket_length F) (length-read_all (bucket_words n F.words) (seen_from n F.words) m (drop header t)))
    (length-bytes entry_record entry_length es (entries_sized es) ∙ ap (λ (i : ℕ). i * entry_length) (length-read_all 2 pair_from k (drop (bucket_place n F.words m) t)))
    e f
