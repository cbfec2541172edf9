-- What is written is read again: the bytes of a patch whose values are within their bytes say that patch, and are wrong nowhere for a plane that allows it.
-- Assumes nothing.
use mathlib.Core.Path.{◌≡◌, refl, sym, ap, ◌∙◌}
use mathlib.Core.Bool.{Bool, true}
use mathlib.Core.List.{List, [], ◌∷◌, ◌++◌, append_assoc}
use Prim.Native.Nat.{ℕ, zero, suc, ◌+◌, ◌*◌, ◌≤◌}
use native.Mathlib.Nat.{le-mul_of_pos_right}
use native.Mathlib.Omega.{arith}
use borrow.Author.Tests.{le-leb, eq-eqb, ne_eqb}
use lib.ListN.{length, get_or, drop, length-append, length-drop}
use lib.Seq.{drop_at, drop-drop}
use Rattle.std.specs.Prelude.{Ok}
use Rattle.codec.specs.Bytes.{to_bytes}
use Rattle.codec.proofs.Equal.{equal_refl}
use Rattle.codec.proofs.Round.{length-to_bytes}
use Rattle.plane.specs.Record.{Format, bytes_of, read_all, word_bytes, word_from, Kind, size_of, record_of, entry_from, end_bytes, end_record, end_length}
use Rattle.plane.specs.Plane.{Plane, whole, wrong_in, all_allowed, end_wrong}
use Rattle.plane.specs.Fits.{Below}
use Rattle.plane.proofs.Scan.{end_right}
use Rattle.lists.specs.Lists.{Every}
use Rattle.lists.proofs.Every.{every}
use Rattle.plane.proofs.Round.{Back, length-bytes, read_back, word_back, bucket_back, entry_back, scan_right}
use Rattle.patch.specs.Record.{sums_kind, sums_body, sums_record, Change, change_length, change_record, change_from, change_records, gone_kind, gone_length, gone_record, gone_from, gone_records, new_length, new_record, new_records, OwnKind}
use Rattle.patch.specs.Patch.{Patch, patch_bytes, buckets_of}
use Rattle.patch.specs.Wrong.{change_allowed, next_index, gone_allowed, next_word, new_allowed, filled, unfilled, allowed, run, changes_at, changes_in, gone_at, gone_in, news_at, news_in, end_in, patch_from, changes_wrong, gone_wrong, news_wrong, patch_wrong_at}
use Rattle.patch.specs.Fits.{FitsChange, Sized}
use Rattle.patch.proofs.Applied.{allowed_each}

-- ---- records that stand together

module _ {A : Type 0} (k : Kind A) where
  -- they start with their kind, or there are none
  first_not : (n : ℕ) (xs : List A) (q : List ℕ) → (k.number ≡ n → ⊥) → (get_or q 0 0 ≡ n → ⊥) → get_or (bytes_of (record_of k) xs ++ q) 0 0 ≡ n → ⊥
  unfolding bytes_of
  first_not n [] q h g e = g e
  first_not n (x ∷ xs) q h g e = h e

  -- how many there are
  run_back : (m : ℕ) (xs : List A) (q : List ℕ) → length xs ≤ m → (get_or q 0 0 ≡ k.number → ⊥) → Every (λ x. length (record_of k x) ≡ size_of k) xs
      → run k.number (size_of k) m (bytes_of (record_of k) xs ++ q) ≡ length xs
  unfolding run bytes_of
  run_back zero [] q l n h = refl
  run_back (suc m) [] q l n h = rw (ne_eqb (get_or q 0 0) k.number n)
  run_back zero (x ∷ xs) q l n h = absurd (omega arith)
  run_back (suc m) (x ∷ xs) q l n h =
      rw (eq-eqb k.number k.number refl, append_assoc (record_of k x) (bytes_of (record_of k) xs) q, drop_at (record_of k x) (bytes_of (record_of k) xs ++ q) (size_of k) h.0)
      (ap suc (run_back m xs q (omega arith) n h.1))

  -- those that stand at the offset `at` of d, before q: their bytes, how many, where they end, and that they are read and right
  module _ (xs : List A) (b : Every (Back (record_of k) (size_of k) k.read) xs) where
    long : length (bytes_of (record_of k) xs) ≡ length xs * size_of k
    long = length-bytes (record_of k) (size_of k) xs (every (λ x f. f.0) xs b)

    module _ (d : List ℕ) (at : ℕ) (q : List ℕ) (h : drop at d ≡ bytes_of (record_of k) xs ++ q) where
      count_at : (get_or q 0 0 ≡ k.number → ⊥) → run k.number (size_of k) (length d) (drop at d) ≡ length xs
      count_at n =
          let l = ap length h ∙ length-append (bytes_of (record_of k) xs) q in
          let m : length xs ≤ length xs * size_of k = le-mul_of_pos_right (length xs) (omega arith) in
          ap (run k.number (size_of k) (length d)) h ∙ run_back (length d) xs q (omega (arith, long, length-drop at d)) n (every (λ x f. f.0) xs b)

      module _ (n : ℕ) (e : n ≡ length xs) where
        past : drop (at + n * size_of k) d ≡ q
        past = sym (drop-drop (n * size_of k) at d) ∙ rw (h, e) (drop_at (bytes_of (record_of k) xs) q (length xs * size_of k) long)

        read_at : read_all (size_of k) k.read n (drop at d) ≡ xs
        read_at = rw (e, h) (read_back (record_of k) (size_of k) k.read xs q b)

        right_at : {S : Type 0} (allowed : S → A → Bool) (next : S → A → S) (s : S) → all_allowed allowed next s xs ≡ true → wrong_in k allowed next s n at (drop at d) ≡ Ok tt
        right_at allowed next s a = rw (e, h) (scan_right k allowed next s xs q at b a)

-- ---- each kind

pub change_back : (F : Format) (c : Change) → FitsChange F c → Back (change_record F) (change_length F) (change_from F) c
change_back F c h =
    let b = bucket_back F c.bucket h in
    (omega (arith, b.0), λ q i. record { index = c.index; bucket = b.1 q i })

gone_back : (w : ℕ) → Below word_bytes w → Back gone_record gone_length gone_from w
gone_back w h = (ap suc (word_back w h).0, λ q. (word_back w h).1 q)

-- ---- the patch

module _ (F : Format) (own : OwnKind F) (D : Patch) (h : Sized F D) where
  abbrev d : List ℕ
  d = patch_bytes F D

  abbrev C : List ℕ
  C = bytes_of (change_record F) D.changes

  abbrev G : List ℕ
  G = bytes_of gone_record D.gone

  abbrev N : List ℕ
  N = bytes_of new_record D.news

  C-back : Every (Back (change_record F) (change_length F) (change_from F)) D.changes
  C-back = every (change_back F) D.changes h.changes

  G-back : Every (Back gone_record gone_length gone_from) D.gone
  G-back = every gone_back D.gone h.gone

  N-back : Every (Back new_record new_length entry_from) D.news
  N-back = every entry_back D.news h.news

  sums-length : length (sums_record D.old_sum D.new_sum) ≡ changes_at
  sums-length = rw (length-append, length-to_bytes, length-to_bytes)

  -- the bytes of each part
  total : length d ≡ changes_at + (length C + (length G + (length N + end_length)))
  unfolding patch_bytes
  total = rw (length-append, length-append, length-append, length-append, length-append, length-to_bytes, length-to_bytes)

  at_changes : drop changes_at d ≡ C ++ (G ++ (N ++ end_record))
  unfolding patch_bytes
  at_changes = drop_at (sums_record D.old_sum D.new_sum) (C ++ (G ++ (N ++ end_record))) changes_at sums-length

  changes-in : changes_in F d ≡ length D.changes
  unfolding changes_in
  changes-in =
      count_at (change_records F) D.changes C-back d changes_at (G ++ (N ++ end_record)) at_changes
      (first_not gone_records F.change_kind D.gone (N ++ end_record) (λ e. own.0 (sym e)) (first_not new_records F.change_kind D.news end_record (λ e. own.1.0 (sym e)) (λ e. own.1.1 (sym e))))

  at-gone : drop (gone_at F d) d ≡ G ++ (N ++ end_record)
  at-gone = past (change_records F) D.changes C-back d changes_at (G ++ (N ++ end_record)) at_changes (changes_in F d) changes-in

  gone-in : gone_in F d ≡ length D.gone
  unfolding gone_in
  gone-in = count_at gone_records D.gone G-back d (gone_at F d) (N ++ end_record) at-gone (first_not new_records gone_kind D.news end_record (λ e. omega (arith, e)) (λ e. omega (arith, e)))

  at-news : drop (news_at F d) d ≡ N ++ end_record
  at-news = past gone_records D.gone G-back d (gone_at F d) (N ++ end_record) at-gone (gone_in F d) gone-in

  news-in : news_in F d ≡ length D.news
  unfolding news_in
  news-in = count_at new_records D.news N-back d (news_at F d) end_record at-news (λ e. omega (arith, e))

  at-end : drop (end_in F d) d ≡ end_record
  at-end = past new_records D.news N-back d (news_at F d) end_record at-news (news_in F d) news-in

  -- the length of a patch
  pub patch_bytes-length : length d ≡ changes_at + length D.changes * change_length F + length D.gone * gone_length + length D.news * new_length + end_length
  patch_bytes-length = omega (arith, total, long (change_records F) D.changes C-back, long gone_records D.gone G-back, long new_records D.news N-back)

  sum1 : word_from (drop 1 d) ≡ D.old_sum
  unfolding patch_bytes
  sum1 =
      let q : List ℕ = C ++ (G ++ (N ++ end_record)) in
      ap word_from (append_assoc (to_bytes word_bytes D.old_sum) (to_bytes word_bytes D.new_sum) q) ∙ (word_back D.old_sum h.old_sum).1 (to_bytes word_bytes D.new_sum ++ q)

  sum2 : word_from (drop (1 + word_bytes) d) ≡ D.new_sum
  unfolding patch_bytes
  sum2 =
      let q : List ℕ = C ++ (G ++ (N ++ end_record)) in
      ap (λ (l : List ℕ). word_from (drop word_bytes l)) (append_assoc (to_bytes word_bytes D.old_sum) (to_bytes word_bytes D.new_sum) q)
      ∙ ap word_from (drop_at (to_bytes word_bytes D.old_sum) (to_bytes word_bytes D.new_sum ++ q) word_bytes (length-to_bytes word_bytes D.old_sum)) ∙ (word_back D.new_sum h.new_sum).1 q

  -- the patch that was written is read
  pub patch_read : patch_from F d ≡ D
  unfolding patch_from
  patch_read =
      let e1 = read_at (change_records F) D.changes C-back d changes_at (G ++ (N ++ end_record)) at_changes (changes_in F d) changes-in in
      let e2 = read_at gone_records D.gone G-back d (gone_at F d) (N ++ end_record) at-gone (gone_in F d) gone-in in
      let e3 = read_at new_records D.news N-back d (news_at F d) end_record at-news (news_in F d) news-in in
      λ i. record { old_sum = sum1 i; new_sum = sum2 i; changes = e1 i; gone = e2 i; news = e3 i }

  starts : whole sums_kind sums_body d ≡ true
  unfolding patch_bytes
  starts = rw (le-leb (1 + sums_body) (length d) (omega (arith, total)))

  -- and is wrong nowhere for a plane that allows it
  module _ (P : Plane) (a : allowed P D ≡ true) where
    changes_right : changes_wrong F P d ≡ Ok tt
    unfolding changes_wrong
    changes_right =
        right_at (change_records F) D.changes C-back d changes_at (G ++ (N ++ end_record)) at_changes (changes_in F d) changes-in (change_allowed (length (buckets_of P))) next_index 0 (allowed_each P D a).0

    gone_right : gone_wrong F P d ≡ Ok tt
    unfolding gone_wrong
    gone_right = right_at gone_records D.gone G-back d (gone_at F d) (N ++ end_record) at-gone (gone_in F d) gone-in (gone_allowed P.base) next_word 0 (allowed_each P D a).1.0

    news_right : news_wrong F P d ≡ Ok tt
    unfolding news_wrong
    news_right =
        rw patch_read
        (right_at new_records D.news N-back d (news_at F d) end_record at-news (news_in F d) news-in (new_allowed D.gone) filled (unfilled P.base D.gone) (allowed_each P D a).1.1)

    end_is : end_wrong (end_in F d) (drop (end_in F d) d) ≡ Ok tt
    end_is = end_right (end_in F d) (drop (end_in F d) d) (rw (at-end, equal_refl end_bytes)) (ap length at-end)

    pub patch_right : patch_wrong_at F P d ≡ Ok tt
    unfolding patch_wrong_at
    patch_right = rw (starts, changes_right, gone_right, news_right) end_is
