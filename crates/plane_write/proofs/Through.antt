-- The plane of a table as the writer goes through it: all buckets in one row, then the base pairs.
-- Assumes nothing.
use mathlib.Core.Path.{◌≡◌, refl, sym, ap, ◌∙◌}
use mathlib.Core.List.{List, ◌++◌, map}
use Prim.Native.Nat.{ℕ, zero, suc, ◌+◌, ◌*◌, ◌≤◌, ◌<◌}
use native.Mathlib.Nat.{zero-add}
use native.Mathlib.Omega.{arith}
use borrow.Author.Tests.{lt-ltb, le-ltb}
use lib.ListN.{length, get_or, drop, length-map}
use lib.Seq.{drop-drop}
use Rattle.std.specs.Prelude.{Ok, Err}
use Rattle.lists.specs.Lists.{Every}
use Rattle.lists.proofs.Entries.{assignable_byte}
use Rattle.lists.proofs.Every.{every-at}
use Rattle.answer.specs.declared.Cause.TheVariants.{ShortOutput}
use Rattle.codec.specs.Parts.{written}
use Rattle.codec.proofs.Part.{written-fits, written-append}
use Rattle.bucket.specs.Bucket.{largest_bound}
use Rattle.bucket_words.specs.Words.{bucket_words}
use Rattle.table.specs.Layout.{buckets1_at, buckets2_at, base_count_at, header, level_from, pairs_from, bucket_place, table_from}
use Rattle.table.proofs.Numbers.{header_read}
use Rattle.plane.specs.Record.{Format, read_all, header_record}
use Rattle.plane.specs.Plane.{plane_bytes, buckets_at}
use Rattle.plane.specs.Fits.{FitsBucket, FitsEntry, Fits}
use Rattle.plane_write.specs.Write.{seen_of, plane_of, in_front, put_front}
use Rattle.plane_write.specs.Steps.{seen_from, pair_from, records_of}
use Rattle.plane.proofs.Read.{length-read_all, get_d_read_all, read_add}

-- ---- read one after the other

pub pairs_read : (k : ℕ) (xs : List ℕ) → pairs_from k xs ≡ read_all 2 pair_from k xs
unfolding read_all
pairs_read zero xs = refl
pairs_read (suc k) xs = rw (pairs_read k (drop 2 xs))

-- what holds of all of m things holds of thing i
pub each : {A : Type 0} (P : A → Type 0) (size : ℕ) (read : List ℕ → A) (m : ℕ) (xs : List ℕ) → Every P (read_all size read m xs) → (i : ℕ) → i < m → P (read (drop (i * size) xs))
each P size read m xs h i l =
    rw (get_d_read_all size read m i xs (read xs) l) at (every-at P (read xs) (read_all size read m xs) h i (rw (length-read_all size read m xs) l))

module _ (n : ℕ) (F : Format) where
  abbrev r : ℕ
  r = F.words

  level_read : (m : ℕ) (xs : List ℕ) → map seen_of (level_from n r m xs) ≡ read_all (bucket_words n r) (seen_from n r) m xs
  unfolding read_all
  level_read zero xs = refl
  level_read (suc m) xs = rw (level_read m (drop (bucket_words n r) xs))

  module _ (xs : List ℕ) where
    abbrev b1 : ℕ
    b1 = get_or xs buckets1_at 0

    abbrev b2 : ℕ
    b2 = get_or xs buckets2_at 0

    abbrev k : ℕ
    k = get_or xs base_count_at 0

    levels_read : map seen_of (table_from n r xs).level1 ++ map seen_of (table_from n r xs).level2 ≡ read_all (bucket_words n r) (seen_from n r) (b1 + b2) (drop header xs)
    unfolding table_from
    levels_read =
        let zero-place : bucket_place n r 0 ≡ header = omega arith in
        rw (zero-place, level_read b1 (drop header xs), level_read b2 (drop (bucket_place n r b1) xs), read_add (bucket_words n r) (seen_from n r) b1 b2 (drop header xs), drop-drop (b1 * bucket_words n r) header xs)

    base_read : (table_from n r xs).base ≡ read_all 2 pair_from k (drop (bucket_place n r (b1 + b2)) xs)
    unfolding table_from
    base_read = pairs_read k (drop (bucket_place n r (b1 + b2)) xs)

    pub plane-bytes : plane_bytes F (plane_of (table_from n r xs)) ≡ header_record F b1 b2 k ++ records_of n F (b1 + b2) k xs
    unfolding plane_bytes
    plane-bytes =
        rw (levels_read, length-map (table_from n r xs).level1 seen_of, length-map (table_from n r xs).level2 seen_of, (header_read n r xs).0, (header_read n r xs).1, (header_read n r xs).2, base_read)

    module _ (h : Fits F (plane_of (table_from n r xs))) where
      -- each bound is a byte
      pub bounds-low : (i : ℕ) → i < b1 + b2 → (seen_from n r (drop (i * bucket_words n r) (drop header xs))).bound ≤ largest_bound
      bounds-low i l = (each (FitsBucket F) (bucket_words n r) (seen_from n r) (b1 + b2) (drop header xs) (rw levels_read at h.buckets) i l).low

      pub plans-low : (i : ℕ) → i < k → (pair_from (drop (i * 2) (drop (bucket_place n r (b1 + b2)) xs))).plan < 256
      plans-low i l = assignable_byte _ (each FitsEntry 2 pair_from k (drop (bucket_place n r (b1 + b2)) xs) (rw base_read at h.entries) i l).plan

-- the header, then the records, in front of an output with room for them
pub front-put : (n : ℕ) (F : Format) (xs out o : List ℕ) → length (plane_bytes F (plane_of (table_from n F.words xs))) ≤ length out
    → o ≡ written buckets_at (records_of n F (get_or xs buckets1_at 0 + get_or xs buckets2_at 0) (get_or xs base_count_at 0) xs) (written 0 (header_record F (get_or xs buckets1_at 0) (get_or xs buckets2_at 0) (get_or xs base_count_at 0)) out)
    → o ≡ (in_front (plane_bytes F (plane_of (table_from n F.words xs))) out).output
front-put n F xs out o h e =
    e
    ∙ sym (written-append 0 (header_record F (get_or xs buckets1_at 0) (get_or xs buckets2_at 0) (get_or xs base_count_at 0)) (records_of n F (get_or xs buckets1_at 0 + get_or xs buckets2_at 0) (get_or xs base_count_at 0) xs) out)
    ∙ ap (λ (p : List ℕ). written 0 p out) (sym (plane-bytes n F xs))
    ∙ written-fits 0 (plane_bytes F (plane_of (table_from n F.words xs))) out (omega arith)
    ∙ rw zero-add refl

-- an output without room for the bytes, and one with room
module _ (bytes out : List ℕ) (n : ℕ) (e : n ≡ length bytes) where
  pub put-short : length out < n → (Err (ShortOutput n) ≡ (put_front bytes out).answer) × (out ≡ (put_front bytes out).output)
  put-short h = rw (e, lt-ltb (length out) (length bytes) (rw e at h)) (refl, refl)

  pub put-fits : (o : List ℕ) → n ≤ length out → o ≡ (in_front bytes out).output → (Ok n ≡ (put_front bytes out).answer) × (o ≡ (put_front bytes out).output)
  put-fits o h f = rw (e, le-ltb (length out) (length bytes) (rw e at h)) (refl, f)
