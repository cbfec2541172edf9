-- What a table of the right shape has where, and what one bucket or the base list changes, at every number n of rows and r of solution words and for any mix S.
-- Assumes nothing.
use Prim.Native.Nat.{ℕ, suc, ◌+◌, ◌-◌, ◌*◌, ◌≤◌, ◌<◌}
use native.Mathlib.Nat.{add-mul, mod-lt, mul-le-mul_right}
use native.Mathlib.Omega.{arith}
use mathlib.Core.Path.{◌≡◌, sym, ap, ap₂, ◌∙◌, subst⁻¹}
use mathlib.Core.Bool.{true, ◌&&◌}
use mathlib.Core.List.{List, ◌++◌, append-nil}
use lib.Dec.{leb}
use lib.ListN.{length, get_or, set, take, drop, length-append, length-drop, take-append-drop, drop_of_length-le}
use lib.Seq.{get_or-drop, drop-drop, length-take-le}
use borrow.Author.Tests.{leb-true}
use borrow.Rule.Slice.PartMut.{put_mid}
use Rattle.lists.specs.Entries.{Entry}
use Rattle.lists.proofs.Parts.{rest, stretch}
use Rattle.lists.proofs.Tests.{and_one, and_two}
use Rattle.bucket.specs.declared.Bucket.{Bucket}
use Rattle.bucket_words.specs.Words.{bucket_words, words_of, bucket_from}
use Rattle.bucket_words.proofs.Words.{words-from}
use Rattle.table.specs.Table.{Table, with_first, with_second, with_base, nth, index, put, bucket_of}
use Rattle.table.specs.Layout.{buckets1_at, buckets2_at, base_count_at, most_buckets1, most_buckets2, base_numbers, longest, in_range, pairs_from, base_pairs, numbers_of, bucket_place, length_of, table_from}
use Rattle.table.specs.Test.{shape_test}
use Rattle.table.proofs.Numbers.{ShapedTable, length-base, drop-base, from-part, header_read, read_first, read_second, write_first, write_second, write_base}
use Rattle.table.proofs.Calls.{shape_range, shape_size}

-- bucket numbers in range
pub record Range (b1 b2 : ℕ) : Type 0 where
  pub low1 : 1 ≤ b1
  pub high1 : b1 ≤ most_buckets1
  pub low2 : 1 ≤ b2
  pub high2 : b2 ≤ most_buckets2

pub range : (b1 b2 : ℕ) → in_range b1 b2 ≡ true → Range b1 b2
range b1 b2 e =
    let p : (leb 1 b1 && leb b1 most_buckets1) ≡ true = and_one _ _ e in
    let q : (leb 1 b2 && leb b2 most_buckets2) ≡ true = and_two (leb 1 b1 && leb b1 most_buckets1) _ e in
    record {
      low1 = leb-true 1 b1 (and_one _ _ p);
      high1 = leb-true b1 most_buckets1 (and_two (leb 1 b1) _ p);
      low2 = leb-true 1 b2 (and_one _ _ q);
      high2 = leb-true b2 most_buckets2 (and_two (leb 1 b2) _ q);
    }

-- ---- places: how many words a bucket has stays a product here, and no proof computes with it

-- no place is past that of the last bucket of the longest table
pub place-low : (n r : ℕ) {i : ℕ} → i ≤ most_buckets1 + most_buckets2 → bucket_place n r i ≤ bucket_place n r (most_buckets1 + most_buckets2)
place-low n r h = let k = mul-le-mul_right (bucket_words n r) h in omega arith

-- a loop that goes on by w numbers: those of one bucket, then those of the others
pub one_more_lem : (w at : ℕ) {m i l : ℕ} → i < m → at + (m - i) * w ≤ l → at + w + (m - (i + 1)) * w ≤ l
one_more_lem w at {m} {i} h k =
    let e : m - i ≡ suc (m - (i + 1)) = omega arith in
    let f : (m - i) * w ≡ w + (m - (i + 1)) * w = rw e (omega arith) in
    omega arith

module _ (n r : ℕ) (xs : List ℕ) where
  abbrev b1 : ℕ
  b1 = get_or xs buckets1_at 0

  abbrev b2 : ℕ
  b2 = get_or xs buckets2_at 0

  abbrev T : Table
  T = table_from n r xs

  -- the right shape
  pub record Shape : Type 0 where
    pub range : Range (get_or xs buckets1_at 0) (get_or xs buckets2_at 0)
    pub size : length xs ≡ length_of n r (get_or xs buckets1_at 0) (get_or xs buckets2_at 0)

  -- the bound of the bucket at a place
  pub bound_is : (p : ℕ) → (bucket_from n r (drop p xs)).bound ≡ get_or xs (p + (n + 1 + r)) 0
  unfolding bucket_from
  bound_is p = get_or-drop p xs (n + 1 + r) 0

  -- a bucket is read from its own stretch
  pub part-bucket : (p : ℕ) → bucket_from n r (take (p + bucket_words n r - p) (drop p xs)) ≡ bucket_from n r (drop p xs)
  part-bucket p = ap (bucket_from n r) (stretch p (bucket_words n r) xs) ∙ from-part n r (drop p xs)

  -- and stored there it changes nothing
  pub stored_same : (p : ℕ) → p + bucket_words n r ≤ length xs → take p xs ++ (words_of (bucket_from n r (drop p xs)) ++ drop (p + bucket_words n r) xs) ≡ xs
  stored_same p l =
      ap (λ (ys : List ℕ). take p xs ++ (words_of (bucket_from n r (drop p xs)) ++ ys)) (sym (drop-drop (bucket_words n r) p xs))
      ∙ ap (λ (ys : List ℕ). take p xs ++ ys) (words-from n r (drop p xs) (omega (arith, length-drop p xs))) ∙ take-append-drop p xs

  module _ (s : Shape) where
    pub not_longer : length xs ≤ longest n r
    not_longer = let k = s.range in let l : (b1 + b2) * bucket_words n r ≤ (most_buckets1 + most_buckets2) * bucket_words n r = mul-le-mul_right (bucket_words n r) (omega arith) in omega (arith, s.size)

    -- the words of bucket i are in the table
    pub bucket_in : (i : ℕ) → i < b1 + b2 → bucket_place n r i + bucket_words n r ≤ length xs
    bucket_in i l =
        let h : suc i * bucket_words n r ≤ (b1 + b2) * bucket_words n r = mul-le-mul_right (bucket_words n r) l in
        let e : suc i * bucket_words n r ≡ i * bucket_words n r + bucket_words n r = omega arith in
        omega (arith, s.size)

    -- the words of each level are in the table
    pub levels_in : (bucket_place n r b1 ≤ length xs) × (bucket_place n r b1 + b2 * bucket_words n r ≤ length xs)
    levels_in = let e = add-mul b1 b2 (bucket_words n r) in (omega (arith, s.size), omega (arith, s.size))

    module _ (S : ℕ → ℕ) (v : ℕ) where
      -- v's bucket is one of its level's
      pub first_lt : index S b1 v < b1
      first_lt = mod-lt _ s.range.low1

      pub second_lt : index S b2 v < b2
      second_lt = mod-lt _ s.range.low2

      pub first-at : index S (length T.level1) v < length T.level1
      first-at = subst⁻¹ (λ (m : ℕ). index S m v < m) (header_read n r xs).0 first_lt

      pub second_at : index S (length T.level2) v < length T.level2
      second_at = subst⁻¹ (λ (m : ℕ). index S m v < m) (header_read n r xs).1 second_lt

      -- at its place, where its words are in the table
      module _ (p : ℕ) (e : p ≡ bucket_place n r (index S b1 v)) where
        pub first_in : p + bucket_words n r ≤ length xs
        first_in = omega (arith, bucket_in (index S b1 v) (omega (arith, first_lt)))

        pub first-here : bucket_from n r (drop p xs) ≡ bucket_of n r S T.level1 v
        first-here = ap (λ (k : ℕ). bucket_from n r (drop k xs)) e ∙ sym (ap (λ (m : ℕ). nth n r T.level1 (index S m v)) (header_read n r xs).0 ∙ read_first n r xs (index S b1 v) first_lt)

      module _ (p : ℕ) (e : p ≡ bucket_place n r (b1 + index S b2 v)) where
        pub second_in : p + bucket_words n r ≤ length xs
        second_in = omega (arith, bucket_in (b1 + index S b2 v) (omega (arith, second_lt)))

        pub second-here : bucket_from n r (drop p xs) ≡ bucket_of n r S T.level2 v
        second-here = ap (λ (k : ℕ). bucket_from n r (drop k xs)) e ∙ sym (ap (λ (m : ℕ). nth n r T.level2 (index S m v)) (header_read n r xs).1 ∙ read_second n r xs (index S b2 v) second_lt)

  -- ---- numbers that are those of their table

  pub record Flat : Type 0 where
    pub shape : Shape
    pub whole : ShapedTable n r T
    pub numbers : numbers_of T ≡ xs

  module _ (h : Flat) where
    -- another bucket is stored in the place of v's
    module _ (S : ℕ → ℕ) (v p : ℕ) where
      pub first_stored : p ≡ bucket_place n r (index S b1 v) → (b : Bucket) → take p xs ++ (words_of b ++ drop (p + bucket_words n r) xs) ≡ numbers_of (with_first T (put S T.level1 v b))
      first_stored e b =
          ap₂ (λ (k : ℕ) (l : List ℕ). take k l ++ (words_of b ++ drop (k + bucket_words n r) l)) (e ∙ sym (ap (λ (m : ℕ). bucket_place n r (index S m v)) (header_read n r xs).0)) (sym h.numbers)
          ∙ sym (write_first n r T h.whole (index S (length T.level1) v) b (first-at h.shape S v))

      pub second_stored : p ≡ bucket_place n r (b1 + index S b2 v) → (b : Bucket) → take p xs ++ (words_of b ++ drop (p + bucket_words n r) xs) ≡ numbers_of (with_second T (put S T.level2 v b))
      second_stored e b =
          ap₂ (λ (k : ℕ) (l : List ℕ). take k l ++ (words_of b ++ drop (k + bucket_words n r) l))
          (e ∙ sym (ap₂ (λ (i m : ℕ). bucket_place n r (i + index S m v)) (header_read n r xs).0 (header_read n r xs).1)) (sym h.numbers)
          ∙ sym (write_second n r T h.whole (index S (length T.level2) v) b (second_at h.shape S v))

    -- the base list, from its place on
    module _ (p : ℕ) (e : p ≡ bucket_place n r (b1 + b2)) where
      place_is : p ≡ bucket_place n r (length T.level1 + length T.level2)
      place_is = e ∙ sym (ap₂ (λ (a b : ℕ). bucket_place n r (a + b)) (header_read n r xs).0 (header_read n r xs).1)

      abbrev last : List ℕ
      last = take (length xs - p) (drop p xs)

      pub place_le : p ≤ length xs
      place_le = omega (arith, h.shape.size)

      pub last_is : last ≡ base_pairs T.base
      last_is = rest p xs ∙ ap₂ (λ (k : ℕ) (l : List ℕ). drop k l) place_is (sym h.numbers) ∙ drop-base n r T h.whole

      pub last_read : pairs_from (get_or xs base_count_at 0) last ≡ T.base
      unfolding table_from
      last_read = ap (pairs_from (get_or xs base_count_at 0)) (rest p xs ∙ ap (λ (k : ℕ). drop k xs) e)

      pub last-length : length last ≡ base_numbers
      last-length = ap (λ (l : List ℕ). length l) last_is ∙ length-base T.base h.whole.fits

      -- written anew, and its count
      pub last_room : (ys : List ℕ) → base_count_at < length (put_mid p (length xs - p) xs ys)
      last_room ys = omega (arith, length-append (take p xs) (ys ++ drop (length xs - p) (drop p xs)), length-take-le p xs place_le)

      pub last-put : (es : List Entry) (ys : List ℕ) (k : ℕ) → ys ≡ base_pairs es → k ≡ length es → set (put_mid p (length xs - p) xs ys) base_count_at k ≡ numbers_of (with_base T es)
      last-put es ys k q l =
          ap₂ (λ (zs : List ℕ) (j : ℕ). set (take p xs ++ zs) base_count_at j)
          (ap₂ (λ (zs ws : List ℕ). zs ++ ws) q (drop_of_length-le (drop p xs) {i = length xs - p} (omega (arith, length-drop p xs))) ∙ append-nil (base_pairs es)) l
          ∙ ap₂ (λ (j : ℕ) (l : List ℕ). set (take j l ++ base_pairs es) base_count_at (length es)) place_is (sym h.numbers)
          ∙ sym (write_base n r T h.whole es)

pub shape : {n r : ℕ} {xs : List ℕ} → shape_test n r xs ≡ true → Shape n r xs
shape {n} {r} {xs} e = record { range = range _ _ (shape_range n r xs e); size = shape_size n r xs e }
