-- Tables whose buckets are sound, and their numbers, at every number n of rows and r of solution words; words that come into the base list.
-- Assumes nothing.
use Prim.Native.Nat.{ℕ, suc, ◌+◌, ◌-◌, ◌≤◌, ◌<◌}
use native.Mathlib.Nat.{add-zero}
use native.Mathlib.Numerals.{add-one}
use native.Mathlib.Omega.{arith}
use mathlib.Core.Path.{◌≡◌, sym, ap, ap₂, ◌∙◌, subst, subst⁻¹}
use mathlib.Core.Bool.{true}
use mathlib.Core.List.{List, ◌∷◌}
use lib.Dec.{eqb}
use lib.ListN.{length, get_or, set, take, drop, length-set, drop_of_length-le}
use lib.Seq.{get_or-set_same, get_or-set_other}
use borrow.Author.Tests.{eqb-true, eqb-false, eq-eqb, le-leb}
use Rattle.lists.specs.Entries.{Entry, insert, insert_all}
use Rattle.lists.proofs.Tests.{cases, and_both}
use Rattle.lists.proofs.Entries.{insert-length}
use Rattle.bucket.specs.declared.Bucket.{Bucket}
use Rattle.bucket.specs.Bucket.{empty_bucket}
use Rattle.bucket_settle.specs.Settle.{SoundBucket}
use Rattle.model.specs.Model.{base_limit}
use Rattle.table.specs.Table.{Table, with_second, with_base, nth, bucket_of}
use Rattle.table.specs.Layout.{leading, buckets1_at, buckets2_at, base_count_at, header, in_range, pairs_from, base_pairs, numbers_of, bucket_place, table_from, length_of}
use Rattle.table.specs.Test.{shape_test}
use Rattle.table.proofs.Numbers.{ShapedTable, header_read, back, back_pairs, length-pairs_from, laid}
use Rattle.table_layout.proofs.Shape.{Flat, range, first-at, second_at, last_is, last_read}
use Rattle.table_base.specs.Base.{capacity, pairs_in, Pairs}
use Rattle.table_base.proofs.Shift.{capacity_of}
use Rattle.table_arrive.specs.Arrival.{Kept, FlatKept}

module _ (n r : ℕ) where
  abbrev AllSound : List Bucket → Type 0
  AllSound bs = (i : ℕ) → i < length bs → SoundBucket n r (nth n r bs i)

  set-sound : (bs : List Bucket) (i : ℕ) (b : Bucket) → AllSound bs → SoundBucket n r b → AllSound (set bs i b)
  set-sound bs i b f h j l =
      let k : j < length bs = subst (λ (m : ℕ). j < m) (length-set bs i b) l in
      cases (eqb j i)
      (λ t. let e = eqb-true j i t in
      subst⁻¹ (SoundBucket n r) (ap (nth n r (set bs i b)) e ∙ get_or-set_same bs i b (empty_bucket n r) (subst (λ (m : ℕ). m < length bs) e k)) h)
      (λ t. subst⁻¹ (SoundBucket n r) (get_or-set_other bs i j b (empty_bucket n r) (eqb-false j i t)) (f j k))

  module _ (T : Table) (h : Kept n r T) where
    pub kept-shaped : ShapedTable n r T
    kept-shaped = record {
      first = λ i l. let b = h.first i l in record { cols = b.sound.inverse.cols; sols = b.wide };
      second = λ i l. let b = h.second i l in record { cols = b.sound.inverse.cols; sols = b.wide };
      fits = h.short;
      totalled = h.totalled;
    }

    -- one bucket of level 2 is replaced by a sound one, or the base list by one that is not too long
    pub second-kept : (i : ℕ) (b : Bucket) → SoundBucket n r b → Kept n r (with_second T (set T.level2 i b))
    second-kept i b s = record {
      range = ap (in_range (length T.level1)) (length-set T.level2 i b) ∙ h.range;
      first = h.first;
      second = set-sound T.level2 i b h.second s;
      short = h.short;
      totalled = h.totalled;
    }

    pub base_kept : (es : List Entry) → length es ≤ base_limit → Kept n r (with_base T es)
    base_kept es l = record { range = h.range; first = h.first; second = h.second; short = l; totalled = h.totalled }

    -- its numbers give it back
    module _ (t : List ℕ) (q : t ≡ numbers_of T) where
      pub numbers_table : table_from n r t ≡ T
      numbers_table = ap (table_from n r) q ∙ back n r T kept-shaped

      pub numbers_kept : FlatKept n r t
      numbers_kept = record { table = subst⁻¹ (Kept n r) numbers_table h; numbers = ap numbers_of numbers_table ∙ sym q }

  -- ---- numbers

  module _ (t : List ℕ) (h : FlatKept n r t) where
    abbrev T : Table
    T = table_from n r t

    pub count0 : length T.base ≡ get_or t base_count_at 0
    count0 = (header_read n r t).2

    range_is : in_range (get_or t buckets1_at 0) (get_or t buckets2_at 0) ≡ true
    range_is = sym (ap₂ in_range (header_read n r t).0 (header_read n r t).1) ∙ h.table.range

    pub flat : Flat n r t
    flat = record {
      shape = record {
        range = range (get_or t buckets1_at 0) (get_or t buckets2_at 0) range_is;
        size = subst (λ (l : List ℕ). length l ≡ length_of n r (get_or l buckets1_at 0) (get_or l buckets2_at 0)) h.numbers (laid n r T (kept-shaped T h.table)).size;
      };
      whole = kept-shaped T h.table;
      numbers = h.numbers;
    }

    pub shape : shape_test n r t ≡ true
    unfolding shape_test
    shape = let e = flat.shape.size in and_both (le-leb leading (length t) (omega arith)) (and_both range_is (eq-eqb _ _ e))

    pub long : header ≤ length t
    long = omega (arith, flat.shape.size)

    -- the base list, from its place on
    pub last_pairs : (p : ℕ) → p ≡ bucket_place n r (get_or t buckets1_at 0 + get_or t buckets2_at 0) → Pairs base_limit (get_or t base_count_at 0) (take (length t - p) (drop p t))
    last_pairs p e = record { fits = subst (λ (k : ℕ). k ≤ base_limit) count0 h.table.short; rest = last_is n r t flat p e ∙ ap base_pairs (sym (last_read n r t flat p e)) }

    -- the bucket of v
    pub first-sound : (S : ℕ → ℕ) (v : ℕ) → SoundBucket n r (bucket_of n r S T.level1 v)
    first-sound S v = h.table.first _ (first-at n r t flat.shape S v)

    pub second-sound : (S : ℕ → ℕ) (v : ℕ) → SoundBucket n r (bucket_of n r S T.level2 v)
    second-sound S v = h.table.second _ (second_at n r t flat.shape S v)

-- ---- words that come into the base list one after the other, in its pairs

-- the pairs of a list of entries give it back
pub from_pairs : (k : ℕ) (es : List Entry) → length es ≡ k → pairs_from k (base_pairs es) ≡ es
from_pairs k es q = subst (λ (j : ℕ). pairs_from j (base_pairs es) ≡ es) q (back_pairs es _)

pub pairs_of : (k : ℕ) (es : List Entry) → length es ≡ k → k ≤ base_limit → Pairs base_limit k (base_pairs es)
pairs_of k es q l = record { fits = l; rest = ap base_pairs (sym (from_pairs k es q)) }

-- i of the words es are in, of which the pairs xs₀ held none
pub record Inserting (count : ℕ) (es : List Entry) (xs₀ xs : List ℕ) (i : ℕ) : Type 0 where
  pub pairs : Pairs base_limit (count + i) xs
  pub same : insert_all (drop i es) (pairs_from (count + i) xs) ≡ insert_all es (pairs_from count xs₀)

module _ (count : ℕ) (es : List Entry) (xs₀ : List ℕ) where
  pub inserting_starts : Pairs base_limit count xs₀ → Inserting count es xs₀ xs₀ 0
  inserting_starts h = record { pairs = subst⁻¹ (λ (k : ℕ). Pairs base_limit k xs₀) (add-zero count) h; same = ap (λ (k : ℕ). insert_all es (pairs_from k xs₀)) (add-zero count) }

  module _ (xs : List ℕ) (i : ℕ) (h : Inserting count es xs₀ xs i) where
    abbrev base : List Entry
    base = pairs_from (count + i) xs

    pub inserting_next : (e : Entry) (ys : List ℕ) → drop i es ≡ e ∷ drop (suc i) es → count + i < base_limit → ys ≡ pairs_in (capacity xs) (insert e base) → Inserting count es xs₀ ys (i + 1)
    inserting_next e ys d l p =
        let q : ys ≡ base_pairs (insert e base) = p ∙ ap (λ (m : ℕ). pairs_in m (insert e base)) (capacity_of h.pairs) in
        let n : length (insert e base) ≡ count + (i + 1) = omega (arith, insert-length e base, length-pairs_from (count + i) xs) in
        record {
          pairs = subst⁻¹ (Pairs base_limit (count + (i + 1))) q (pairs_of (count + (i + 1)) (insert e base) n (omega arith));
          same = ap (λ (zs : List ℕ). insert_all (drop (i + 1) es) (pairs_from (count + (i + 1)) zs)) q
              ∙ ap (insert_all (drop (i + 1) es)) (from_pairs (count + (i + 1)) (insert e base) n)
              ∙ ap (λ (j : ℕ). insert_all (drop j es) (insert e base)) (add-one i)
              ∙ sym (ap (λ (ds : List Entry). insert_all ds base) d)
              ∙ h.same;
        }

    pub inserting_ends : length es ≤ i → xs ≡ base_pairs (insert_all es (pairs_from count xs₀))
    inserting_ends l = h.pairs.rest ∙ ap base_pairs (ap (λ (ds : List Entry). insert_all ds base) (sym (drop_of_length-le es l)) ∙ h.same)
