-- Things read from bytes one after the other: how many, each by its place, one and those behind it.
-- Assumes nothing.
use mathlib.Core.Path.{◌≡◌, refl, sym, ap, ◌∙◌}
use mathlib.Core.List.{List, [], ◌∷◌, ◌++◌}
use Prim.Native.Nat.{ℕ, zero, suc, ◌+◌, ◌-◌, ◌*◌, ◌/◌, ◌≤◌, ◌<◌}
use native.Mathlib.Nat.{zero-mul, zero-add, suc-add, suc-mul, mod-lt, not-suc-le-zero, le_of_suc-le-suc, mul-div_cancel}
use native.Mathlib.Omega.{arith}
use borrow.Author.Tests.{lt-ltb, le-ltb}
use lib.Dec.{lit<, lit≤}
use lib.ListN.{length, get_or, take, drop, length-append, length-drop}
use lib.Seq.{drop-drop, drop_at, take-take, take_at, get_or-take, length-take-le}
use Rattle.std.specs.Prelude.{Some, None}
use Rattle.lists.proofs.Parts.{drop-take, drop_more, stretch}
use Rattle.gf2.specs.Vectors.{product}
use Rattle.hash.specs.Mix.{mix_of}
use Rattle.identifier.specs.Place.{thresholds, threshold_at, bucket_at}
use Rattle.plane.specs.Record.{Format, read_all, word_bytes, word_from, bucket_from, entry_from, entry_body, bucket_length, entry_length}
use Rattle.plane.specs.Lookup.{bucket_of, level_plan}
use Rattle.plane.specs.Right.{entries_read}

module _ {A : Type 0} (size : ℕ) (read : List ℕ → A) where
  pub length-read_all : (m : ℕ) (p : List ℕ) → length (read_all size read m p) ≡ m
  unfolding read_all
  length-read_all zero p = refl
  length-read_all (suc m) p = ap suc (length-read_all m (drop size p))

  pub get_d_read_all : (m i : ℕ) (p : List ℕ) (d : A) → i < m → get_or (read_all size read m p) i d ≡ read (drop (i * size) p)
  unfolding read_all
  get_d_read_all zero i p d h = absurd (not-suc-le-zero h)
  get_d_read_all (suc m) zero p d h = ap (λ (k : ℕ). read (drop k p)) {x = 0} {y = 0 * size} (omega arith)
  get_d_read_all (suc m) (suc i) p d h = rw (drop_more i size p) (get_d_read_all m i (drop size p) d (le_of_suc-le-suc h))

  -- more of them
  pub read_add : (a b : ℕ) (p : List ℕ) → read_all size read (a + b) p ≡ read_all size read a p ++ read_all size read b (drop (a * size) p)
  unfolding read_all
  read_add zero b p = rw (zero-add, zero-mul)
  read_add (suc a) b p = rw (suc-add, read_add a b (drop size p), drop_more a size p)

-- ---- records in a part of just their bytes

part-words : (r : ℕ) (p : List ℕ) → read_all word_bytes word_from r (take (word_bytes * r) p) ≡ read_all word_bytes word_from r p
unfolding read_all
part-words zero p = refl
part-words (suc r) p =
    let more : word_bytes * suc r ≡ word_bytes + word_bytes * r = omega arith in
    rw (more, take-take word_bytes (word_bytes + word_bytes * r) p (omega arith), drop-take word_bytes (word_bytes * r) p, part-words r (drop word_bytes p))

-- what is read depends on no byte after it
pub bucket-front : (F : Format) (p : List ℕ) → bucket_from F (take (bucket_length F) p) ≡ bucket_from F p
bucket-front F p =
    let size : bucket_length F ≡ 2 + word_bytes * F.words = omega arith in
    rw (size, get_or-take (2 + word_bytes * F.words) p 1 0 (omega arith), drop-take 2 (word_bytes * F.words) p, part-words F.words (drop 2 p))

pub entry-front : (p : List ℕ) → entry_from (take entry_length p) ≡ entry_from p
entry-front p =
    rw (drop-take 1 entry_body p, take-take word_bytes entry_body (drop 1 p) (lit≤ tt), get_or-take entry_length p entry_body 0 (lit< tt))

pub bucket-part : (F : Format) (at : ℕ) (p : List ℕ) → bucket_from F (take (at + (bucket_length F) - at) (drop at p)) ≡ bucket_from F (drop at p)
bucket-part F at p = rw (stretch at (bucket_length F) p) (bucket-front F (drop at p))

pub entry-part : (at : ℕ) (p : List ℕ) → entry_from (take (at + entry_length - at) (drop at p)) ≡ entry_from (drop at p)
entry-part at p = rw (stretch at entry_length p) (entry-front (drop at p))

module _ {A : Type 0} (size : ℕ) (read : List ℕ → A) (front : (p : List ℕ) → read (take size p) ≡ read p) where
  read_cut : (m : ℕ) (p : List ℕ) → read_all size read m (take (m * size) p) ≡ read_all size read m p
  unfolding read_all
  read_cut zero p = refl
  read_cut (suc m) p =
      let more : suc m * size ≡ size + m * size = rw suc-mul (omega arith) in
      rw (more, ← front (take (size + m * size) p), take-take size (size + m * size) p (omega arith), front p, drop-take size (m * size) p, read_cut m (drop size p))

  -- m things and nothing else
  pub read_part : (m at to : ℕ) (p : List ℕ) → 0 < size → to ≡ at + m * size → to ≤ length p
      → read_all size read (length (take (to - at) (drop at p)) / size) (take (to - at) (drop at p)) ≡ read_all size read m (drop at p)
  read_part m at to p h e l =
      let n : to - at ≡ m * size = omega arith in
      let all : length (take (m * size) (drop at p)) ≡ m * size = length-take-le (m * size) (drop at p) (rw length-drop (omega arith)) in
      rw (n, all, mul-div_cancel m h) (read_cut m (drop at p))

-- solution word i of a bucket
pub word_at : (F : Format) (i : ℕ) (p : List ℕ) → i < F.words → word_from (drop (2 + i * word_bytes) p) ≡ get_or (bucket_from F p).sols i 0
word_at F i p h = sym (get_d_read_all word_bytes word_from F.words i (drop 2 p) 0 h ∙ ap word_from (drop-drop (i * word_bytes) 2 p))

-- one entry and those behind it; none
pub entries_more : (x q : List ℕ) → length x ≡ entry_length → entries_read (x ++ q) ≡ entry_from x ∷ entries_read q
unfolding read_all
entries_more x q h =
    let all : length (x ++ q) / entry_length ≡ suc (length q / entry_length) = rw length-append (omega (arith, h)) in
    rw (all, ← entry-front (x ++ q), take_at x q entry_length h, drop_at x q entry_length h)

pub entries_none : (q : List ℕ) → length q < entry_length → entries_read q ≡ []
unfolding read_all
entries_none q h =
    let none : length q / entry_length ≡ 0 = omega arith in
    rw none

-- the bucket of v, of a level of m
pub level_bucket : (F : Format) (m v : ℕ) (p : List ℕ) → 0 < m
    → bucket_of (read_all (bucket_length F) (bucket_from F) m p) v ≡ bucket_from F (drop (bucket_at m (mix_of v) * (bucket_length F)) p)
level_bucket F m v p h =
    rw (length-read_all (bucket_length F) (bucket_from F) m p)
    (get_d_read_all (bucket_length F) (bucket_from F) m (bucket_at m (mix_of v)) p (record { bound = 0; sols = [] }) (mod-lt (mix_of v / thresholds) h))

module _ (F : Format) (m v at : ℕ) (p : List ℕ) (some : 0 < m) (e : at ≡ bucket_at m (mix_of v) * (bucket_length F)) where
  pub level_held : threshold_at (mix_of v) < get_or (drop at p) 1 0 → level_plan (read_all (bucket_length F) (bucket_from F) m p) v ≡ Some (product (bucket_from F (drop at p)).sols v)
  unfolding level_plan
  level_held h = rw (level_bucket F m v p some, ← e, lt-ltb (threshold_at (mix_of v)) (get_or (drop at p) 1 0) h)

  pub level_passed : get_or (drop at p) 1 0 ≤ threshold_at (mix_of v) → level_plan (read_all (bucket_length F) (bucket_from F) m p) v ≡ None
  unfolding level_plan
  level_passed h = rw (level_bucket F m v p some, ← e, le-ltb (threshold_at (mix_of v)) (get_or (drop at p) 1 0) h)
