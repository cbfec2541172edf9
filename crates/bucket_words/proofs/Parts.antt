-- The words of a part as a bucket is stored: columns, then mark, then solutions, then bound; at every number of rows and of solution words.
-- Assumes nothing.
use mathlib.Core.Path.{◌≡◌, ◌∙◌}
use mathlib.Core.List.{List, [], ◌∷◌, ◌++◌, append_assoc}
use Prim.Native.Nat.{ℕ, suc, ◌+◌}
use native.Mathlib.Numerals.{add-one}
use native.Mathlib.Omega.{arith}
use lib.ListN.{length, get_or, set, drop, length-append, drop_of_length-le}
use lib.Seq.{drop-cons, drop-drop, set_at, take_at, drop_at}
use borrow.Rule.Slice.PartMut.{put_mid}
use Rattle.bucket.specs.declared.Bucket.{Bucket}
use Rattle.bucket_words.specs.Words.{bucket_words, words_of, Shaped}

module _ {n r : ℕ} (t : List ℕ) {b : Bucket} (ht : length t ≡ bucket_words n r) (h : Shaped n r b) where
  -- the words of the part once the mark is written, and once the solutions are
  abbrev marked : List ℕ
  marked = set (b.cols ++ drop n t) n b.mark

  abbrev solved : List ℕ
  solved = put_mid (n + 1) r marked b.sols

  abbrev front : List ℕ
  front = b.cols ++ b.mark ∷ []

  length_front : length front ≡ n + 1
  length_front = simp length-append (omega arith)

  marked_is : marked ≡ front ++ drop (n + 1) t
  marked_is = rw (drop-cons t n 0 (omega arith), set_at b.cols _ _ b.mark n h.cols, add-one, append_assoc b.cols (b.mark ∷ []))

  solved_is : solved ≡ (front ++ b.sols) ++ drop (n + 1 + r) t
  solved_is =
      rw (marked_is, take_at front (drop (n + 1) t) (n + 1) length_front, drop_at front (drop (n + 1) t) (n + 1) length_front, drop-drop r (n + 1) t, append_assoc front b.sols)

  -- where the part has the bound, it is stored once the solutions are
  pub written : b.bound ≡ get_or t (n + 1 + r) 0 → solved ≡ words_of b
  unfolding words_of
  written e =
      solved_is ∙ rw (drop-cons t (n + 1 + r) 0 (omega arith), drop_of_length-le t {i = suc (n + 1 + r)} (omega arith), ← e) (simp append_assoc)
