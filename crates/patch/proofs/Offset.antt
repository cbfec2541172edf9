-- The check of a patch finds just the offset that order 1 means.
-- Assumes nothing.
use Prim.Native.Nat.{ℕ, zero, suc, ◌+◌}
use mathlib.Core.Path.{◌≡◌, refl, sym, ap, ap₂}
use mathlib.Core.Logic.{◌↔◌}
use mathlib.Core.Bool.{Bool, cond, not, ◌&&◌, and-true}
use mathlib.Core.List.{List, [], ◌∷◌, ◌++◌, map}
use lib.Dec.{leb, ltb, leb-zero}
use lib.ListN.{length}
use Rattle.std.specs.Prelude.{Result, Ok, Err}
use Rattle.lists.specs.Lists.{count_from}
use Rattle.lists.specs.Entries.{Entry, assignable, find}
use Rattle.bucket.specs.Bucket.{largest_bound}
use Rattle.model.specs.Model.{base_limit}
use Rattle.plane.specs.Record.{Format, word_bytes, entry_body, end_length}
use Rattle.plane.specs.Plane.{Plane, whole}
use Rattle.plane.specs.Offset.{Expected, expected_end}
use Rattle.plane.proofs.Offset.{found, more, found-append, found_exactly, found_nowhere, left_by, expected_at, scan-found, end-found}
use Rattle.patch.specs.Base.{is_there, among, enter}
use Rattle.patch.specs.Record.{sums_kind, sums_body, change_body, change_records, gone_kind, gone_records, new_kind, new_records}
use Rattle.patch.specs.Patch.{buckets_of}
use Rattle.patch.specs.Wrong.{change_allowed, next_index, gone_allowed, next_word, new_allowed, filled, unfilled, changes_at, changes_in, gone_at, gone_in, news_at, news_in, end_in, patch_from, changes_wrong, gone_wrong, news_wrong, patch_wrong_at}
use Rattle.patch.specs.Offset.{exceeds, change_place, change_at, expected_change, gone_place, gone_word, expected_gone, new_place, new_entry, base_after, expected_new, expected_patch, WrongPatchOffset, RightPatch}

module _ (F : Format) (P : Plane) (d : List ℕ) where
  abbrev gone : List ℕ
  gone = (patch_from F d).gone

  -- each record is the one that the scan expects
  change-same : (i : ℕ) → expected_at (change_records F) (change_allowed (length (buckets_of P))) next_index 0 changes_at d i ≡ expected_change F P d i
  change-same zero =
      ap (λ (b : Bool). record { at = change_place F 0; kind = F.change_kind; body = change_body F; allowed = b && (ltb (change_at F d 0).index (length (buckets_of P)) && leb (change_at F d 0).bucket.bound largest_bound) })
      (leb-zero (change_at F d 0).index)
  change-same (suc i) = refl

  gone_same : (i : ℕ) → expected_at gone_records (gone_allowed P.base) next_word 0 (gone_at F d) d i ≡ expected_gone F P d i
  gone_same zero =
      ap (λ (b : Bool). record { at = gone_place F d 0; kind = gone_kind; body = word_bytes; allowed = b && is_there (find (gone_word F d 0) P.base) })
      (leb-zero (gone_word F d 0))
  gone_same (suc i) = refl

  base_same : (i : ℕ) → (left_by new_records (new_allowed gone) filled (unfilled P.base gone) (news_at F d) d i).base ≡ base_after F P d i
  base_same zero = refl
  base_same (suc i) = ap (enter (new_entry F d i)) (base_same i)

  -- entry i, by whether it exceeds the one before and by the base list before it
  abbrev new_by : ℕ → Bool → List Entry → Expected
  new_by i b es = record {
    at = new_place F d i;
    kind = new_kind;
    body = entry_body;
    allowed = (b && assignable (new_entry F d i).plan) && (not (among (new_entry F d i).word gone) && leb (length (enter (new_entry F d i) es)) base_limit);
  }

  new_same : (i : ℕ) → expected_at new_records (new_allowed gone) filled (unfilled P.base gone) (news_at F d) d i ≡ expected_new F P d i
  new_same zero = ap (λ (b : Bool). new_by 0 b (base_after F P d 0)) (leb-zero (new_entry F d 0).word)
  new_same (suc i) = ap (new_by (suc i) (exceeds (λ j. (new_entry F d j).word) (suc i))) (base_same (suc i))

  abbrev end : ℕ
  end = end_in F d + end_length

  pub patch_found : patch_wrong_at F P d ≡ found d (expected_patch F P d) (more d end)
  unfolding patch_wrong_at changes_wrong gone_wrong news_wrong
  patch_found =
      let cs : List Expected = map (expected_change F P d) (count_from 0 (changes_in F d)) in
      let gs : List Expected = map (expected_gone F P d) (count_from 0 (gone_in F d)) in
      let ns : List Expected = map (expected_new F P d) (count_from 0 (news_in F d)) in
      let e : List Expected = expected_end (end_in F d) d ∷ [] in
      let o : Result (Unit {0}) ℕ = more d end in
      ap₂ (λ (b : Bool) (x : Result (Unit {0}) ℕ). cond b x (Err 0)) (sym (and-true (whole sums_kind sums_body d)))
      (rw (
        end-found (end_in F d) d,
        scan-found new_records (new_allowed gone) filled (unfilled P.base gone) (news_at F d) d (expected_new F P d) new_same (found d e o) (news_in F d),
        scan-found gone_records (gone_allowed P.base) next_word 0 (gone_at F d) d (expected_gone F P d) gone_same (found d ns (found d e o)) (gone_in F d),
        found-append d cs (gs ++ (ns ++ e)) o,
        found-append d gs (ns ++ e) o,
        found-append d ns e o,
      )
      (scan-found (change_records F) (change_allowed (length (buckets_of P))) next_index 0 changes_at d (expected_change F P d) change-same (found d gs (found d ns (found d e o))) (changes_in F d)))

  -- cause 12's offset, and none
  pub patch_offset_exactly : (at : ℕ) → (patch_wrong_at F P d ≡ Err at) ↔ WrongPatchOffset F P d at
  patch_offset_exactly at = rw patch_found (found_exactly d end at (expected_patch F P d))

  pub patch_nowhere_exactly : (patch_wrong_at F P d ≡ Ok tt) ↔ RightPatch F P d
  patch_nowhere_exactly = rw patch_found (found_nowhere d end (expected_patch F P d))
