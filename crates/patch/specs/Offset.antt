-- Cause 12's offset, "in the patch as 10 gives it", without the scan: the records that the bytes d must have as a patch for the plane P, each with
-- its offset, and what is allowed in it. `patch_wrong_at` finds just this offset: proofs/Offset.antt. F is the format of the planes.
-- Assumes nothing.
use Rattle.std.specs.Prelude.{ℕ, zero, suc, ◌+◌, ◌*◌, Bool, true, not, ◌&&◌, List, [], ◌∷◌, ◌++◌, map, leb, ltb, length, drop}
use Rattle.lists.specs.Lists.{count_from}
use Rattle.lists.specs.Entries.{Entry, assignable, find}
use Rattle.bucket.specs.Bucket.{largest_bound}
use Rattle.model.specs.Model.{base_limit}
use Rattle.plane.specs.Record.{Format, word_bytes, entry_body, entry_from, end_length}
use Rattle.plane.specs.Plane.{Plane}
use Rattle.plane.specs.Offset.{Expected, FirstWrong, NoneWrong, expected_end}
use Rattle.patch.specs.Base.{is_there, among, remove_all, enter}
use Rattle.patch.specs.Record.{sums_kind, sums_body, Change, change_body, change_length, change_from, gone_kind, gone_length, gone_from, new_kind, new_length}
use Rattle.patch.specs.Patch.{buckets_of}
use Rattle.patch.specs.Wrong.{changes_at, changes_in, gone_at, gone_in, news_at, news_in, end_in, patch_from}

-- "strictly ascending": number i exceeds the one before
abbrev pub exceeds : (ℕ → ℕ) → ℕ → Bool
exceeds f zero = true
exceeds f (suc i) = ltb (f i) (f (suc i))

-- kind 5 at the front
abbrev pub expected_sums : Expected
expected_sums = record { at = 0; kind = sums_kind; body = sums_body; allowed = true }

-- where change i starts, and what it says
abbrev pub change_place : Format → ℕ → ℕ
change_place F i = changes_at + i * change_length F

abbrev pub change_at : Format → List ℕ → ℕ → Change
change_at F d i = change_from F (drop (change_place F i) d)

-- change i: no "index or bound out of range"
abbrev pub expected_change : Format → Plane → List ℕ → ℕ → Expected
expected_change F P d i = record {
  at = change_place F i;
  kind = F.change_kind;
  body = change_body F;
  allowed = exceeds (λ j. (change_at F d j).index) i && (ltb (change_at F d i).index (length (buckets_of P)) && leb (change_at F d i).bucket.bound largest_bound);
}

-- where word i of those gone starts, and the word
abbrev pub gone_place : Format → List ℕ → ℕ → ℕ
gone_place F d i = gone_at F d + i * gone_length

abbrev pub gone_word : Format → List ℕ → ℕ → ℕ
gone_word F d i = gone_from (drop (gone_place F d i) d)

-- word i of those gone: no "word absent from the old plane"
abbrev pub expected_gone : Format → Plane → List ℕ → ℕ → Expected
expected_gone F P d i = record {
  at = gone_place F d i;
  kind = gone_kind;
  body = word_bytes;
  allowed = exceeds (gone_word F d) i && is_there (find (gone_word F d i) P.base);
}

-- where entry i of those new or changed starts, and the entry
abbrev pub new_place : Format → List ℕ → ℕ → ℕ
new_place F d i = news_at F d + i * new_length

abbrev pub new_entry : Format → List ℕ → ℕ → Entry
new_entry F d i = entry_from (drop (new_place F d i) d)

-- the base list after i of them: the old plane's without the words gone, then each entered
abbrev pub base_after : Format → Plane → List ℕ → ℕ → List Entry
base_after F P d zero = remove_all (patch_from F d).gone P.base
base_after F P d (suc i) = enter (new_entry F d i) (base_after F P d i)

-- entry i: no "word also in kind 7 or making 65 entries", and a plan that may be given (order 3: "as is a kind 8")
abbrev pub expected_new : Format → Plane → List ℕ → ℕ → Expected
expected_new F P d i = record {
  at = new_place F d i;
  kind = new_kind;
  body = entry_body;
  allowed = (exceeds (λ j. (new_entry F d j).word) i && assignable (new_entry F d i).plan)
      && (not (among (new_entry F d i).word (patch_from F d).gone) && leb (length (base_after F P d (suc i))) base_limit);
}

-- in order; as many of each kind as stand together
abbrev pub expected_patch : Format → Plane → List ℕ → List Expected
expected_patch F P d =
    expected_sums
    ∷ (map (expected_change F P d) (count_from 0 (changes_in F d))
    ++ (map (expected_gone F P d) (count_from 0 (gone_in F d)) ++ (map (expected_new F P d) (count_from 0 (news_in F d)) ++ (expected_end (end_in F d) d ∷ []))))

-- at is the offset that cause 12 returns
abbrev pub WrongPatchOffset : Format → Plane → List ℕ → ℕ → Type 0
WrongPatchOffset F P d at = FirstWrong d (expected_patch F P d) (end_in F d + end_length) at

-- no record is wrong, and nothing follows
abbrev pub RightPatch : Format → Plane → List ℕ → Type 0
RightPatch F P d = NoneWrong d (expected_patch F P d) (end_in F d + end_length)
