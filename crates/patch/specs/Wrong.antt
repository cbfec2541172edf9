-- Which patches are wrong, and what the bytes of one say; document 02, order 1, cause 12. F is the format of the planes.
-- Assumes nothing.
use Rattle.std.specs.Prelude.{ℕ, zero, suc, ◌+◌, ◌*◌, Bool, cond, not, ◌&&◌, List, eqb, ltb, leb, length, get_or, drop, Result, Err}
use Rattle.std.specs.Result.{result_and}
use Rattle.lists.specs.Entries.{Entry, find}
use Rattle.bucket.specs.Bucket.{largest_bound}
use Rattle.model.specs.Model.{base_limit}
use Rattle.plane.specs.Record.{Format, read_all, word_bytes, word_from, entry_from}
use Rattle.plane.specs.Plane.{Plane, whole, wrong_in, all_allowed, entry_allowed, end_wrong}
use Rattle.patch.specs.Base.{is_there, among, remove_all, enter}
use Rattle.patch.specs.Record.{sums_kind, sums_body, Change, change_length, change_from, change_records, gone_kind, gone_length, gone_from, gone_records, new_kind, new_length, new_records}
use Rattle.patch.specs.Patch.{Patch, buckets_of}

-- ---- the values that are allowed

-- kind 6, for n buckets: an index of at least `least`, in range, and a bound of at most 8
abbrev pub change_allowed : ℕ → ℕ → Change → Bool
change_allowed n least c = leb least c.index && (ltb c.index n && leb c.bucket.bound largest_bound)

-- strictly ascending by index
abbrev pub next_index : ℕ → Change → ℕ
next_index least c = suc c.index

-- kind 7: a word of at least `least` that the old plane has
abbrev pub gone_allowed : List Entry → ℕ → ℕ → Bool
gone_allowed base least w = leb least w && is_there (find w base)

-- strictly ascending by word
abbrev pub next_word : ℕ → ℕ → ℕ
next_word least w = suc w

-- what the kind 8 records before one leave: the least word for it, and the base list
pub record Filled : Type 0 where
  pub least : ℕ
  pub base : List Entry

-- kind 8: what is allowed in a base record of a plane, with a word that is not also in kind 7 and makes no 65 entries
abbrev pub new_allowed : List ℕ → Filled → Entry → Bool
new_allowed gone s e = entry_allowed s.least e && (not (among e.word gone) && leb (length (enter e s.base)) base_limit)

-- strictly ascending by word
abbrev pub filled : Filled → Entry → Filled
filled s e = record { least = suc e.word; base = enter e s.base }

-- before the first: the old plane's base list without the words gone
abbrev pub unfilled : List Entry → List ℕ → Filled
unfilled base gone = record { least = 0; base = remove_all gone base }

-- a patch that the plane P allows
unfoldable pub allowed : Plane → Patch → Bool
allowed P D =
    all_allowed (change_allowed (length (buckets_of P))) next_index 0 D.changes
    && (all_allowed (gone_allowed P.base) next_word 0 D.gone && all_allowed (new_allowed D.gone) filled (unfilled P.base D.gone) D.news)

-- ---- where the records of each kind start: those of one kind stand together, so one that is misplaced ends them and is wrong where it stands

-- how many records of this kind and size stand in front, one after the other, at most m; the last may be cut
unfoldable pub run : ℕ → ℕ → ℕ → List ℕ → ℕ
run kind size zero p = 0
run kind size (suc m) p = cond (eqb (get_or p 0 0) kind) (suc (run kind size m (drop size p))) 0

-- where kind 6 starts
abbrev pub changes_at : ℕ
changes_at = 1 + sums_body

-- how many there are
unfoldable pub changes_in : Format → List ℕ → ℕ
changes_in F d = run F.change_kind (change_length F) (length d) (drop changes_at d)

-- where kind 7 starts
abbrev pub gone_at : Format → List ℕ → ℕ
gone_at F d = changes_at + changes_in F d * change_length F

-- how many there are
unfoldable pub gone_in : Format → List ℕ → ℕ
gone_in F d = run gone_kind gone_length (length d) (drop (gone_at F d) d)

-- where kind 8 starts
abbrev pub news_at : Format → List ℕ → ℕ
news_at F d = gone_at F d + gone_in F d * gone_length

-- how many there are
unfoldable pub news_in : Format → List ℕ → ℕ
news_in F d = run new_kind new_length (length d) (drop (news_at F d) d)

-- where kind 4 starts
abbrev pub end_in : Format → List ℕ → ℕ
end_in F d = news_at F d + news_in F d * new_length

-- ---- what the bytes say, where nothing is wrong

-- the sums, and the records of each kind
unfoldable pub patch_from : Format → List ℕ → Patch
patch_from F d = record {
  old_sum = word_from (drop 1 d);
  new_sum = word_from (drop (1 + word_bytes) d);
  changes = read_all (change_length F) (change_from F) (changes_in F d) (drop changes_at d);
  gone = read_all gone_length gone_from (gone_in F d) (drop (gone_at F d) d);
  news = read_all new_length entry_from (news_in F d) (drop (news_at F d) d);
}

-- ---- the first record of the patch d, for the plane P, that is wrong: "cut, misplaced, of a wrong kind or with a value not allowed", or bytes after kind 4

-- kind 6
unfoldable pub changes_wrong : Format → Plane → List ℕ → Result (Unit {0}) ℕ
changes_wrong F P d = wrong_in (change_records F) (change_allowed (length (buckets_of P))) next_index 0 (changes_in F d) changes_at (drop changes_at d)

-- kind 7
unfoldable pub gone_wrong : Format → Plane → List ℕ → Result (Unit {0}) ℕ
gone_wrong F P d = wrong_in gone_records (gone_allowed P.base) next_word 0 (gone_in F d) (gone_at F d) (drop (gone_at F d) d)

-- kind 8
unfoldable pub news_wrong : Format → Plane → List ℕ → Result (Unit {0}) ℕ
news_wrong F P d =
    wrong_in new_records (new_allowed (patch_from F d).gone) filled (unfilled P.base (patch_from F d).gone) (news_in F d) (news_at F d) (drop (news_at F d) d)

-- kind 5, then these, then kind 4
unfoldable pub patch_wrong_at : Format → Plane → List ℕ → Result (Unit {0}) ℕ
patch_wrong_at F P d =
    cond (whole sums_kind sums_body d)
    (result_and (changes_wrong F P d) (result_and (gone_wrong F P d) (result_and (news_wrong F P d) (end_wrong (end_in F d) (drop (end_in F d) d)))))
    (Err 0)
