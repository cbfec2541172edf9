-- The check of a patch from kind 7 on, part by part: what the code finds in each is what the definitions say of the plane P and the patch d.
-- Assumes nothing.
use Prim.Native.Nat.{ℕ, ◌+◌, ◌*◌, ◌≤◌}
use native.Mathlib.Omega.{arith}
use mathlib.Core.Path.{◌≡◌, refl, sym, ap, ap₂, ◌∙◌}
use mathlib.Core.Bool.{Bool, true, false, not, ◌&&◌}
use mathlib.Core.List.{List}
use lib.Dec.{leb}
use lib.ListN.{length, drop, length-append, length-drop}
use Rattle.std.specs.Prelude.{Result, Ok, Err}
use Rattle.std.specs.Result.{result_and}
use Rattle.lists.specs.Entries.{Entry, find, Ascending}
use Rattle.model.specs.Model.{base_limit}
use Rattle.plane.specs.Record.{Format, read_all, bucket_length, bucket_from, entry_from}
use Rattle.plane.specs.Plane.{Plane, plane_from, buckets_at, entries_at, whole, wrong_in, entry_allowed, end_wrong, buckets1, buckets2, bucket_count}
use Rattle.plane.proofs.Scan.{scan_room}
use Rattle.plane.proofs.Read.{length-read_all}
use Rattle.plane.proofs.Exact.{scan-allowed}
use Rattle.patch.specs.Base.{is_there, among, remove_all, enter, enter_all}
use Rattle.patch.specs.Record.{sums_kind, sums_body, change_length, change_records, gone_kind, gone_length, gone_from, gone_records, new_kind, new_length, new_records}
use Rattle.patch.specs.Patch.{buckets_of, patched}
use Rattle.patch.specs.Wrong.{change_allowed, next_index, gone_allowed, next_word, Filled, new_allowed, filled, unfilled, run, changes_at, changes_in, gone_at, gone_in, news_at, news_in, patch_from, changes_wrong, gone_wrong, news_wrong, patch_wrong_at}
use Rattle.patch.proofs.Base.{among-gone}
use Rattle.patch.proofs.Longest.{gone-there}
use Rattle.patch_check.specs.Steps.{new_allowed_by, started, base_wrong}

-- ---- what a part of the check returns: what is left, unless the scan x finds something wrong

pub was-wrong : {at : ℕ} (x : Result (Unit {0}) ℕ) (es : List Entry) → Err at ≡ result_and x (Ok es) → x ≡ Err at
was-wrong (Ok u) es e = cc
was-wrong (Err k) es e = cc

pub was-right : {new : List Entry} (x : Result (Unit {0}) ℕ) (es : List Entry) → Ok new ≡ result_and x (Ok es) → (x ≡ Ok tt) × (new ≡ es)
was-right (Ok u) es e = (refl, cc)
was-right (Err k) es e = cc

-- ---- kind 7

module _ (F : Format) (P : Plane) (d : List ℕ) where
  -- what the code has found before it looks at kind 7: where it starts, and how many words there are
  pub record Gone : Type 0 where
    pub first : ℕ
    pub count : ℕ
    pub starts : first ≡ gone_at F d
    pub room : first ≤ length d
    pub counted : count ≡ run gone_kind gone_length (length d) (drop first d)
    pub ascending : Ascending P.base

  module _ (h : Gone) where
    gone_is : h.count ≡ gone_in F d
    unfolding gone_in
    gone_is = h.counted ∙ ap (λ (n : ℕ). run gone_kind gone_length (length d) (drop n d)) h.starts

    abbrev gone_list : List ℕ
    gone_list = read_all gone_length gone_from h.count (drop h.first d)

    gone_list_is : gone_list ≡ (patch_from F d).gone
    unfolding patch_from
    gone_list_is = ap₂ (λ (k n : ℕ). read_all gone_length gone_from k (drop n d)) gone_is h.starts

    abbrev gone_scan : List Entry → Result (Unit {0}) ℕ
    gone_scan old = wrong_in gone_records (gone_allowed old) next_word 0 h.count h.first (drop h.first d)

    pub gone-scan : gone_scan P.base ≡ gone_wrong F P d
    unfolding gone_wrong
    gone-scan = ap₂ (λ (k n : ℕ). wrong_in gone_records (gone_allowed P.base) next_word 0 k n (drop n d)) gone_is h.starts

    -- what is found of kind 7, where the base list stands in `old`
    pub kept_is : {r : Result (List Entry) ℕ} {old : List Entry} → old ≡ P.base → r ≡ result_and (gone_scan old) (Ok (remove_all gone_list old)) → r ≡ result_and (gone_wrong F P d) (Ok (remove_all (patch_from F d).gone P.base))
    kept_is q e = e ∙ rw q (ap₂ (λ (x : Result (Unit {0}) ℕ) (ws : List ℕ). result_and x (Ok (remove_all ws P.base))) gone-scan gone_list_is)

    module _ (right : gone_wrong F P d ≡ Ok tt) where
      pub news-start : h.first + h.count * gone_length ≤ length d
      news-start = let l = h.room in omega (arith, scan_room gone_records (gone_allowed P.base) next_word 0 h.count h.first (drop h.first d) (gone-scan ∙ right), length-drop h.first d)

      each_there : (w : ℕ) → among w (patch_from F d).gone ≡ true → is_there (find w P.base) ≡ true
      unfolding gone_wrong patch_from
      each_there =
          gone-there P.base 0 (patch_from F d).gone (scan-allowed gone_records (gone_allowed P.base) next_word 0 (gone_in F d) (gone_at F d) (drop (gone_at F d) d) right)

      -- the test of kind 8, as the code makes it
      same_test : new_allowed (patch_from F d).gone ≡ new_allowed_by P.base (remove_all (patch_from F d).gone P.base)
      same_test =
          λ i s e. entry_allowed s.least e
          && (not (among-gone e.word (patch_from F d).gone P.base h.ascending (each_there e.word) i) && leb (length (enter e s.base)) base_limit)

  -- ---- kind 8

  -- before it looks at kind 8: kind 7 is right, and how many entries there are
  pub record News : Type 0 where
    pub gone : Gone
    pub right : gone_wrong F P d ≡ Ok tt
    pub count : ℕ
    pub counted : count ≡ run new_kind new_length (length d) (drop (gone.first + gone.count * gone_length) d)

  module _ (h : News) where
    abbrev start : ℕ
    start = h.gone.first + h.gone.count * gone_length

    -- the base list without the words gone
    abbrev kept : List Entry
    kept = remove_all (patch_from F d).gone P.base

    start_is : start ≡ news_at F d
    start_is = ap₂ (λ (x y : ℕ). x + y * gone_length) h.gone.starts (gone_is h.gone)

    news_is : h.count ≡ news_in F d
    unfolding news_in
    news_is = h.counted ∙ ap (λ (x : ℕ). run new_kind new_length (length d) (drop x d)) start_is

    abbrev news_scan : List Entry → List Entry → Result (Unit {0}) ℕ
    news_scan old left = wrong_in new_records (new_allowed_by old left) filled (started left) h.count start (drop start d)

    pub news-scan : news_scan P.base kept ≡ news_wrong F P d
    unfolding news_wrong
    news-scan =
        ap (λ (t : Filled → Entry → Bool). wrong_in new_records t filled (unfilled P.base (patch_from F d).gone) h.count start (drop start d)) (sym (same_test h.gone h.right))
        ∙ ap₂ (λ (x y : ℕ). wrong_in new_records (new_allowed (patch_from F d).gone) filled (unfilled P.base (patch_from F d).gone) x y (drop y d)) news_is start_is

    abbrev news_list : List Entry
    news_list = read_all new_length entry_from h.count (drop start d)

    news_list_is : news_list ≡ (patch_from F d).news
    unfolding patch_from
    news_list_is = ap₂ (λ (x y : ℕ). read_all new_length entry_from x (drop y d)) news_is start_is

    -- what is found of kind 8, where the base list stands in `old`, and without the words gone in `left`
    pub base_is : {r : Result (List Entry) ℕ} {old left : List Entry} → old ≡ P.base → left ≡ kept → r ≡ result_and (news_scan old left) (Ok (enter_all news_list left))
        → r ≡ result_and (news_wrong F P d) (Ok (patched P (patch_from F d)).base)
    unfolding patched
    base_is q l e = e ∙ rw (q, l) (ap₂ (λ (x : Result (Unit {0}) ℕ) (es : List Entry). result_and x (Ok (enter_all es kept))) news-scan news_list_is)

    -- ---- kind 4

    module _ (right : news_wrong F P d ≡ Ok tt) where
      pub end-start : start + h.count * new_length ≤ length d
      end-start =
          omega (arith, news-start h.gone h.right, scan_room new_records (new_allowed_by P.base kept) filled (started kept) h.count start (drop start d) (news-scan ∙ right), length-drop start d)

      pub end-scan : end_wrong (start + h.count * new_length) (drop (start + h.count * new_length) d) ≡ base_wrong F P d
      end-scan = rw (h.right, right) (ap (λ (x : ℕ). end_wrong x (drop x d)) (ap₂ (λ (x y : ℕ). x + y * new_length) start_is news_is))

-- ---- the whole patch, for the plane of the bytes p

module _ (F : Format) (p d : List ℕ) where
  abbrev plane : Plane
  plane = plane_from F p

  pub sums-wrong : whole sums_kind sums_body d ≡ false → patch_wrong_at F plane d ≡ Err 0
  unfolding patch_wrong_at
  sums-wrong e = rw e

  module _ (right : whole sums_kind sums_body d ≡ true) where
    pub changes-wrong : {at : ℕ} → changes_wrong F plane d ≡ Err at → patch_wrong_at F plane d ≡ Err at
    unfolding patch_wrong_at
    changes-wrong e = rw (right, e)

    pub base-wrong : changes_wrong F plane d ≡ Ok tt → base_wrong F plane d ≡ patch_wrong_at F plane d
    unfolding patch_wrong_at
    base-wrong e = rw (right, e)

  pub buckets_count : length (buckets_of plane) ≡ bucket_count p
  unfolding plane_from
  buckets_count =
      length-append plane.level1 plane.level2
      ∙ ap₂ (λ (x y : ℕ). x + y) (length-read_all (bucket_length F) (bucket_from F) (buckets1 p) (drop buckets_at p)) (length-read_all (bucket_length F) (bucket_from F) (buckets2 p) (drop (entries_at F (buckets1 p)) p))

  module _ (count : ℕ) (c : count ≡ run F.change_kind (change_length F) (length d) (drop changes_at d)) where
    changes_is : count ≡ changes_in F d
    unfolding changes_in
    changes_is = c

    pub gone_at_lem : changes_at + count * change_length F ≡ gone_at F d
    gone_at_lem = ap (λ (k : ℕ). changes_at + k * change_length F) changes_is

    pub changes_scan : wrong_in (change_records F) (change_allowed (bucket_count p)) next_index 0 count changes_at (drop changes_at d) ≡ changes_wrong F plane d
    unfolding changes_wrong
    changes_scan = ap₂ (λ (n k : ℕ). wrong_in (change_records F) (change_allowed n) next_index 0 k changes_at (drop changes_at d)) (sym buckets_count) changes_is

    pub gone-start : changes_at ≤ length d → changes_wrong F plane d ≡ Ok tt → changes_at + count * change_length F ≤ length d
    gone-start l e =
        omega (arith, scan_room (change_records F) (change_allowed (bucket_count p)) next_index 0 count changes_at (drop changes_at d) (changes_scan ∙ e), length-drop changes_at d)
