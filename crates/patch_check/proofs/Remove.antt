-- What the loop over the words gone asks for: a word that is found at the cursor, one that is not, and none left.
-- Assumes nothing.
use Prim.Native.Nat.{ℕ, suc, ◌+◌, ◌*◌, ◌≤◌, ◌<◌}
use native.Mathlib.Omega.{arith}
use mathlib.Core.Path.{◌≡◌, sym, ap, ap₂, ◌∙◌}
use mathlib.Core.Bool.{Bool, true, false, ◌&&◌}
use mathlib.Core.List.{List, [], ◌++◌}
use lib.Dec.{leb}
use lib.ListN.{length, take, drop, length-append}
use borrow.Author.Tests.{leb-false, leb-true}
use Rattle.std.specs.Prelude.{Option, Result, Ok, Err}
use Rattle.std.specs.Option.{is_some}
use Rattle.std.specs.Result.{result_and}
use Rattle.lists.specs.Entries.{Entry, remove, Ascending}
use Rattle.lists.proofs.Tests.{cases}
use Rattle.model.specs.Model.{base_limit}
use Rattle.plane.specs.Record.{read_all, word_bytes}
use Rattle.plane.specs.Plane.{whole, fits, wrong_in}
use Rattle.plane.proofs.Scan.{both}
use Rattle.patch.specs.Base.{is_there, remove_all}
use Rattle.patch.specs.Cursor.{below, plan_first, after}
use Rattle.patch.specs.Record.{gone_kind, gone_length, gone_from, gone_records}
use Rattle.patch.specs.Wrong.{gone_allowed, next_word}
use Rattle.patch.proofs.Cursor.{from, Low, low_up, low-front, remove-at, place_length, there_some, Left, left_all, left_find, left_lower, left_next}
use Rattle.patch_fits.proofs.Scan.{Scanned, lent, scan_starts, scan_ends, scan_stops, scan-next, wrong_and, right_and, unread, unread-all, unread_next, unread_none}

-- ---- the test of a word at the cursor

gone_test : (least w : ℕ) (O left : List Entry) → Left least O left → gone_allowed O least w ≡ is_some (plan_first w (from w left))
gone_test least w O left h =
    cases (leb least w)
    (λ t. rw t (ap is_there (left_find h w (leb-true least w t)) ∙ there_some (plan_first w (from w left))))
    (λ f. rw (f, left_lower h w (leb-false least w f)))

module _ (d : List ℕ) (first k : ℕ) (O : List Entry) where
  abbrev scan : Result (Unit {0}) ℕ
  scan = wrong_in gone_records (gone_allowed O) next_word 0 k first (drop first d)

  abbrev words : ℕ → List ℕ
  words = unread gone_length gone_from k first d

  abbrev all : List Entry
  all = remove_all (read_all gone_length gone_from k (drop first d)) O

  -- the first i words fit; what stays of O are the entries `kept`, and those `left` without the other words
  pub record Removing (i : ℕ) (kept left : List Entry) : Type 0 where
    pub least : ℕ
    pub scanned : Scanned gone_records (gone_allowed O) next_word 0 k first d i least
    pub removed : all ≡ remove_all (words i) (kept ++ left)
    pub low : Low least kept
    pub cursor : Left least O left
    pub few : length kept + length left ≤ base_limit

  pub removing_starts : first ≤ length d → length O ≤ base_limit → Ascending O → Removing 0 [] O
  removing_starts h l a = record {
    least = 0;
    scanned = scan_starts gone_records (gone_allowed O) next_word 0 k first d h;
    removed = ap (λ (ws : List ℕ). remove_all ws O) (sym (unread-all gone_length gone_from k first d));
    low = tt;
    cursor = left_all O a;
    few = omega arith;
  }

  module _ {i : ℕ} {kept left : List Entry} (h : Removing i kept left) where
    pub removing_ends : k ≤ i → (es : List Entry) → es ≡ kept ++ left → Ok es ≡ result_and scan (Ok all)
    removing_ends l es e =
        let same : es ≡ all = e ∙ sym (h.removed ∙ ap (λ (ws : List ℕ). remove_all ws (kept ++ left)) (unread_none gone_length gone_from k first d i l)) in
        ap (λ (l : List Entry). Ok l) same ∙ right_and _ _ (scan_ends gone_records (gone_allowed O) next_word 0 k first d h.scanned l)

    module _ (some : i < k) where
      -- the bytes from the word on, as the code lends them
      abbrev p : List ℕ
      p = lent gone_records (gone_allowed O) next_word 0 k first d i

      unfit : fits gone_records (gone_allowed O) h.least p ≡ false → Err (first + i * gone_length) ≡ result_and scan (Ok all)
      unfit f = wrong_and _ _ (scan_stops gone_records (gone_allowed O) next_word 0 k first d h.scanned some f)

      pub gone_cut : whole gone_kind word_bytes p ≡ false → Err (first + i * gone_length) ≡ result_and scan (Ok all)
      gone_cut f = unfit (ap (λ (b : Bool). b && gone_allowed O h.least (gone_from p)) f)

      -- the word w is sought
      module _ (t : whole gone_kind word_bytes p ≡ true) {w : ℕ} (e : w ≡ gone_from p) {o : Option ℕ} (s : o ≡ plan_first w (from w left)) where
        fits_is : fits gone_records (gone_allowed O) h.least p ≡ is_some o
        fits_is = ap₂ (λ (x : Bool) (v : ℕ). x && gone_allowed O h.least v) t (sym e) ∙ gone_test h.least w O left h.cursor ∙ ap is_some (sym s)

        pub gone_absent : is_some o ≡ false → Err (first + i * gone_length) ≡ result_and scan (Ok all)
        gone_absent f = unfit (fits_is ∙ f)

        pub removing_step : is_some o ≡ true → (kept₁ left₁ : List Entry) → kept₁ ≡ kept ++ take (below w left) left → left₁ ≡ after w (from w left) → Removing (i + 1) kept₁ left₁
        removing_step u kept₁ left₁ y z =
            let a = h.cursor.ascending in
            let test : gone_allowed O h.least w ≡ true = gone_test h.least w O left h.cursor ∙ ap is_some (sym s) ∙ u in
            let not_lower : h.least ≤ w = leb-true h.least w (both (leb h.least w) _ test).0 in
            let low-kept : Low w kept = low_up h.least w not_lower kept h.low in
            let is : remove w (kept ++ left) ≡ kept₁ ++ left₁ = rw (y, z) (remove-at w kept left low-kept a) in
            record {
              least = suc w;
              scanned = scan-next gone_records (gone_allowed O) next_word 0 k first d h.scanned some (fits_is ∙ u) (ap suc e);
              removed = h.removed ∙ ap (λ (ws : List ℕ). remove_all ws (kept ++ left)) (unread_next gone_length gone_from k first d i some)
                  ∙ ap (λ (v : ℕ). remove_all (words (i + 1)) (remove v (kept ++ left))) (sym e) ∙ ap (remove_all (words (i + 1))) is;
              low = rw y (low_up w (suc w) (omega arith) (kept ++ take (below w left) left) (low-front w kept left low-kept));
              cursor = rw z (left_next h.cursor w not_lower);
              few = let l = h.few in rw (y, z, length-append) (omega (arith, place_length w left));
            }
