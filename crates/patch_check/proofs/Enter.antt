-- What the loop over the entries new or changed asks for: one that the base list takes at the cursor, one that it does not, and none left.
-- Assumes nothing.
use Prim.Native.Nat.{ℕ, suc, ◌+◌, ◌*◌, ◌≤◌, ◌<◌}
use native.Mathlib.Omega.{arith}
use mathlib.Core.Path.{◌≡◌, refl, sym, ap, ◌∙◌}
use mathlib.Core.Bool.{Bool, true, false, cond, not, ◌&&◌, true≢false}
use mathlib.Core.List.{List, [], ◌∷◌, ◌++◌}
use lib.Dec.{leb}
use lib.ListN.{length, take, drop, length-append}
use borrow.Author.Tests.{leb-true, le-leb, ltb-true}
use Rattle.std.specs.Prelude.{Option, Some, None, Result, Ok, Err}
use Rattle.std.specs.Option.{is_some}
use Rattle.std.specs.Result.{result_and}
use Rattle.lists.specs.Entries.{Entry, find, Ascending}
use Rattle.lists.proofs.Every.{every_append}
use Rattle.lists.proofs.Tests.{cases}
use Rattle.model.specs.Model.{base_limit}
use Rattle.plane.specs.Record.{read_all, entry_body, entry_from}
use Rattle.plane.specs.Plane.{whole, fits, wrong_in, entry_allowed}
use Rattle.plane.proofs.Scan.{both}
use Rattle.patch.specs.Base.{is_there, enter, enter_all}
use Rattle.patch.specs.Cursor.{below, plan_first, after}
use Rattle.patch.specs.Record.{new_kind, new_length, new_records}
use Rattle.patch.specs.Wrong.{Filled, filled}
use Rattle.patch.proofs.Base.{enter-length}
use Rattle.patch.proofs.Cursor.{from, Low, low_up, low-front, find-low, enter-at, place_length, place-fewer, there_some, Left, left_all, left_find, left_next}
use Rattle.patch_fits.specs.Steps.{least_after, taken}
use Rattle.patch_fits.proofs.Scan.{Scanned, lent, scan_starts, scan_ends, scan_stops, scan-next, wrong_and, right_and, unread, unread-all, unread_next, unread_none}
use Rattle.patch_check.specs.Steps.{new_allowed_by, started}

-- the test of an entry, by whether its word is in the base list, and whether it was in the old one
taken_is : (f g : Bool) (n : ℕ) → n ≤ base_limit → (not (g && not f) && leb (cond f n (suc n)) base_limit) ≡ taken f g n
taken_is true true n h = le-leb n base_limit h
taken_is true false n h = le-leb n base_limit h
taken_is false true n h = refl
taken_is false false n h = refl

module _ (d : List ℕ) (first k : ℕ) (O K : List Entry) where
  abbrev scan : Result (Unit {0}) ℕ
  scan = wrong_in new_records (new_allowed_by O K) filled (started K) k first (drop first d)

  abbrev news : ℕ → List Entry
  news = unread new_length entry_from k first d

  abbrev all : List Entry
  all = enter_all (read_all new_length entry_from k (drop first d)) K

  -- the first i entries fit, and are entered: `new` has what comes of them and of the entries of K before those in `left`
  pub record Entering (i : ℕ) (last : Option ℕ) (old left new : List Entry) : Type 0 where
    pub scanned : Scanned new_records (new_allowed_by O K) filled (started K) k first d i (record { least = least_after last; base = new ++ left })
    pub entered : all ≡ enter_all (news i) (new ++ left)
    pub low : Low (least_after last) new
    pub was : Left (least_after last) O old
    pub cursor : Left (least_after last) K left
    pub few : length new + length left ≤ base_limit

  pub entering_starts : first ≤ length d → length K ≤ base_limit → Ascending O → Ascending K → Entering 0 None O K []
  entering_starts h l a b = record {
    scanned = scan_starts new_records (new_allowed_by O K) filled (started K) k first d h;
    entered = ap (λ (es : List Entry). enter_all es K) (sym (unread-all new_length entry_from k first d));
    low = tt;
    was = left_all O a;
    cursor = left_all K b;
    few = omega arith;
  }

  module _ {i : ℕ} {last : Option ℕ} {old left new : List Entry} (h : Entering i last old left new) where
    abbrev base : List Entry
    base = new ++ left

    abbrev state : Filled
    state = record { least = least_after last; base = base }

    pub entering-ends : k ≤ i → (es : List Entry) → es ≡ new ++ left → Ok es ≡ result_and scan (Ok all)
    entering-ends l es e =
        let same : es ≡ all = e ∙ sym (h.entered ∙ ap (λ (ns : List Entry). enter_all ns base) (unread_none new_length entry_from k first d i l)) in
        ap (λ (x : List Entry). Ok x) same ∙ right_and _ _ (scan_ends new_records (new_allowed_by O K) filled (started K) k first d h.scanned l)

    module _ (some : i < k) where
      -- the bytes from the entry on, as the code lends them
      abbrev p : List ℕ
      p = lent new_records (new_allowed_by O K) filled (started K) k first d i

      unfit : fits new_records (new_allowed_by O K) state p ≡ false → Err (first + i * new_length) ≡ result_and scan (Ok all)
      unfit f = wrong_and _ _ (scan_stops new_records (new_allowed_by O K) filled (started K) k first d h.scanned some f)

      not_both : (a b c : Bool) → (a && b) ≡ false → (a && (b && c)) ≡ false
      not_both true true c e = absurd (true≢false e)
      not_both true false c e = refl
      not_both false b c e = refl

      abbrev follows : Bool
      follows = whole new_kind entry_body p && entry_allowed (least_after last) (entry_from p)

      -- cut, with a plan that may not be given, or with a word that does not exceed the one before
      pub new_low : follows ≡ false → Err (first + i * new_length) ≡ result_and scan (Ok all)
      new_low f = unfit (not_both (whole new_kind entry_body p) _ _ f)

      -- the word of the entry e is sought in both lists
      module _ (t : follows ≡ true) {e : Entry} (q : e ≡ entry_from p) where
        abbrev w : ℕ
        w = e.word

        there_is : (whole new_kind entry_body p ≡ true) × (entry_allowed (least_after last) (entry_from p) ≡ true)
        there_is = both (whole new_kind entry_body p) _ t

        least_le : least_after last ≤ w
        least_le = rw q (leb-true (least_after last) (entry_from p).word (both (leb (least_after last) (entry_from p).word) _ there_is.1).0)

        low_new : Low w new
        low_new = low_up (least_after last) w least_le new h.low

        module _ {o v : Option ℕ} (s : o ≡ plan_first w (from w left)) (r : v ≡ plan_first w (from w old)) where
          there-kept : is_there (find w K) ≡ is_some o
          there-kept = ap is_there (left_find h.cursor w least_le) ∙ rw (← s) (there_some o)

          was-old : is_there (find w O) ≡ is_some v
          was-old = ap is_there (left_find h.was w least_le) ∙ rw (← r) (there_some v)

          there-base : is_there (find w base) ≡ is_some o
          there-base = ap is_there (find-low w new left low_new ∙ sym (h.cursor.same w least_le)) ∙ there-kept

          test : (not (is_there (find w O) && not (is_there (find w K))) && leb (length (enter e base)) base_limit) ≡ taken (is_some o) (is_some v) (length new + length left)
          test = rw (enter-length e base, there-base, length-append new left, was-old, there-kept) (taken_is (is_some o) (is_some v) (length new + length left) h.few)

          fits_is : fits new_records (new_allowed_by O K) state p ≡ taken (is_some o) (is_some v) (length new + length left)
          fits_is =
              rw (there_is.0, there_is.1)
              (ap (λ (x : Entry). not (is_there (find x.word O) && not (is_there (find x.word K))) && leb (length (enter x base)) base_limit) (sym q) ∙ test)

          -- gone, or the 65th
          pub new_unfit : taken (is_some o) (is_some v) (length new + length left) ≡ false → Err (first + i * new_length) ≡ result_and scan (Ok all)
          new_unfit f = unfit (fits_is ∙ f)

          module _ (u : taken (is_some o) (is_some v) (length new + length left) ≡ true) where
            one_more : (f g : Bool) (x : ℕ) → taken f g x ≡ true → f ≡ false → x < base_limit
            one_more true g x t f = absurd (true≢false f)
            one_more false true x t f = absurd (true≢false (sym t))
            one_more false false x t f = ltb-true x base_limit t

            -- there is room for it
            pub new-room : length new + length (take (below w left) left) + 1 + length (after w (from w left)) ≤ base_limit
            new-room =
                let f = h.few in
                cases (is_some o)
                (λ y. omega (arith, f, place-fewer w left (rw s at y)))
                (λ z. omega (arith, one_more (is_some o) (is_some v) (length new + length left) u z, place_length w left))

            pub entering-step : (new₁ : List Entry) → new₁ ≡ (new ++ take (below w left) left) ++ e ∷ [] → (left₁ old₁ : List Entry) → left₁ ≡ after w (from w left) → old₁ ≡ after w (from w old)
                → Entering (i + 1) (Some w) old₁ left₁ new₁
            entering-step new₁ y left₁ old₁ z x =
                let a = h.cursor.ascending in
                let front : List Entry = new ++ take (below w left) left in
                let is : enter e base ≡ new₁ ++ left₁ = rw (y, z) (enter-at e new left low_new a) in
                record {
                  scanned = scan-next new_records (new_allowed_by O K) filled (started K) k first d h.scanned some (fits_is ∙ u)
                      (ap (λ (es : List Entry). record { least = suc w; base = es }) (sym is) ∙ ap (filled state) q);
                  entered = h.entered ∙ ap (λ (es : List Entry). enter_all es base) (unread_next new_length entry_from k first d i some)
                      ∙ ap (λ (x : Entry). enter_all (news (i + 1)) (enter x base)) (sym q) ∙ ap (enter_all (news (i + 1))) is;
                  low = rw y (every_append (λ x. x.word < suc w) front (e ∷ []) (low_up w (suc w) (omega arith) front (low-front w new left low_new)) (omega arith, tt));
                  was = rw x (left_next h.was w least_le);
                  cursor = rw z (left_next h.cursor w least_le);
                  few = rw (y, z, length-append, length-append) (omega (arith, new-room));
                }
