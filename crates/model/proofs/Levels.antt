-- A level: lowered bounds are the largest that hold no dependence; more words leave the bounds not larger and pass on no fewer
-- words; to lower twice is to lower once for the larger list; the order of the words does not matter.
-- Assumes nothing.
use Prim.Native.Nat.{ℕ, ◌<◌, ◌≤◌, zero-le}
use native.Mathlib.Nat.{le_trans}
use mathlib.Core.Path.{◌≡◌, ap, ◌∙◌, subst⁻¹}
use mathlib.Core.Bool.{not}
use mathlib.Core.List.Permᴰ
use mathlib.Core.List.{List, Sublistᴰ, Permᴰ}
use lib.Dec.{eqb, ltb}
use lib.ListN.{length, get_or}
use borrow.Author.Tests.{ltb-false, le-ltb, ltb-true, not-true}
use Rattle.lists.specs.Entries.{Entry, words}
use Rattle.lists.specs.Lists.{keep}
use Rattle.lists.proofs.Tests.{cases}
use Rattle.lists.proofs.Keep.{keep-sub, keep_perm, keep-map, map-sub, tabulate-at, tabulate_out, tabulate_ext, tabulate-length}
use Rattle.gf2.specs.Bound.{Free, bound_of, Largest}
use Rattle.gf2.proofs.Bound.{bound_anti, bound_again, bound_largest, bound_perm, free_sub}
use Rattle.model.specs.Levels.{Level, threshold, bucket, holds, passed, due_as, due, lower}

module _ (L : Level) (n : ℕ) where
  -- each bound becomes the largest, not above the old one, under which no non-empty selection of the words due there XORs to zero
  pub lower_largest : (bounds ws : List ℕ) (i : ℕ) → i < n → Largest (get_or bounds i 0) (due L n ws i) (get_or (lower L n bounds ws) i 0)
  lower_largest bounds ws i h =
      subst⁻¹ (Largest (get_or bounds i 0) (due L n ws i)) (tabulate-at (λ j. bound_of (get_or bounds j 0) (due L n ws j)) n i h)
      (bound_largest (get_or bounds i 0) (due L n ws i))

  pub lower-length : (bounds ws : List ℕ) → length (lower L n bounds ws) ≡ n
  lower-length bounds ws = tabulate-length (λ i. bound_of (get_or bounds i 0) (due L n ws i)) n

  pub lower-at : (bounds ws : List ℕ) (i : ℕ) → i < n → get_or (lower L n bounds ws) i 0 ≡ bound_of (get_or bounds i 0) (due L n ws i)
  lower-at bounds ws i h = tabulate-at (λ j. bound_of (get_or bounds j 0) (due L n ws j)) n i h

  -- ---- under these bounds no non-empty selection of the words XORs to zero

  abbrev pub AllFree : List ℕ → List ℕ → Type 0
  AllFree bounds ws = (i : ℕ) → i < n → Free (get_or bounds i 0) (due L n ws i)

  pub lower_free : (bounds ws : List ℕ) → AllFree (lower L n bounds ws) ws
  lower_free bounds ws i h = (lower_largest bounds ws i h).free

  pub lower-low : (bounds ws : List ℕ) (i : ℕ) → i < n → get_or (lower L n bounds ws) i 0 ≤ get_or bounds i 0
  lower-low bounds ws i h = (lower_largest bounds ws i h).low

  -- ---- more words

  pub due-sub : {ws vs : List ℕ} → Sublistᴰ ws vs → (i : ℕ) → Sublistᴰ (due L n ws i) (due L n vs i)
  due-sub s i = map-sub (due_as L) (keep-sub (λ w. eqb (bucket L n w) i) (λ w. eqb (bucket L n w) i) (λ w h. h) s)

  more : {ws vs : List ℕ} → Sublistᴰ ws vs → (i t : ℕ) → Free t (due L n vs i) → Free t (due L n ws i)
  more s i t = free_sub t (due-sub s i)

  pub free_part : (bounds : List ℕ) {ws vs : List ℕ} → Sublistᴰ ws vs → AllFree bounds vs → AllFree bounds ws
  free_part bounds s h i l = more s i (get_or bounds i 0) (h i l)

  pub lower_anti : (bounds : List ℕ) {ws vs : List ℕ} → Sublistᴰ ws vs → (i : ℕ) → get_or (lower L n bounds vs) i 0 ≤ get_or (lower L n bounds ws) i 0
  lower_anti bounds {ws} {vs} s i =
      cases (ltb i n)
      (λ t. let h = ltb-true i n t in
      rw (lower-at bounds vs i h, lower-at bounds ws i h) (bound_anti (due L n ws i) (due L n vs i) (more s i) (get_or bounds i 0)))
      (λ f. rw (tabulate_out (λ j. bound_of (get_or bounds j 0) (due L n vs j)) n i (ltb-false i n f)) zero-le)

  pub lower_again : (bounds : List ℕ) {ws vs : List ℕ} → Sublistᴰ ws vs → lower L n (lower L n bounds ws) vs ≡ lower L n bounds vs
  lower_again bounds {ws} {vs} s =
      tabulate_ext (λ i. bound_of (get_or (lower L n bounds ws) i 0) (due L n vs i)) (λ i. bound_of (get_or bounds i 0) (due L n vs i)) n
      (λ i h. ap (λ (b : ℕ). bound_of b (due L n vs i)) (lower-at bounds ws i h) ∙ bound_again (due L n ws i) (due L n vs i) (more s i) (get_or bounds i 0))

  -- lower bounds pass on more words
  pub passed-sub : (old bs : List ℕ) → ((i : ℕ) → get_or bs i 0 ≤ get_or old i 0) → {ws vs : List ℕ} → Sublistᴰ ws vs
      → Sublistᴰ (passed L n old ws) (passed L n bs vs)
  passed-sub old bs h =
      keep-sub (λ w. not (holds L n old w)) (λ w. not (holds L n bs w))
      (λ w t. ap not (le-ltb (threshold L w) (get_or bs (bucket L n w) 0)
      (le_trans (h (bucket L n w)) (ltb-false (threshold L w) (get_or old (bucket L n w) 0) (not-true _ t)))))

  -- ---- another order

  pub due_perm : {ws vs : List ℕ} → Permᴰ ws vs → (i : ℕ) → Permᴰ (due L n ws i) (due L n vs i)
  due_perm s i = Permᴰ.map (due_as L) (keep_perm (λ w. eqb (bucket L n w) i) s)

  pub lower_perm : (bounds : List ℕ) {ws vs : List ℕ} → Permᴰ ws vs → lower L n bounds ws ≡ lower L n bounds vs
  lower_perm bounds {ws} {vs} s =
      tabulate_ext (λ i. bound_of (get_or bounds i 0) (due L n ws i)) (λ i. bound_of (get_or bounds i 0) (due L n vs i)) n
      (λ i h. bound_perm (get_or bounds i 0) (due_perm s i))

  pub passed_perm : (bounds : List ℕ) {ws vs : List ℕ} → Permᴰ ws vs → Permᴰ (passed L n bounds ws) (passed L n bounds vs)
  passed_perm bounds s = keep_perm (λ w. not (holds L n bounds w)) s

  -- the entries whose words the level passes on
  pub passed_words : (bounds : List ℕ) (l : List Entry) → passed L n bounds (words l) ≡ words (keep (λ e. not (holds L n bounds e.word)) l)
  passed_words bounds l = keep-map (λ e. e.word) (λ w. not (holds L n bounds w)) l
