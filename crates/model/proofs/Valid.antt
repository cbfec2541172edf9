-- What every state has that calls reach from an opening, and a lift of such a state.
-- Assumes nothing.
use Prim.Native.Nat.{ℕ, ◌<◌, ◌≤◌, zero-le}
use native.Mathlib.Nat.{le_trans, le_refl, le_of_eq}
use native.Mathlib.Omega.{arith}
use mathlib.Core.Path.{◌≡◌, refl, subst⁻¹}
use mathlib.Core.List.Sublistᴰ
use mathlib.Core.List.{List, Sublistᴰ}
use lib.Dec.{ltb}
use lib.ListN.{length, get_or, get_or-eq_default}
use borrow.Author.Tests.{ltb-true, ltb-false}
use Rattle.lists.specs.Lists.{tabulate}
use Rattle.lists.specs.Entries.{Entry, words, insert, update, remove, Ascending}
use Rattle.lists.proofs.Tests.{cases}
use Rattle.lists.proofs.Keep.{map-sub, length-sub, tabulate-at, tabulate-length}
use Rattle.lists.proofs.Entries.{insert_ascending, remove-sub, remove_ascending, update-words, update_ascending}
use Rattle.bucket.specs.Bucket.{largest_bound}
use Rattle.model.specs.Levels.{Level, lower, passed}
use Rattle.model.specs.Model.{base_limit, Size, State, Call, opened, with_live, settled, base, step, lifted}
use Rattle.model.proofs.Steps.{by_step}
use Rattle.model.proofs.Levels.{AllFree, lower_largest, lower_free, lower-low, lower-length, free_part, passed-sub}

module _ (L1 L2 : Level) where
  pub record Valid (s : State) : Type 0 where
    pub ascending : Ascending s.live
    pub length1 : length s.bounds1 ≡ s.size.buckets1
    pub length2 : length s.bounds2 ≡ s.size.buckets2
    pub low1 : (i : ℕ) → i < s.size.buckets1 → get_or s.bounds1 i 0 ≤ largest_bound
    pub low2 : (i : ℕ) → i < s.size.buckets2 → get_or s.bounds2 i 0 ≤ largest_bound
    pub free1 : AllFree L1 s.size.buckets1 s.bounds1 (words s.live)
    pub free2 : AllFree L2 s.size.buckets2 s.bounds2 (passed L1 s.size.buckets1 s.bounds1 (words s.live))
    pub fits : length (base L1 L2 s) ≤ base_limit

  pub valid_opened : (z : Size) → Valid (opened z)
  valid_opened z = record {
    ascending = tt;
    length1 = tabulate-length (λ i. largest_bound) z.buckets1;
    length2 = tabulate-length (λ i. largest_bound) z.buckets2;
    low1 = λ i h. le_of_eq (tabulate-at (λ j. largest_bound) z.buckets1 i h);
    low2 = λ i h. le_of_eq (tabulate-at (λ j. largest_bound) z.buckets2 i h);
    free1 = λ i h. refl;
    free2 = λ i h. refl;
    fits = omega arith;
  }

  -- some words go, or plans change
  pub valid_live : (s : State) → Valid s → (l : List Entry) → Ascending l → Sublistᴰ (words l) (words s.live) → Valid (with_live s l)
  valid_live s v l a u =
      let w = passed-sub L1 s.size.buckets1 s.bounds1 s.bounds1 (λ i. le_refl _) u in
      record {
        ascending = a;
        length1 = v.length1;
        length2 = v.length2;
        low1 = v.low1;
        low2 = v.low2;
        free1 = free_part L1 s.size.buckets1 s.bounds1 u v.free1;
        free2 = free_part L2 s.size.buckets2 s.bounds2 w v.free2;
        fits = le_trans (length-sub (passed-sub L2 s.size.buckets2 s.bounds2 s.bounds2 (λ i. le_refl _) w)) v.fits;
      }

  -- the bounds are lowered for the live words l
  pub valid_settled : (s : State) → Valid s → (l : List Entry) → Ascending l → length (base L1 L2 (settled L1 L2 s l)) ≤ base_limit → Valid (settled L1 L2 s l)
  valid_settled s v l a h =
      let first : List ℕ = (settled L1 L2 s l).bounds1 in
      record {
        ascending = a;
        length1 = lower-length L1 s.size.buckets1 s.bounds1 (words l);
        length2 = lower-length L2 s.size.buckets2 s.bounds2 (passed L1 s.size.buckets1 first (words l));
        low1 = λ i k. le_trans (lower-low L1 s.size.buckets1 s.bounds1 (words l) i k) (v.low1 i k);
        low2 = λ i k. le_trans (lower-low L2 s.size.buckets2 s.bounds2 (passed L1 s.size.buckets1 first (words l)) i k) (v.low2 i k);
        free1 = lower_free L1 s.size.buckets1 s.bounds1 (words l);
        free2 = lower_free L2 s.size.buckets2 s.bounds2 (passed L1 s.size.buckets1 first (words l));
        fits = h;
      }

  pub valid_step : (s : State) (c : Call ℕ) → Valid s → Valid (step L1 L2 s c).after
  valid_step s c v =
      by_step L1 L2 s (λ c o. Valid o.after) (λ c a r k. v)
      (λ e a. valid_settled s v (insert e s.live) (insert_ascending e s.live v.ascending a.fresh) a.fits)
      (λ e q f. valid_live s v (update e s.live) (update_ascending e s.live v.ascending)
      (subst⁻¹ (λ (ws : List ℕ). Sublistᴰ ws (words s.live)) (update-words e s.live) (Sublistᴰ.refl (words s.live))))
      (λ w q f. valid_live s v (remove w s.live) (remove_ascending w s.live v.ascending) (map-sub (λ (e : Entry). e.word) (remove-sub w s.live)))
      (λ w q. v) c

-- ---- a lift raises each bound to the largest for the live words: no bound falls, and the base list loses words or stays

-- bounds under which the words vs are free are not above those that the words ws, some of them, leave from the largest
raised : (L : Level) (n : ℕ) (bounds : List ℕ) {ws vs : List ℕ} → ((i : ℕ) → i < n → get_or bounds i 0 ≤ largest_bound) → length bounds ≡ n
    → AllFree L n bounds vs → Sublistᴰ ws vs → (i : ℕ) → get_or bounds i 0 ≤ get_or (lower L n (tabulate (λ j. largest_bound) n) ws) i 0
raised L n bounds {ws} {vs} low len h u i =
    cases (ltb i n)
    (λ t. let l = ltb-true i n t in
    (lower_largest L n (tabulate (λ j. largest_bound) n) ws i l).most (get_or bounds i 0)
    (subst⁻¹ (λ (b : ℕ). get_or bounds i 0 ≤ b) (tabulate-at (λ j. largest_bound) n i l) (low i l))
    (free_part L n bounds u h i l))
    (λ f. le_trans (le_of_eq (get_or-eq_default bounds 0 (subst⁻¹ (λ (m : ℕ). m ≤ i) len (ltb-false i n f)))) zero-le)

module _ (L1 L2 : Level) (s : State) (v : Valid L1 L2 s) where
  lift_second : Sublistᴰ (passed L1 s.size.buckets1 (lifted L1 L2 s).bounds1 (words s.live)) (passed L1 s.size.buckets1 s.bounds1 (words s.live))
  lift_second =
      passed-sub L1 s.size.buckets1 (lifted L1 L2 s).bounds1 s.bounds1
      (raised L1 s.size.buckets1 s.bounds1 v.low1 v.length1 v.free1 (Sublistᴰ.refl (words s.live))) (Sublistᴰ.refl (words s.live))

  pub lift_base : Sublistᴰ (base L1 L2 (lifted L1 L2 s)) (base L1 L2 s)
  lift_base =
      passed-sub L2 s.size.buckets2 (lifted L1 L2 s).bounds2 s.bounds2
      (raised L2 s.size.buckets2 s.bounds2 v.low2 v.length2 v.free2 lift_second) lift_second

  -- so it never overfills the base list, and leaves a valid state
  pub lift_fits : length (base L1 L2 (lifted L1 L2 s)) ≤ base_limit
  lift_fits = le_trans (length-sub lift_base) v.fits
