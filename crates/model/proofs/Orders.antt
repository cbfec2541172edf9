-- Adds from opening: the state that they leave is settled by the live words. So their order does not matter, neither for that state
-- nor for whether all are accepted.
-- Assumes nothing.
use Prim.Native.Nat.{ℕ, ◌≤◌}
use native.Mathlib.Nat.{le_trans}
use native.Mathlib.Omega.{arith}
use mathlib.Core.Path.{◌≡◌, sym, ap, ◌∙◌, subst, subst⁻¹}
use mathlib.Core.Bool.{true}
use mathlib.Core.List.Permᴰ
use mathlib.Core.List.Sublistᴰ
use mathlib.Core.List.{List, [], ◌∷◌, map, append-nil, Sublistᴰ, Permᴰ}
use lib.ListN.{length, get_or}
use Rattle.lists.specs.Lists.{tabulate, joined}
use Rattle.lists.specs.Entries.{Entry, words, sort, Distinct}
use Rattle.lists.proofs.Keep.{map-sub, tabulate-at, tabulate_ext, length-sub, joined_perm}
use Rattle.lists.proofs.Entries.{insert-sub}
use Rattle.lists.proofs.Sorts.{sort_perm, sort_order, fresh-sort, find_perm, distinct_perm}
use Rattle.gf2.specs.Bound.{bound_of}
use Rattle.bucket.specs.Bucket.{largest_bound}
use Rattle.model.specs.Levels.{Level, lower, passed}
use Rattle.model.specs.Model.{base_limit, Size, State, add_of, Outcome, opened, settled, base, step}
use Rattle.model.specs.Machine.{accepted, after, AllAccepted}
use Rattle.model.specs.History.{word_model}
use Rattle.model.proofs.Levels.{lower_anti, lower_again, passed-sub}
use Rattle.model.proofs.Steps.{added, accepts}

sort-sub : (es new : List Entry) → Sublistᴰ (sort es) (sort (joined es new))
sort-sub es [] = Sublistᴰ.refl (sort es)
sort-sub es (e ∷ new) = Sublistᴰ.trans (insert-sub e (sort es)) (sort-sub (e ∷ es) new)

distinct_part : (es new : List Entry) → Distinct (joined es new) → Distinct es
distinct_part es [] d = d
distinct_part es (e ∷ new) d = (distinct_part (e ∷ es) new d).1

joined-all : (es : List Entry) → Permᴰ (joined [] es) es
joined-all es = subst (Permᴰ (joined [] es)) (append-nil es) (joined_perm [] es)

module _ (L1 L2 : Level) (z : Size) where
  abbrev b1 : ℕ
  b1 = z.buckets1

  abbrev b2 : ℕ
  b2 = z.buckets2

  -- the state of these live words in a table just opened
  abbrev pub from_opening : List Entry → State
  from_opening l = settled L1 L2 (opened z) l

  lower_nil : (L : Level) (n : ℕ) → tabulate (λ i. largest_bound) n ≡ lower L n (tabulate (λ i. largest_bound) n) []
  lower_nil L n =
      tabulate_ext (λ i. largest_bound) (λ i. bound_of (get_or (tabulate (λ j. largest_bound) n) i 0) []) n
      (λ i h. sym (ap (λ (b : ℕ). bound_of b []) (tabulate-at (λ j. largest_bound) n i h)))

  opened_is : opened z ≡ from_opening []
  opened_is = λ i. record { size = z; live = []; bounds1 = lower_nil L1 b1 i; bounds2 = lower_nil L2 b2 i }

  module _ {l m : List Entry} (s : Sublistᴰ l m) where
    words-sub : Sublistᴰ (words l) (words m)
    words-sub = map-sub (λ (e : Entry). e.word) s

    -- more words pass on to the second level
    second-sub : Sublistᴰ (passed L1 b1 (from_opening l).bounds1 (words l)) (passed L1 b1 (from_opening m).bounds1 (words m))
    second-sub = passed-sub L1 b1 (from_opening l).bounds1 (from_opening m).bounds1 (lower_anti L1 b1 (opened z).bounds1 words-sub) words-sub

    -- and to the base list
    base-sub : Sublistᴰ (base L1 L2 (from_opening l)) (base L1 L2 (from_opening m))
    base-sub = passed-sub L2 b2 (from_opening l).bounds2 (from_opening m).bounds2 (lower_anti L2 b2 (opened z).bounds2 second-sub) second-sub

    -- the bounds of l, lowered for m, are those of m
    settled_again : settled L1 L2 (from_opening l) m ≡ from_opening m
    settled_again = λ i. record { size = z; live = m; bounds1 = first i; bounds2 = second i }
      where
        first : lower L1 b1 (from_opening l).bounds1 (words m) ≡ (from_opening m).bounds1
        first = lower_again L1 b1 (opened z).bounds1 words-sub

        second : lower L2 b2 (from_opening l).bounds2 (passed L1 b1 (lower L1 b1 (from_opening l).bounds1 (words m)) (words m)) ≡ (from_opening m).bounds2
        second =
            ap (λ (b : List ℕ). lower L2 b2 (from_opening l).bounds2 (passed L1 b1 b (words m))) first
            ∙ lower_again L2 b2 (opened z).bounds2 second-sub

  abbrev Fits : List Entry → Type 0
  Fits es = length (base L1 L2 (from_opening (sort es))) ≤ base_limit

  -- ---- es came first, new is added to the state that they left: where all are accepted what that leaves, and when all are

  record Ran (t : State) (all : List Entry) : Type 0 where
    leaves : t ≡ from_opening (sort all)
    distinct : Distinct all
    fits : Fits all

  ran : (new es : List Entry) (s : State) → s ≡ from_opening (sort es) → Distinct es → Fits es
      → AllAccepted (word_model L1 L2) s (map add_of new) → Ran (after (word_model L1 L2) s (map add_of new)) (joined es new)
  ran [] es s q d h a = record { leaves = q; distinct = d; fits = h }
  ran (e ∷ new) es s q d h a =
      let r = added L1 L2 (from_opening (sort es)) e (subst (λ (t : State). accepted (step L1 L2 t (add_of e)).answer ≡ true) q a.0) in
      let m = settled_again (insert-sub e (sort es)) in
      let q' : (step L1 L2 s (add_of e)).after ≡ from_opening (sort (e ∷ es)) =
      ap (λ (t : State). (step L1 L2 t (add_of e)).after) q ∙ ap (λ (o : Outcome). o.after) r.left ∙ m in
      ran new (e ∷ es) (step L1 L2 s (add_of e)).after q' (find_perm (sort_perm es) e.word r.fresh, d)
      (subst (λ (t : State). length (base L1 L2 t) ≤ base_limit) m r.fits) a.1

  runs : (new es : List Entry) (s : State) → s ≡ from_opening (sort es) → Distinct (joined es new) → Fits (joined es new)
      → AllAccepted (word_model L1 L2) s (map add_of new)
  runs [] es s q d h = tt
  runs (e ∷ new) es s q d h =
      let m = settled_again (insert-sub e (sort es)) in
      let o = accepts L1 L2 (from_opening (sort es)) e (fresh-sort e.word es (distinct_part (e ∷ es) new d).0)
      (subst⁻¹ (λ (t : State). length (base L1 L2 t) ≤ base_limit) m (le_trans (length-sub (base-sub (sort-sub (e ∷ es) new))) h)) in (
        ap (λ (t : State). accepted (step L1 L2 t (add_of e)).answer) q ∙ ap (λ (x : Outcome). accepted x.answer) o,
        runs new (e ∷ es) (step L1 L2 s (add_of e)).after (ap (λ (t : State). (step L1 L2 t (add_of e)).after) q ∙ ap (λ (x : Outcome). x.after) o ∙ m) d h,
      )

  -- ---- from opening

  start : (es : List Entry) → AllAccepted (word_model L1 L2) (opened z) (map add_of es) → Ran (after (word_model L1 L2) (opened z) (map add_of es)) (joined [] es)
  start es a = ran es [] (opened z) opened_is tt (omega arith) a

  -- what accepted adds leave is settled by their words and plans
  pub adds_leave : (es : List Entry) → AllAccepted (word_model L1 L2) (opened z) (map add_of es)
      → after (word_model L1 L2) (opened z) (map add_of es) ≡ settled L1 L2 (opened z) (sort es)
  adds_leave es a = (start es a).leaves ∙ ap from_opening (sort_order (joined-all es) (start es a).distinct)

  pub order_free : {ds es : List Entry} → Permᴰ ds es → AllAccepted (word_model L1 L2) (opened z) (map add_of ds)
      → AllAccepted (word_model L1 L2) (opened z) (map add_of es)
      × (after (word_model L1 L2) (opened z) (map add_of ds) ≡ after (word_model L1 L2) (opened z) (map add_of es))
  order_free {ds} {es} s a =
      let d = (start ds a).distinct in
      let j = Permᴰ.trans (joined-all ds) (Permᴰ.trans s (Permᴰ.symm (joined-all es))) in
      let other = runs es [] (opened z) opened_is (distinct_perm j d)
      (subst (λ (l : List Entry). length (base L1 L2 (from_opening l)) ≤ base_limit) (sort_order j d) (start ds a).fits) in
      (other, adds_leave ds a ∙ ap from_opening (sort_order s (distinct_perm (joined-all ds) d)) ∙ sym (adds_leave es other))
