-- A cursor over the base list: where a word stands in an ascending list, and one entry removed or entered there.
-- Assumes nothing.
use Prim.Native.Nat.{ℕ, zero, suc, ◌≤◌, ◌<◌, ◌+◌}
use native.Mathlib.Nat.{le_of_lt}
use native.Mathlib.Omega.{arith}
use mathlib.Core.Path.{◌≡◌, refl, sym, ap, ◌∙◌}
use mathlib.Core.Bool.{true, false}
use mathlib.Core.Option.{none, some}
use mathlib.Core.Option as Math
use mathlib.Core.List.{List, [], ◌∷◌, ◌++◌, append_assoc}
use lib.Dec.{eqb, ltb}
use lib.ListN.{length, take, drop, take-append-drop, length-drop}
use lib.Seq.{append_snoc, length-take-le}
use borrow.Author.Tests.{ltb-true, ltb-false, eqb-true, eqb-false, lt-ltb, le-ltb, eq-eqb, ne_eqb}
use Rattle.std.specs.Prelude.{Option, Some, None}
use Rattle.std.specs.Option.{is_some}
use Rattle.lists.specs.Lists.{Every}
use Rattle.lists.specs.Entries.{Entry, find, insert, update, remove, Above, Ascending}
use Rattle.lists.proofs.Tests.{cases, by_test, cond_false}
use Rattle.lists.proofs.Every.{every, every_append}
use Rattle.lists.proofs.Entries.{none_find, above_mem, above_up}
use Rattle.patch.specs.Base.{is_there, enter}
use Rattle.patch.specs.Cursor.{below, plan_first, after}

-- ---- smaller words in front: what is found, removed or entered is so behind them

-- each word of the list is below w
abbrev pub Low : ℕ → List Entry → Type 0
Low w es = Every (λ e. e.word < w) es

pub low_up : (v w : ℕ) → v ≤ w → (es : List Entry) → Low v es → Low w es
low_up v w l es h = every {P = λ (e : Entry). e.word < v} {Q = λ (e : Entry). e.word < w} (λ e p. omega arith) es h

module _ (w : ℕ) where
  pub find-low : (a r : List Entry) → Low w a → find w (a ++ r) ≡ find w r
  find-low [] r h = refl
  find-low (x ∷ a) r h = rw (ne_eqb w x.word (λ e. omega (arith, h.0, e))) (find-low a r h.1)

  remove-low : (a r : List Entry) → Low w a → remove w (a ++ r) ≡ a ++ remove w r
  remove-low [] r h = refl
  remove-low (x ∷ a) r h = rw (ne_eqb w x.word (λ e. omega (arith, h.0, e))) (ap {B = List Entry} (λ l. x ∷ l) (remove-low a r h.1))

module _ (e : Entry) where
  update-low : (a r : List Entry) → Low e.word a → update e (a ++ r) ≡ a ++ update e r
  update-low [] r h = refl
  update-low (x ∷ a) r h = rw (ne_eqb e.word x.word (λ q. omega (arith, h.0, q))) (ap {B = List Entry} (λ l. x ∷ l) (update-low a r h.1))

  insert-low : (a r : List Entry) → Low e.word a → insert e (a ++ r) ≡ a ++ insert e r
  insert-low [] r h = refl
  insert-low (x ∷ a) r h = rw (le-ltb e.word x.word (le_of_lt h.0)) (ap {B = List Entry} (λ l. x ∷ l) (insert-low a r h.1))

  enter-low : (a r : List Entry) → Low e.word a → enter e (a ++ r) ≡ a ++ enter e r
  enter-low a r h =
      rw (find-low e.word a r h, update-low a r h, insert-low a r h)
      (cases (is_there (find e.word r)) (λ t. rw t) (λ f. rw f))

-- ---- a list with no smaller word in front

-- a plan, or none, as `find` gives it
abbrev pub found : Option ℕ → Math.Option ℕ
found None = none
found (Some p) = some p

-- no word is below 0
pub below_zero : (es : List Entry) → below 0 es ≡ 0
below_zero [] = refl
below_zero (e ∷ es) = cond_false (suc (below 0 es)) 0 (le-ltb e.word 0 (omega arith))

module _ (w : ℕ) where
  pub none_above : (es : List Entry) → Above w es → find w es ≡ none
  none_above es h = none_find w es (λ x m e. let l = above_mem w es h x m in omega (arith, e))

  pub not_below : (x : Entry) (r : List Entry) → below w (x ∷ r) ≡ 0 → w ≤ x.word
  not_below x r z = cases (ltb x.word w) (λ t. absurd (let k : suc (below w r) ≡ 0 = rw t at z in omega arith)) (λ g. ltb-false x.word w g)

  -- another word in front is larger, and so are all
  pub larger : (x : Entry) (r : List Entry) → Ascending (x ∷ r) → below w (x ∷ r) ≡ 0 → eqb x.word w ≡ false → Above w (x ∷ r)
  larger x r a z f =
      let l : w < x.word = omega (arith, not_below x r z, eqb-false x.word w f) in
      (l, above_up l r a.0)

  find-front : (r : List Entry) → Ascending r → below w r ≡ 0 → find w r ≡ found (plan_first w r)
  find-front [] a z = refl
  find-front (x ∷ r) a z =
      cases (eqb x.word w)
      (λ t. rw (eq-eqb w x.word (sym (eqb-true x.word w t)), t))
      (λ f. rw (none_above (x ∷ r) (larger x r a z f), f))

  -- a lower word is not there
  find-lower : (v : ℕ) → v < w → (r : List Entry) → below w r ≡ 0 → (below v r ≡ 0) × (plan_first v r ≡ None)
  find-lower v l [] z = (refl, refl)
  find-lower v l (x ∷ r) z =
      let k = not_below x r z in
      (cond_false (suc (below v r)) 0 (le-ltb x.word v (omega arith)), rw (ne_eqb x.word v (λ q. omega (arith, q))))

  -- the words behind it are larger
  after-ascending : (r : List Entry) → Ascending r → Ascending (after w r)
  after-ascending [] a = tt
  after-ascending (x ∷ r) a = by_test (λ (l : List Entry). Ascending l) (eqb x.word w) (λ t. a.1) (λ f. a)

  above-below : (r : List Entry) → Above w r → below (suc w) r ≡ 0
  above-below [] h = refl
  above-below (x ∷ r) h = cond_false (suc (below (suc w) r)) 0 (le-ltb x.word (suc w) (omega (arith, h.0)))

  after-below : (r : List Entry) → Ascending r → below w r ≡ 0 → below (suc w) (after w r) ≡ 0
  after-below [] a z = refl
  after-below (x ∷ r) a z =
      cases (eqb x.word w)
      (λ t. rw t (above-below r (rw (eqb-true x.word w t) at a.0)))
      (λ f. rw f (above-below (x ∷ r) (larger x r a z f)))

  after-find : (v : ℕ) → w < v → (r : List Entry) → find v (after w r) ≡ find v r
  after-find v l [] = refl
  after-find v l (x ∷ r) =
      cases (eqb x.word w) (λ t. rw (t, ne_eqb v x.word (λ q. omega (arith, q, eqb-true x.word w t)))) (λ f. rw f)

  remove-front : (r : List Entry) → Ascending r → below w r ≡ 0 → remove w r ≡ after w r
  remove-front [] a z = refl
  remove-front (x ∷ r) a z =
      cases (eqb x.word w)
      (λ t. rw (eq-eqb w x.word (sym (eqb-true x.word w t)), t))
      (λ f. rw f (none_removed (x ∷ r) (larger x r a z f)))
    where
      none_removed : (l : List Entry) → Above w l → remove w l ≡ l
      none_removed [] h = refl
      none_removed (y ∷ l) h = rw (ne_eqb w y.word (λ q. omega (arith, h.0, q))) (ap {B = List Entry} (λ m. y ∷ m) (none_removed l h.1))

-- an entry takes the place of the one in front, if that has its word
enter-front : (e : Entry) (r : List Entry) → Ascending r → below e.word r ≡ 0 → enter e r ≡ e ∷ after e.word r
enter-front e [] a z = refl
enter-front e (x ∷ r) a z =
    cases (eqb x.word e.word)
    (λ t. rw (eq-eqb e.word x.word (sym (eqb-true x.word e.word t)), t))
    (λ f. let h = larger e.word x r a z f in rw (none_above e.word (x ∷ r) h, lt-ltb e.word x.word h.0, f))

-- ---- the place of a word

pub ascending_drop : (i : ℕ) (es : List Entry) → Ascending es → Ascending (drop i es)
ascending_drop zero es a = a
ascending_drop (suc i) [] a = a
ascending_drop (suc i) (x ∷ es) a = ascending_drop i es a.1

module _ (w : ℕ) where
  -- the entries from the first word on that is not below w
  abbrev pub from : List Entry → List Entry
  from es = drop (below w es) es

  pub below_length : (es : List Entry) → below w es ≤ length es
  below_length [] = omega arith
  below_length (e ∷ es) =
      by_test (λ (i : ℕ). i ≤ suc (length es)) (ltb e.word w) (λ t. let h = below_length es in omega arith) (λ f. omega arith)

  pub below-low : (es : List Entry) → Low w (take (below w es) es)
  below-low [] = tt
  below-low (e ∷ es) = cases (ltb e.word w) (λ t. rw t (ltb-true e.word w t, below-low es)) (λ f. rw f tt)

  below-from : (es : List Entry) → below w (from es) ≡ 0
  below-from [] = refl
  below-from (e ∷ es) = cases (ltb e.word w) (λ t. rw t (below-from es)) (λ f. rw (f, f))

  pub find-below : (R : List Entry) (v : ℕ) → w ≤ v → find v R ≡ find v (from R)
  find-below R v l =
      ap (find v) (sym (take-append-drop (below w R) R)) ∙ find-low v (take (below w R) R) (from R) (low_up w v l (take (below w R) R) (below-low R))

-- an entry removed or entered there: a are the entries before R
module _ (w : ℕ) (a R : List Entry) (l : Low w a) where
  abbrev front : List Entry
  front = a ++ take (below w R) R

  pub low-front : Low w front
  low-front = every_append (λ e. e.word < w) a (take (below w R) R) l (below-low w R)

  split : a ++ R ≡ front ++ from w R
  split = ap (λ (r : List Entry). a ++ r) (sym (take-append-drop (below w R) R)) ∙ sym (append_assoc a (take (below w R) R) (from w R))

  pub remove-at : Ascending R → remove w (a ++ R) ≡ front ++ after w (from w R)
  remove-at s =
      ap (remove w) split ∙ remove-low w front (from w R) low-front
      ∙ ap (λ (r : List Entry). front ++ r) (remove-front w (from w R) (ascending_drop (below w R) R s) (below-from w R))

pub enter-at : (e : Entry) (a R : List Entry) → Low e.word a → Ascending R → enter e (a ++ R) ≡ ((a ++ take (below e.word R) R) ++ e ∷ []) ++ after e.word (from e.word R)
enter-at e a R l s =
    let before : List Entry = a ++ take (below e.word R) R in
    ap (enter e) (split e.word a R l) ∙ enter-low e before (from e.word R) (low-front e.word a R l)
    ∙ ap (λ (x : List Entry). before ++ x) (enter-front e (from e.word R) (ascending_drop (below e.word R) R s) (below-from e.word R)) ∙ sym (append_snoc before e _)

-- ---- the cursor: `left` are the entries of R that are still to come, and no word below `least` is sought any more

pub record Left (least : ℕ) (R left : List Entry) : Type 0 where
  pub ascending : Ascending left
  pub ahead : below least left ≡ 0
  pub same : (v : ℕ) → least ≤ v → find v R ≡ find v left

pub left_all : (R : List Entry) → Ascending R → Left 0 R R
left_all R a = record { ascending = a; ahead = below_zero R; same = λ v l. refl }

module _ {least : ℕ} {R left : List Entry} (h : Left least R left) (w : ℕ) where
  pub left_find : least ≤ w → find w R ≡ found (plan_first w (from w left))
  left_find l = h.same w l ∙ find-below w left w (omega arith) ∙ find-front w (from w left) (ascending_drop (below w left) left h.ascending) (below-from w left)

  pub left_lower : w < least → plan_first w (from w left) ≡ None
  left_lower l =
      let n = find-lower least w l left h.ahead in
      rw n.0 n.1

  pub left_next : least ≤ w → Left (suc w) R (after w (from w left))
  left_next l = record {
    ascending = after-ascending w (from w left) (ascending_drop (below w left) left h.ascending);
    ahead = after-below w (from w left) (ascending_drop (below w left) left h.ascending) (below-from w left);
    same = λ v k. h.same v (omega arith) ∙ find-below w left v (omega arith) ∙ sym (after-find w v k (from w left));
  }

-- a word is there if it has a plan
pub there_some : (o : Option ℕ) → is_there (found o) ≡ is_some o
there_some None = refl
there_some (Some p) = refl

-- the entries before and after it, and itself, are no more than those of the list
pub place_length : (w : ℕ) (es : List Entry) → length (take (below w es) es) + length (after w (from w es)) ≤ length es
place_length w es = omega (arith, below_length w es, length-take-le (below w es) es (below_length w es), length-drop (below w es) es, after-length (from w es))
  where
    after-length : (r : List Entry) → length (after w r) ≤ length r
    after-length [] = omega arith
    after-length (x ∷ r) = by_test (λ (l : List Entry). length l ≤ suc (length r)) (eqb x.word w) (λ t. omega arith) (λ f. omega arith)

pub place-fewer : (w : ℕ) (es : List Entry) → is_some (plan_first w (from w es)) ≡ true → length (take (below w es) es) + 1 + length (after w (from w es)) ≤ length es
place-fewer w es h = omega (arith, length-take-le (below w es) es (below_length w es), length-drop (below w es) es, below_length w es, after-fewer (from w es) h)
  where
    after-fewer : (r : List Entry) → is_some (plan_first w r) ≡ true → 1 + length (after w r) ≤ length r
    after-fewer [] e = cc
    after-fewer (x ∷ r) e = cases (eqb x.word w) (λ t. rw t (omega arith)) (λ f. let z : false ≡ true = rw f at e in cc)
