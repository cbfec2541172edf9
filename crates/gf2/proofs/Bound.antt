-- A bucket's bound is the largest that keeps the words due there independent; to lower it for one word after the other is to lower it
-- once for all of them; and the bound that falls by one while a new word depends is that bound.
-- Assumes nothing.
use Prim.Native.Nat.{ℕ, zero, suc, ◌≤◌, zero-le}
use native.Mathlib.Nat.{le_refl, le_trans, le_antisymm, le_step, le-suc, le-suc_iff}
use mathlib.Core.Path.{◌≡◌, refl, sym, ap, ◌∙◌}
use mathlib.Core.Bool.{Bool, true, false, cond, not, ◌&&◌, true≢false}
use mathlib.Core.Logic.{⊎_elim}
use mathlib.Core.List.Permᴰ
use mathlib.Core.List.Sublistᴰ
use mathlib.Core.List.{List, [], ◌∷◌, Sublistᴰ, Permᴰ, map}
use lib.Dec.{ltb}
use borrow.Author.Tests.{lt-ltb, le-ltb, ltb-true}
use Rattle.lists.proofs.Tests.{by_test, cases, cond_true, cond_false, T→true, true→T}
use Rattle.lists.proofs.Keep.{keep_none, keep-sub, keep_perm, map-sub}
use Rattle.gf2.specs.Select.{elem, sums, indep}
use Rattle.gf2.specs.Bound.{Due, under, Free, bound_of, Largest}
use Rattle.gf2.proofs.Select.{indep_cons, indep_subᴰ, indep_permᴰ}

indep-part : {xs ys : List ℕ} → Sublistᴰ xs ys → indep ys ≡ true → indep xs ≡ true
indep-part {xs} s e = T→true (indep xs) (indep_subᴰ s (true→T e))

-- ---- what is selected under a bound

under_zero : (ds : List Due) → under 0 ds ≡ []
under_zero ds = ap (map (λ (d : Due). d.vector)) (keep_none (λ d. ltb d.threshold 0) ds (λ d. le-ltb d.threshold 0 zero-le))

pub free_zero : (ds : List Due) → Free 0 ds
free_zero ds = ap indep (under_zero ds)

pub free_sub : (t : ℕ) {ds es : List Due} → Sublistᴰ ds es → Free t es → Free t ds
free_sub t s = indep-part (map-sub (λ d. d.vector) (keep-sub (λ d. ltb d.threshold t) (λ d. ltb d.threshold t) (λ d h. h) s))

-- what is independent under a bound is so under a smaller one
pub free_down : (ds : List Due) {k t : ℕ} → k ≤ t → Free t ds → Free k ds
free_down ds {k} {t} h =
    indep-part (map-sub (λ d. d.vector) (keep-sub (λ d. ltb d.threshold k) (λ d. ltb d.threshold t)
    (λ d l. lt-ltb d.threshold t (le_trans (ltb-true d.threshold k l) h)) (Sublistᴰ.refl ds)))

pub free_perm : (t : ℕ) {ds es : List Due} → Permᴰ ds es → Free t es → Free t ds
free_perm t s e = indep_permᴰ (Permᴰ.map (λ d. d.vector) (keep_perm (λ d. ltb d.threshold t) s)) ∙ e

-- ---- the laws of the bound

pub bound-low : (old : ℕ) (ds : List Due) → bound_of old ds ≤ old
bound-low zero ds = le_refl 0
bound-low (suc t) ds = by_test (λ (n : ℕ). n ≤ suc t) (indep (under (suc t) ds)) (λ h. le_refl (suc t)) (λ h. le_step (bound-low t ds))

pub bound_free : (old : ℕ) (ds : List Due) → Free (bound_of old ds) ds
bound_free zero ds = free_zero ds
bound_free (suc t) ds = by_test (λ (n : ℕ). Free n ds) (indep (under (suc t) ds)) (λ h. h) (λ h. bound_free t ds)

pub bound_most : (old : ℕ) (ds : List Due) (t : ℕ) → t ≤ old → Free t ds → t ≤ bound_of old ds
bound_most zero ds t le f = le
bound_most (suc o) ds t le f =
    by_test (λ (n : ℕ). t ≤ n) (indep (under (suc o) ds)) (λ h. le)
    (λ h. ⊎_elim (λ l. bound_most o ds t l f) (λ (e : t ≡ suc o). absurd (true≢false (sym f ∙ ap (λ (n : ℕ). indep (under n ds)) e ∙ h))) (le-suc_iff.0 le))

pub bound_largest : (old : ℕ) (ds : List Due) → Largest old ds (bound_of old ds)
bound_largest old ds = record { low = bound-low old ds; free = bound_free old ds; most = bound_most old ds }

-- what is the largest is the bound
pub largest-bound : {old : ℕ} {ds : List Due} {b : ℕ} → Largest old ds b → bound_of old ds ≡ b
largest-bound {old} {ds} {b} l =
    le_antisymm (l.most (bound_of old ds) (bound-low old ds) (bound_free old ds)) (bound_most old ds b l.low l.free)

pub bound-keep : (old : ℕ) (ds : List Due) → Free old ds → bound_of old ds ≡ old
bound-keep old ds f = le_antisymm (bound-low old ds) (bound_most old ds old (le_refl old) f)

-- where es asks at least what ds asks: its bound is not larger, and to lower the bound for ds first changes nothing
module _ (ds es : List Due) (more : (t : ℕ) → Free t es → Free t ds) where
  pub bound_anti : (old : ℕ) → bound_of old es ≤ bound_of old ds
  bound_anti old = bound_most old ds (bound_of old es) (bound-low old es) (more (bound_of old es) (bound_free old es))

  pub bound_again : (old : ℕ) → bound_of (bound_of old ds) es ≡ bound_of old es
  bound_again old =
      le_antisymm
      (bound_most old es (bound_of (bound_of old ds) es) (le_trans (bound-low (bound_of old ds) es) (bound-low old ds)) (bound_free (bound_of old ds) es))
      (bound_most (bound_of old ds) es (bound_of old es) (bound_anti old) (bound_free old es))

pub bound_perm : (old : ℕ) {ds es : List Due} → Permᴰ ds es → bound_of old ds ≡ bound_of old es
bound_perm old {ds} {es} s =
    le_antisymm (bound_anti es ds (λ t. free_perm t (Permᴰ.symm s)) old) (bound_anti ds es (λ t. free_perm t s) old)

-- ---- the fall

-- a vector more: independent exactly when the others are and it is the XOR of no selection of them
indep-more : (x : ℕ) (xs : List ℕ) → indep xs ≡ true → indep (x ∷ xs) ≡ not (elem x (sums xs))
indep-more x xs h = indep_cons x xs ∙ ap (λ (b : Bool). b && not (elem x (sums xs))) h

-- the bound of one bucket falls by one while the new word, if it is under the bound, depends on those held under it
abbrev pub fall : ℕ → Due → List Due → ℕ
fall zero d ds = zero
fall (suc t) d ds = cond (ltb d.threshold (suc t) && elem d.vector (sums (under (suc t) ds))) (fall t d ds) (suc t)

-- where the others are independent: one more is not, exactly when it is under the bound and depends on them
pub free_cons : (t : ℕ) (d : Due) (ds : List Due) → Free t ds
    → indep (under t (d ∷ ds)) ≡ not (ltb d.threshold t && elem d.vector (sums (under t ds)))
free_cons t d ds h = cases (ltb d.threshold t) (λ l. rw l (indep-more d.vector (under t ds) h)) (λ g. rw g h)

cond_flip : (b : Bool) {c : Bool} (x : ℕ) {y z : ℕ} → c ≡ not b → y ≡ z → cond b y x ≡ cond c x z
cond_flip true x {z = z} e q = q ∙ sym (cond_false x z e)
cond_flip false x {z = z} e q = sym (cond_true x z e)

pub fall-bound : (t : ℕ) (d : Due) (ds : List Due) → Free t ds → fall t d ds ≡ bound_of t (d ∷ ds)
fall-bound zero d ds h = refl
fall-bound (suc t) d ds h =
    cond_flip (ltb d.threshold (suc t) && elem d.vector (sums (under (suc t) ds))) (suc t) (free_cons (suc t) d ds h)
    (fall-bound t d ds (free_down ds (le-suc t) h))
