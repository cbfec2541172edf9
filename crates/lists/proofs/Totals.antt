-- Totals: what an entry more or less changes; the order of the entries does not matter; their sum is the number of entries.
-- Assumes nothing.
use Prim.Native.Nat.{ℕ, zero, suc, ◌+◌, ◌-◌, ◌≤◌, ◌<◌, zero-le}
use native.Mathlib.Nat.{not-suc-le-zero, le_of_suc-le-suc}
use native.Mathlib.Omega.{arith}
use mathlib.Core.Path.{◌≡◌, refl, sym, ap, ap₂, ◌∙◌}
use mathlib.Core.Option.{some}
use mathlib.Core.List.Memᴰ
use mathlib.Core.List.{List, [], ◌∷◌, ◌++◌, map, Permᴰ, Memᴰ}
use lib.Dec.{eqb}
use lib.ListN.{length, get_or, replicate, length-append}
use borrow.Author.Tests.{eq-eqb, ne_eqb}
use Rattle.lists.specs.Lists.{keep, tabulate}
use Rattle.lists.specs.Entries.{Entry, find, insert, update, remove}
use Rattle.lists.specs.Totals.{plan_count, totals_of, one_more, one_less, sum_of}
use Rattle.lists.proofs.Tests.{cases, cond_true, cond_false}
use Rattle.lists.proofs.Keep.{keep_perm, keep-within, keep_in, length-sub, perm_length, tabulate-at, tabulate_ext, tabulate-length}
use Rattle.lists.proofs.Entries.{insert_perm, remove_perm, update_perm}

-- ---- one plan

count_here : (e : Entry) (es : List Entry) → plan_count e.plan (e ∷ es) ≡ suc (plan_count e.plan es)
count_here e es = ap length (cond_true _ _ (eq-eqb e.plan e.plan refl))

count_past : (p : ℕ) (e : Entry) (es : List Entry) → (p ≡ e.plan → ⊥) → plan_count p (e ∷ es) ≡ plan_count p es
count_past p e es h = ap length (cond_false _ _ (ne_eqb e.plan p (λ q. h (sym q))))

pub count_perm : (p : ℕ) {es fs : List Entry} → Permᴰ es fs → plan_count p es ≡ plan_count p fs
count_perm p s = perm_length (keep_perm (λ e. eqb e.plan p) s)

pub count_append : (p : ℕ) (es fs : List Entry) → plan_count p (es ++ fs) ≡ plan_count p es + plan_count p fs
count_append p [] fs = omega arith
count_append p (e ∷ es) fs = let h = count_append p es fs in cases (eqb e.plan p) (λ t. rw t (omega arith)) (λ f. rw f h)

-- the words do not matter
pub count_map : (f : Entry → Entry) → ((e : Entry) → (f e).plan ≡ e.plan) → (p : ℕ) (es : List Entry) → plan_count p (map f es) ≡ plan_count p es
count_map f h p [] = refl
count_map f h p (e ∷ es) = let g = count_map f h p es in rw (h e) (cases (eqb e.plan p) (λ t. rw t (ap suc g)) (λ q. rw q g))

-- a plan is counted 0 times exactly if no entry has it
pub count_none : (p : ℕ) (es : List Entry) → ((e : Entry) → Memᴰ e es → e.plan ≡ p → ⊥) → plan_count p es ≡ 0
count_none p [] h = refl
count_none p (e ∷ es) h = count_past p e es (λ q. h e (Memᴰ.head refl) (sym q)) ∙ count_none p es (λ x m. h x (Memᴰ.tail m))

pub none_counted : (p : ℕ) (es : List Entry) → plan_count p es ≡ 0 → (e : Entry) → Memᴰ e es → e.plan ≡ p → ⊥
none_counted p es c e m q = go (keep (λ x. eqb x.plan p) es) c (keep_in (λ x. eqb x.plan p) es m (eq-eqb e.plan p q))
  where
    go : (xs : List Entry) → length xs ≡ 0 → Memᴰ e xs → ⊥
    go [] l k = Memᴰ.not-nil k
    go (x ∷ xs) l k = omega arith

pub count_le : (p : ℕ) (es : List Entry) → plan_count p es ≤ length es
count_le p es = length-sub (keep-within (λ e. eqb e.plan p) es)

-- ---- all of them

pub totals_length : (m : ℕ) (es : List Entry) → length (totals_of m es) ≡ m
unfolding totals_of
totals_length m es = tabulate-length (λ p. plan_count p es) m

pub totals-at : (m : ℕ) (es : List Entry) (p : ℕ) → p < m → get_or (totals_of m es) p 0 ≡ plan_count p es
unfolding totals_of
totals-at m es p l = tabulate-at (λ q. plan_count q es) m p l

pub totals_ext : (m : ℕ) (es fs : List Entry) → ((p : ℕ) → plan_count p es ≡ plan_count p fs) → totals_of m es ≡ totals_of m fs
unfolding totals_of
totals_ext m es fs h = tabulate_ext (λ p. plan_count p es) (λ p. plan_count p fs) m (λ p l. h p)

pub totals_perm : (m : ℕ) {es fs : List Entry} → Permᴰ es fs → totals_of m es ≡ totals_of m fs
totals_perm m {es} {fs} s = totals_ext m es fs (λ p. count_perm p s)

pub totals_none : (m : ℕ) → totals_of m [] ≡ replicate m 0
unfolding totals_of
totals_none zero = refl
totals_none (suc m) = ap {B = List ℕ} (λ l. 0 ∷ l) (totals_none m)

-- ---- one entry more, one less

more-at : (f g : ℕ → ℕ) (m p : ℕ) → g p ≡ suc (f p) → ((i : ℕ) → (i ≡ p → ⊥) → g i ≡ f i) → tabulate g m ≡ one_more p (tabulate f m)
more-at f g zero p h k = refl
more-at f g (suc m) zero h k = ap₂ {C = List ℕ} ◌∷◌ h (tabulate_ext (λ j. g (suc j)) (λ j. f (suc j)) m (λ i l. k (suc i) (λ e. omega arith)))
more-at f g (suc m) (suc p) h k = ap₂ {C = List ℕ} ◌∷◌ (k 0 (λ e. omega arith)) (more-at (λ j. f (suc j)) (λ j. g (suc j)) m p h (λ i n. k (suc i) (λ e. n (omega arith))))

pub totals_cons : (m : ℕ) (e : Entry) (es : List Entry) → totals_of m (e ∷ es) ≡ one_more e.plan (totals_of m es)
unfolding totals_of
totals_cons m e es = more-at (λ p. plan_count p es) (λ p. plan_count p (e ∷ es)) m e.plan (count_here e es) (λ p n. count_past p e es n)

pub less_more : (p : ℕ) (ts : List ℕ) → one_less p (one_more p ts) ≡ ts
less_more p [] = refl
less_more zero (x ∷ ts) = let e : suc x - 1 ≡ x = omega arith in ap {B = List ℕ} (λ y. y ∷ ts) e
less_more (suc p) (x ∷ ts) = ap {B = List ℕ} (λ l. x ∷ l) (less_more p ts)

pub more_less : (p : ℕ) (ts : List ℕ) → 0 < get_or ts p 0 → one_more p (one_less p ts) ≡ ts
more_less p [] h = absurd (omega arith)
more_less zero (x ∷ ts) h = let e : suc (x - 1) ≡ x = omega arith in ap {B = List ℕ} (λ y. y ∷ ts) e
more_less (suc p) (x ∷ ts) h = ap {B = List ℕ} (λ l. x ∷ l) (more_less p ts h)

pub less_le : (p q : ℕ) (ts : List ℕ) → get_or (one_less p ts) q 0 ≤ get_or ts q 0
less_le p q [] = zero-le
less_le zero zero (x ∷ ts) = omega arith
less_le zero (suc q) (x ∷ ts) = omega arith
less_le (suc p) zero (x ∷ ts) = omega arith
less_le (suc p) (suc q) (x ∷ ts) = less_le p q ts

pub totals_insert : (m : ℕ) (e : Entry) (es : List Entry) → totals_of m (insert e es) ≡ one_more e.plan (totals_of m es)
totals_insert m e es = totals_perm m (insert_perm e es) ∙ totals_cons m e es

module _ (m w q : ℕ) (es : List Entry) (f : find w es ≡ some q) where
  pub totals_found : totals_of m es ≡ one_more q (totals_of m (remove w es))
  totals_found = totals_perm m (remove_perm w q es f) ∙ totals_cons m (record { word = w; plan = q }) (remove w es)

  pub totals_remove : totals_of m (remove w es) ≡ one_less q (totals_of m es)
  totals_remove = sym (ap (one_less q) totals_found ∙ less_more q (totals_of m (remove w es)))

  pub totals_update : (p : ℕ) → totals_of m (update (record { word = w; plan = p }) es) ≡ one_more p (one_less q (totals_of m es))
  totals_update p =
      let d : Entry = record { word = w; plan = p } in
      totals_perm m (update_perm d q es f) ∙ totals_cons m d (remove w es) ∙ ap (one_more p) totals_remove

-- the plan that a word has is counted
pub count_found : (w q : ℕ) (es : List Entry) → find w es ≡ some q → 0 < plan_count q es
count_found w q es f =
    let e = count_perm q (remove_perm w q es f) ∙ count_here (record { word = w; plan = q }) (remove w es) in omega arith

-- ---- their sum

sum_zeros : (m : ℕ) → sum_of (replicate m 0) ≡ 0
sum_zeros zero = refl
sum_zeros (suc m) = let h = sum_zeros m in omega arith

sum_more : (p : ℕ) (ts : List ℕ) → p < length ts → sum_of (one_more p ts) ≡ suc (sum_of ts)
sum_more p [] h = absurd (not-suc-le-zero h)
sum_more zero (x ∷ ts) h = omega arith
sum_more (suc p) (x ∷ ts) h = let e = sum_more p ts (le_of_suc-le-suc h) in omega arith

pub totals_sum : (m : ℕ) (es : List Entry) → ((e : Entry) → Memᴰ e es → e.plan < m) → sum_of (totals_of m es) ≡ length es
totals_sum m [] h = ap sum_of (totals_none m) ∙ sum_zeros m
totals_sum m (e ∷ es) h =
    let l : e.plan < length (totals_of m es) = (let k = totals_length m es in let j = h e (Memᴰ.head refl) in omega arith) in
    ap sum_of (totals_cons m e es) ∙ sum_more e.plan (totals_of m es) l ∙ ap suc (totals_sum m es (λ x n. h x (Memᴰ.tail n)))
