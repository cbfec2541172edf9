-- What `keep`, `map` and `tabulate` do to the elements of a list, to a part of it and to its order; the numbers from a on; what stands
-- at a place of a list after `map`.
-- Assumes nothing.
use Prim.Native.Nat.{ℕ, zero, suc, ◌+◌, ◌<◌, ◌≤◌}
use native.Mathlib.Nat.{le_of_suc-le-suc, not-suc-le-zero}
use native.Mathlib.Omega.{arith}
use lib.Arith.{lt_of_le-ne}
use mathlib.Core.Path.{◌≡◌, refl, sym, ap, ap₂, ◌∙◌, subst, subst⁻¹, subst₂, fun_ext}
use mathlib.Core.Bool.{Bool, true, false, cond, not, ◌&&◌, true≢false}
use mathlib.Core.Logic.{⊎_elim}
use mathlib.Core.List.Memᴰ
use mathlib.Core.List.Permᴰ
use mathlib.Core.List.Sublistᴰ
use mathlib.Core.List.{List, [], ◌∷◌, ◌++◌, map, append_assoc, Sublistᴰ, Permᴰ, Memᴰ}
use lib.Dec.{eqb}
use lib.ListN.{length, get_or, set}
use borrow.Author.Tests.{eqb-true, eqb-false}
use Rattle.lists.specs.Lists.{keep, tabulate, count_from, joined}
use Rattle.lists.proofs.Tests.{cases, by_test, cond_false}

pub keep_none : {A : Type 0} (p : A → Bool) (xs : List A) → ((x : A) → p x ≡ false) → keep p xs ≡ []
keep_none p [] h = refl
keep_none p (x ∷ xs) h = cond_false (x ∷ keep p xs) (keep p xs) (h x) ∙ keep_none p xs h

pub keep-within : {A : Type 0} (p : A → Bool) (xs : List A) → Sublistᴰ (keep p xs) xs
keep-within p [] = Sublistᴰ.slnil
keep-within p (x ∷ xs) = by_test (λ l. Sublistᴰ l (x ∷ xs)) (p x) (λ t. Sublistᴰ.cons-cons refl (keep-within p xs)) (λ f. Sublistᴰ.cons (keep-within p xs))

pub map-sub : {A B : Type 0} (f : A → B) {xs ys : List A} → Sublistᴰ xs ys → Sublistᴰ (map f xs) (map f ys)
map-sub f Sublistᴰ.slnil = Sublistᴰ.slnil
map-sub f (Sublistᴰ.cons s) = Sublistᴰ.cons (map-sub f s)
map-sub f (Sublistᴰ.cons-cons e s) = Sublistᴰ.cons-cons (ap f e) (map-sub f s)

pub length-sub : {A : Type 0} {xs ys : List A} → Sublistᴰ xs ys → length xs ≤ length ys
length-sub Sublistᴰ.slnil = omega arith
length-sub (Sublistᴰ.cons s) = let h = length-sub s in omega arith
length-sub (Sublistᴰ.cons-cons e s) = let h = length-sub s in omega arith

-- a part as long as the list is the list
pub sub_same : {A : Type 0} {xs ys : List A} → Sublistᴰ xs ys → length xs ≡ length ys → xs ≡ ys
sub_same Sublistᴰ.slnil h = refl
sub_same (Sublistᴰ.cons s) h = let l = length-sub s in absurd (omega arith)
sub_same {A} (Sublistᴰ.cons-cons e s) h = ap₂ {C = List A} ◌∷◌ e (sub_same s (omega arith))

module _ {A : Type 0} (p q : A → Bool) (weaker : (x : A) → p x ≡ true → q x ≡ true) where
  pub keep-sub : {xs ys : List A} → Sublistᴰ xs ys → Sublistᴰ (keep p xs) (keep q ys)
  keep-sub Sublistᴰ.slnil = Sublistᴰ.slnil
  keep-sub (Sublistᴰ.cons {a = y} {l₁ = xs} s) = by_test (Sublistᴰ (keep p xs)) (q y) (λ t. Sublistᴰ.cons (keep-sub s)) (λ f. keep-sub s)
  keep-sub (Sublistᴰ.cons-cons {a = x} {b = y} {l₁ = xs} {l₂ = ys} e s) =
      subst⁻¹ (λ (z : A). Sublistᴰ (keep p (z ∷ xs)) (keep q (y ∷ ys))) e
      (by_test (λ (l : List A). Sublistᴰ l (keep q (y ∷ ys))) (p y) (λ t. rw (weaker y t) (Sublistᴰ.cons-cons refl (keep-sub s)))
      (λ f. by_test (Sublistᴰ (keep p xs)) (q y) (λ t. Sublistᴰ.cons (keep-sub s)) (λ f. keep-sub s)))

module _ {A : Type 0} (p : A → Bool) where
  pub keep_perm : {xs ys : List A} → Permᴰ xs ys → Permᴰ (keep p xs) (keep p ys)
  keep_perm Permᴰ.nil = Permᴰ.nil
  keep_perm (Permᴰ.cons {a = x} {b = y} {l₁ = xs} {l₂ = ys} e s) =
      subst⁻¹ (λ (z : A). Permᴰ (keep p (z ∷ xs)) (keep p (y ∷ ys))) e
      (cases (p y) (λ t. rw t (Permᴰ.cons refl (keep_perm s))) (λ f. rw f (keep_perm s)))
  keep_perm (Permᴰ.swap {a = x} {b = y} {a' = x'} {b' = y'} {l = l} e f) =
      subst₂ (λ (u v : A). Permᴰ (keep p (x ∷ y ∷ l)) (keep p (u ∷ v ∷ l))) f e
      (cases (p x) (λ t. cases (p y) (λ u. rw (t, u) (Permᴰ.swap refl refl)) (λ u. rw (t, u) (Permᴰ.refl (x ∷ keep p l)))) (λ n. rw n (Permᴰ.refl (keep p (y ∷ l)))))
  keep_perm (Permᴰ.trans s t) = Permᴰ.trans (keep_perm s) (keep_perm t)

pub tabulate-at : (f : ℕ → ℕ) (n i : ℕ) → i < n → get_or (tabulate f n) i 0 ≡ f i
tabulate-at f zero i h = absurd (not-suc-le-zero h)
tabulate-at f (suc n) zero h = refl
tabulate-at f (suc n) (suc i) h = tabulate-at (λ j. f (suc j)) n i (le_of_suc-le-suc h)

pub tabulate_ext : (f g : ℕ → ℕ) (n : ℕ) → ((i : ℕ) → i < n → f i ≡ g i) → tabulate f n ≡ tabulate g n
tabulate_ext f g zero h = refl
tabulate_ext f g (suc n) h = ap₂ {C = List ℕ} ◌∷◌ (h 0 (omega arith)) (tabulate_ext (λ j. f (suc j)) (λ j. g (suc j)) n (λ i l. h (suc i) (omega arith)))

pub tabulate-length : (f : ℕ → ℕ) (n : ℕ) → length (tabulate f n) ≡ n
tabulate-length f zero = refl
tabulate-length f (suc n) = ap suc (tabulate-length (λ j. f (suc j)) n)

pub tabulate_out : (f : ℕ → ℕ) (n i : ℕ) → n ≤ i → get_or (tabulate f n) i 0 ≡ 0
tabulate_out f zero i h = refl
tabulate_out f (suc n) zero h = absurd (not-suc-le-zero h)
tabulate_out f (suc n) (suc i) h = tabulate_out (λ j. f (suc j)) n i (le_of_suc-le-suc h)

-- ---- keep and map

pub keep-map : {A B : Type 0} (f : A → B) (p : B → Bool) (xs : List A) → keep p (map f xs) ≡ map f (keep (λ x. p (f x)) xs)
keep-map f p [] = refl
keep-map {A} {B} f p (x ∷ xs) =
    cases (p (f x)) (λ t. rw t (ap (λ (l : List B). f x ∷ l) (keep-map f p xs))) (λ n. rw n (keep-map f p xs))

pub keep-keep : {A : Type 0} (p q : A → Bool) (xs : List A) → keep p (keep q xs) ≡ keep (λ x. q x && p x) xs
keep-keep p q [] = refl
keep-keep {A} p q (x ∷ xs) =
    cases (q x) (λ t. rw t (ap (λ (l : List A). cond (p x) (x ∷ l) l) (keep-keep p q xs))) (λ n. rw n (keep-keep p q xs))

-- ---- members of what is kept

pub keep_in : {A : Type 0} (p : A → Bool) (xs : List A) {x : A} → Memᴰ x xs → p x ≡ true → Memᴰ x (keep p xs)
keep_in p [] m h = m
keep_in {A} p (y ∷ ys) {x} m h =
    by_test (λ (l : List A). Memᴰ x l) (p y)
    (λ t. ⊎_elim (λ e. Memᴰ.head e) (λ n. Memᴰ.tail (keep_in p ys n h)) (Memᴰ.cases_cons m))
    (λ f. ⊎_elim (λ (e : x ≡ y). absurd (true≢false (sym h ∙ ap p e ∙ f))) (λ n. keep_in p ys n h) (Memᴰ.cases_cons m))

pub keep_out : {A : Type 0} (p : A → Bool) (xs : List A) (x : A) → Memᴰ x (keep p xs) → Memᴰ x xs × (p x ≡ true)
keep_out p [] x = λ m. absurd (Memᴰ.not-nil m)
keep_out {A} p (y ∷ ys) x =
    by_test (λ (l : List A). Memᴰ x l → Memᴰ x (y ∷ ys) × (p x ≡ true)) (p y)
    (λ t m. ⊎_elim {C = Memᴰ x (y ∷ ys) × (p x ≡ true)} (λ (e : x ≡ y). (Memᴰ.head e, ap p e ∙ t))
    (λ n. let r = keep_out p ys x n in (Memᴰ.tail r.0, r.1)) (Memᴰ.cases_cons m))
    (λ f m. let r = keep_out p ys x m in (Memᴰ.tail r.0, r.1))

-- ---- keep

pub keep_ext : {A : Type 0} (p q : A → Bool) (xs : List A) → ((x : A) → p x ≡ q x) → keep p xs ≡ keep q xs
keep_ext {A} p q xs h = ap (λ (r : A → Bool). keep r xs) (fun_ext h)

-- a list is what passes a test, and what does not
pub keep-part : {A : Type 0} (p : A → Bool) (xs : List A) → Permᴰ xs (keep p xs ++ keep (λ x. not (p x)) xs)
keep-part p [] = Permᴰ.nil
keep-part p (x ∷ xs) =
    cases (p x) (λ t. rw t (Permᴰ.cons refl (keep-part p xs)))
    (λ n. rw n (Permᴰ.trans (Permᴰ.cons refl (keep-part p xs)) (Permᴰ.symm (Permᴰ.middle x (keep p xs) (keep (λ y. not (p y)) xs)))))

pub shuffle : {A : Type 0} (a b c : List A) → Permᴰ (a ++ b ++ c) (b ++ (a ++ c))
shuffle {A} a b c = subst (Permᴰ (a ++ b ++ c)) (append_assoc b a c) (Permᴰ.append_right c (Permᴰ.append_comm a b))

-- ---- numbers from a on

pub count_le : (a m x : ℕ) → Memᴰ x (count_from a m) → a ≤ x
count_le a zero x i = absurd (Memᴰ.not-nil i)
count_le a (suc m) x i = ⊎_elim (λ (e : x ≡ a). omega arith) (λ j. let h = count_le (suc a) m x j in omega arith) (Memᴰ.cases_cons i)

pub count_lt : (a m x : ℕ) → Memᴰ x (count_from a m) → x < a + m
count_lt a zero x i = absurd (Memᴰ.not-nil i)
count_lt a (suc m) x i = ⊎_elim (λ (e : x ≡ a). omega arith) (λ j. let h = count_lt (suc a) m x j in omega arith) (Memᴰ.cases_cons i)

pub count_in : (a m x : ℕ) → a ≤ x → x < a + m → Memᴰ x (count_from a m)
count_in a zero x h l = absurd (omega arith)
count_in a (suc m) x h l =
    cases (eqb x a) (λ t. Memᴰ.head (eqb-true x a t))
    (λ f. Memᴰ.tail (count_in (suc a) m x (lt_of_le-ne h (λ e. eqb-false x a f (sym e))) (omega arith)))

pub perm_length : {A : Type 0} {xs ys : List A} → Permᴰ xs ys → length xs ≡ length ys
perm_length Permᴰ.nil = refl
perm_length (Permᴰ.cons e s) = ap suc (perm_length s)
perm_length (Permᴰ.swap e f) = refl
perm_length (Permᴰ.trans s t) = perm_length s ∙ perm_length t

-- ---- map, by places

pub map-set : {A B : Type 0} (f : A → B) (xs : List A) (i : ℕ) (x : A) → map f (set xs i x) ≡ set (map f xs) i (f x)
map-set f [] i x = refl
map-set f (y ∷ ys) zero x = refl
map-set {B = B} f (y ∷ ys) (suc i) x = ap {B = List B} (λ l. f y ∷ l) (map-set f ys i x)

pub get_d_map_in : {A B : Type 0} (f : A → B) (xs : List A) (i : ℕ) (d : A) (z : B) → i < length xs → get_or (map f xs) i z ≡ f (get_or xs i d)
get_d_map_in f [] i d z h = absurd (not-suc-le-zero h)
get_d_map_in f (y ∷ ys) zero d z h = refl
get_d_map_in f (y ∷ ys) (suc i) d z h = get_d_map_in f ys i d z (le_of_suc-le-suc h)

-- ---- elements put in front one after the other

pub joined-sub : {A : Type 0} (xs new : List A) → Sublistᴰ xs (joined xs new)
joined-sub xs [] = Sublistᴰ.refl xs
joined-sub xs (x ∷ new) = Sublistᴰ.trans (Sublistᴰ.cons (Sublistᴰ.refl xs)) (joined-sub (x ∷ xs) new)

pub joined_perm : {A : Type 0} (xs new : List A) → Permᴰ (joined xs new) (new ++ xs)
joined_perm xs [] = Permᴰ.refl xs
joined_perm xs (x ∷ new) = Permᴰ.trans (joined_perm (x ∷ xs) new) (Permᴰ.middle x new xs)
