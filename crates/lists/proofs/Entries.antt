-- The live words: what each operation does to the members, to what is found, to the order and to the length; and that the members settle the list.
-- Assumes nothing.
use Prim.Native.Nat.{ℕ, suc, ◌<◌}
use native.Mathlib.Nat.{lt_trans}
use native.Mathlib.Omega.{arith}
use mathlib.Core.Path.{◌≡◌, refl, sym, ap, ap₂, ◌∙◌, subst⁻¹}
use mathlib.Core.Bool.{Bool, true, false, cond}
use mathlib.Core.Logic.{◌⊎◌, inl, inr, ⊎_elim}
use mathlib.Core.Option.{Option, none, some}
use mathlib.Core.List.Memᴰ
use mathlib.Core.List.Permᴰ
use mathlib.Core.List.Sublistᴰ
use mathlib.Core.List.{List, [], ◌∷◌, map, Memᴰ, Sublistᴰ, Permᴰ}
use lib.Dec.{eqb, ltb}
use lib.ListN.{length, length-map}
use borrow.Author.Tests.{eqb-true, eqb-false, eq-eqb, ne_eqb, ltb-true, ltb-false}
use Rattle.lists.specs.Lists.{keep}
use Rattle.lists.specs.Entries.{Entry, plan_limit, desk_plan, assignable, find, insert, update, remove, Above, Ascending}
use Rattle.lists.proofs.Tests.{by_test, cases, cond_true, cond_false}
use Rattle.lists.proofs.Keep.{keep-within, perm_length}

pub none≢some : {a : ℕ} → ◌≡◌ {A = Option ℕ} none (some a) → ⊥
none≢some e = let z : ◌≡◌ {A = ℕ} 0 1 = cc in omega arith

-- a plan that may be given is a byte
pub assignable_byte : (p : ℕ) → assignable p ≡ true → p < plan_limit
assignable_byte p a = let l : p < desk_plan = ltb-true p desk_plan a in omega arith

-- ---- what is found

find-here : (w : ℕ) (x : Entry) (xs : List Entry) → w ≡ x.word → find w (x ∷ xs) ≡ some x.plan
find-here w x xs e = cond_true (some x.plan) (find w xs) (eq-eqb w x.word e)

find_past : (w : ℕ) (x : Entry) (xs : List Entry) → (w ≡ x.word → ⊥) → find w (x ∷ xs) ≡ find w xs
find_past w x xs n = cond_false (some x.plan) (find w xs) (ne_eqb w x.word n)

find_cons : (w : ℕ) (x : Entry) (xs ys : List Entry) → find w xs ≡ find w ys → find w (x ∷ xs) ≡ find w (x ∷ ys)
find_cons w x xs ys e = ap (cond (eqb w x.word) (some x.plan)) e

find_skip : (k : ℕ) (x : Entry) (xs : List Entry) {o : Option ℕ} → eqb k x.word ≡ false → find k (x ∷ xs) ≡ o → find k xs ≡ o
find_skip k x xs f e = sym (cond_false (some x.plan) (find k xs) f) ∙ e

-- the first entry is the one that is found
find_first : (w p : ℕ) (x : Entry) (xs : List Entry) → eqb w x.word ≡ true → find w (x ∷ xs) ≡ some p → record { word = w; plan = p } ≡ x
find_first w p x xs t e =
    let s : some p ≡ some x.plan = sym e ∙ cond_true (some x.plan) (find w xs) t in
    let q : p ≡ x.plan = cc in
    λ i. record { word = eqb-true w x.word t i; plan = q i }

pub find_mem : (w p : ℕ) (xs : List Entry) → find w xs ≡ some p → Memᴰ (record { word = w; plan = p }) xs
find_mem w p [] e = absurd (none≢some e)
find_mem w p (x ∷ xs) e =
    cases (eqb w x.word) (λ t. Memᴰ.head (find_first w p x xs t e)) (λ f. Memᴰ.tail (find_mem w p xs (find_skip w x xs f e)))

pub find_none : (w : ℕ) (xs : List Entry) → find w xs ≡ none → (x : Entry) → Memᴰ x xs → w ≡ x.word → ⊥
find_none w [] e y m q = Memᴰ.not-nil m
find_none w (x ∷ xs) e y m q =
    cases (eqb w x.word) (λ t. none≢some (sym e ∙ cond_true (some x.plan) (find w xs) t))
    (λ f. ⊎_elim (λ (p : y ≡ x). eqb-false w x.word f (q ∙ ap (λ (z : Entry). z.word) p))
    (λ n. find_none w xs (find_skip w x xs f e) y n q) (Memᴰ.cases_cons m))

pub none_find : (w : ℕ) (xs : List Entry) → ((x : Entry) → Memᴰ x xs → w ≡ x.word → ⊥) → find w xs ≡ none
none_find w [] h = refl
none_find w (x ∷ xs) h =
    find_past w x xs (h x (Memᴰ.head refl)) ∙ none_find w xs (λ y m. h y (Memᴰ.tail m))

-- ---- the order

pub above_mem : (w : ℕ) (xs : List Entry) → Above w xs → (x : Entry) → Memᴰ x xs → w < x.word
above_mem w [] a x m = absurd (Memᴰ.not-nil m)
above_mem w (y ∷ ys) a x m =
    ⊎_elim (λ (e : x ≡ y). subst⁻¹ (λ (z : Entry). w < z.word) e a.0) (λ n. above_mem w ys a.1 x n) (Memᴰ.cases_cons m)

pub mem_above : (w : ℕ) (xs : List Entry) → ((x : Entry) → Memᴰ x xs → w < x.word) → Above w xs
mem_above w [] h = tt
mem_above w (y ∷ ys) h = (h y (Memᴰ.head refl), mem_above w ys (λ x m. h x (Memᴰ.tail m)))

pub above_up : {v w : ℕ} → v < w → (xs : List Entry) → Above w xs → Above v xs
above_up l [] a = tt
above_up l (x ∷ xs) a = (lt_trans l a.0, above_up l xs a.1)

pub mem_find : (xs : List Entry) → Ascending xs → (x : Entry) → Memᴰ x xs → find x.word xs ≡ some x.plan
mem_find [] a x m = absurd (Memᴰ.not-nil m)
mem_find (y ∷ ys) a x m =
    ⊎_elim (λ (e : x ≡ y). find-here x.word y ys (ap (λ (z : Entry). z.word) e) ∙ ap (λ (z : Entry). some z.plan) (sym e))
    (λ n. find_past x.word y ys (λ e. let l = above_mem y.word ys a.0 x n in omega (arith, e)) ∙ mem_find ys a.1 x n)
    (Memᴰ.cases_cons m)

-- ---- two ascending lists with the same members are equal

rest : (x y : Entry) (xs ys : List Entry) → Above x.word xs → x ≡ y → ((e : Entry) → Memᴰ e (x ∷ xs) → Memᴰ e (y ∷ ys)) → (e : Entry) → Memᴰ e xs → Memᴰ e ys
rest x y xs ys a q f e m =
    ⊎_elim (λ (p : e ≡ y). absurd (let l = above_mem x.word xs a e m in omega (arith, ap (λ (z : Entry). z.word) p, ap (λ (z : Entry). z.word) q)))
    (λ n. n) (Memᴰ.cases_cons (f e (Memᴰ.tail m)))

pub ascending_ext : (xs ys : List Entry) → Ascending xs → Ascending ys
    → ((e : Entry) → Memᴰ e xs → Memᴰ e ys) → ((e : Entry) → Memᴰ e ys → Memᴰ e xs) → xs ≡ ys
ascending_ext [] [] a b f g = refl
ascending_ext [] (y ∷ ys) a b f g = absurd (Memᴰ.not-nil (g y (Memᴰ.head refl)))
ascending_ext (x ∷ xs) [] a b f g = absurd (Memᴰ.not-nil (f x (Memᴰ.head refl)))
ascending_ext (x ∷ xs) (y ∷ ys) a b f g =
    ap₂ {C = List Entry} ◌∷◌ same (ascending_ext xs ys a.1 b.1 (rest x y xs ys a.0 same f) (rest y x ys xs b.0 (sym same) g))
  where
    same : x ≡ y
    same =
        ⊎_elim (λ e. e)
        (λ m. ⊎_elim (λ e. sym e)
        (λ n. absurd (let p = above_mem y.word ys b.0 x m in let q = above_mem x.word xs a.0 y n in omega arith))
        (Memᴰ.cases_cons (g y (Memᴰ.head refl))))
        (Memᴰ.cases_cons (f x (Memᴰ.head refl)))

-- the same, by what is found
pub find_ext : (xs ys : List Entry) → Ascending xs → Ascending ys → ((w : ℕ) → find w xs ≡ find w ys) → xs ≡ ys
find_ext xs ys a b h =
    ascending_ext xs ys a b
    (λ e m. find_mem e.word e.plan ys (sym (h e.word) ∙ mem_find xs a e m))
    (λ e m. find_mem e.word e.plan xs (h e.word ∙ mem_find ys b e m))

-- ---- insert

pub insert_perm : (e : Entry) (xs : List Entry) → Permᴰ (insert e xs) (e ∷ xs)
insert_perm e [] = Permᴰ.refl (e ∷ [])
insert_perm e (x ∷ xs) =
    by_test (λ (l : List Entry). Permᴰ l (e ∷ x ∷ xs)) (ltb e.word x.word) (λ h. Permᴰ.refl (e ∷ x ∷ xs))
    (λ h. Permᴰ.trans (Permᴰ.cons refl (insert_perm e xs)) (Permᴰ.swap refl refl))

pub insert-sub : (e : Entry) (xs : List Entry) → Sublistᴰ xs (insert e xs)
insert-sub e [] = Sublistᴰ.cons Sublistᴰ.slnil
insert-sub e (x ∷ xs) =
    by_test (λ (l : List Entry). Sublistᴰ (x ∷ xs) l) (ltb e.word x.word) (λ h. Sublistᴰ.cons (Sublistᴰ.refl (x ∷ xs)))
    (λ h. Sublistᴰ.cons-cons refl (insert-sub e xs))

pub insert-length : (e : Entry) (xs : List Entry) → length (insert e xs) ≡ suc (length xs)
insert-length e xs = perm_length (insert_perm e xs)

pub insert_new : (e : Entry) (xs : List Entry) → Memᴰ e (insert e xs)
insert_new e [] = Memᴰ.head refl
insert_new e (x ∷ xs) =
    by_test (λ (l : List Entry). Memᴰ e l) (ltb e.word x.word) (λ h. Memᴰ.head refl) (λ h. Memᴰ.tail (insert_new e xs))

pub insert_cases : (e : Entry) (xs : List Entry) (x : Entry) → Memᴰ x (insert e xs) → (x ≡ e) ⊎ Memᴰ x xs
insert_cases e [] x = λ m. Memᴰ.cases_cons m
insert_cases e (y ∷ ys) x =
    by_test (λ (l : List Entry). Memᴰ x l → (x ≡ e) ⊎ Memᴰ x (y ∷ ys)) (ltb e.word y.word) (λ h m. Memᴰ.cases_cons m)
    (λ h m. ⊎_elim (λ p. inr (Memᴰ.head p)) (λ n. ⊎_elim inl (λ k. inr (Memᴰ.tail k)) (insert_cases e ys x n)) (Memᴰ.cases_cons m))

pub insert_ascending : (e : Entry) (xs : List Entry) → Ascending xs → find e.word xs ≡ none → Ascending (insert e xs)
insert_ascending e [] a f = (tt, tt)
insert_ascending e (x ∷ xs) a f =
    by_test Ascending (ltb e.word x.word)
    (λ h. let l = ltb-true e.word x.word h in ((l, above_up l xs a.0), a))
    (λ h. (
      mem_above x.word (insert e xs)
          (λ y m. ⊎_elim (λ (p : y ≡ e). subst⁻¹ (λ (z : Entry). x.word < z.word) p
          (let l = ltb-false e.word x.word h in omega (arith, apart)))
          (λ n. above_mem x.word xs a.0 y n) (insert_cases e xs y m)),
      insert_ascending e xs a.1 (sym (find_past e.word x xs apart) ∙ f),
    ))
  where
    apart : e.word ≡ x.word → ⊥
    apart = find_none e.word (x ∷ xs) f x (Memᴰ.head refl)

pub insert-found : (e : Entry) (xs : List Entry) → Ascending xs → find e.word xs ≡ none → find e.word (insert e xs) ≡ some e.plan
insert-found e xs a f = mem_find (insert e xs) (insert_ascending e xs a f) e (insert_new e xs)

pub insert-other : (e : Entry) (xs : List Entry) (w : ℕ) → (w ≡ e.word → ⊥) → find w (insert e xs) ≡ find w xs
insert-other e [] w n = find_past w e [] n
insert-other e (x ∷ xs) w n =
    by_test (λ (l : List Entry). find w l ≡ find w (x ∷ xs)) (ltb e.word x.word) (λ h. find_past w e (x ∷ xs) n)
    (λ h. find_cons w x (insert e xs) xs (insert-other e xs w n))

-- ---- remove

pub remove-sub : (w : ℕ) (xs : List Entry) → Sublistᴰ (remove w xs) xs
remove-sub w [] = Sublistᴰ.slnil
remove-sub w (x ∷ xs) =
    by_test (λ (l : List Entry). Sublistᴰ l (x ∷ xs)) (eqb w x.word) (λ h. Sublistᴰ.cons (Sublistᴰ.refl xs))
    (λ h. Sublistᴰ.cons-cons refl (remove-sub w xs))

-- a part of an ascending list is one
pub sub_above : (w : ℕ) {xs ys : List Entry} → Sublistᴰ xs ys → Above w ys → Above w xs
sub_above w Sublistᴰ.slnil a = a
sub_above w (Sublistᴰ.cons s) a = sub_above w s a.1
sub_above w (Sublistᴰ.cons-cons e s) a = (subst⁻¹ (λ (z : Entry). w < z.word) e a.0, sub_above w s a.1)

pub sub_ascending : {xs ys : List Entry} → Sublistᴰ xs ys → Ascending ys → Ascending xs
sub_ascending Sublistᴰ.slnil a = a
sub_ascending (Sublistᴰ.cons s) a = sub_ascending s a.1
sub_ascending (Sublistᴰ.cons-cons {l₁ = xs} e s) a =
    (subst⁻¹ (λ (z : Entry). Above z.word xs) e (sub_above _ s a.0), sub_ascending s a.1)

pub keep_ascending : (p : Entry → Bool) (xs : List Entry) → Ascending xs → Ascending (keep p xs)
keep_ascending p xs = sub_ascending (keep-within p xs)

pub remove_ascending : (w : ℕ) (xs : List Entry) → Ascending xs → Ascending (remove w xs)
remove_ascending w xs = sub_ascending (remove-sub w xs)

pub remove-found : (w : ℕ) (xs : List Entry) → Ascending xs → find w (remove w xs) ≡ none
remove-found w [] a = refl
remove-found w (x ∷ xs) a =
    by_test (λ (l : List Entry). find w l ≡ none) (eqb w x.word)
    (λ h. none_find w xs (λ y m e. let l = above_mem x.word xs a.0 y m in omega (arith, e, eqb-true w x.word h)))
    (λ h. find_past w x (remove w xs) (eqb-false w x.word h) ∙ remove-found w xs a.1)

pub remove-other : (w : ℕ) (xs : List Entry) (v : ℕ) → (v ≡ w → ⊥) → find v (remove w xs) ≡ find v xs
remove-other w [] v n = refl
remove-other w (x ∷ xs) v n =
    by_test (λ (l : List Entry). find v l ≡ find v (x ∷ xs)) (eqb w x.word)
    (λ h. sym (find_past v x xs (λ e. n (e ∙ sym (eqb-true w x.word h)))))
    (λ h. find_cons v x (remove w xs) xs (remove-other w xs v n))

-- ---- update

pub update-words : (e : Entry) (xs : List Entry) → map (λ x. x.word) (update e xs) ≡ map (λ x. x.word) xs
update-words e [] = refl
update-words e (x ∷ xs) =
    by_test (λ (l : List Entry). map (λ y. y.word) l ≡ map (λ y. y.word) (x ∷ xs)) (eqb e.word x.word)
    (λ h. ap {B = List ℕ} (λ w. w ∷ map (λ y. y.word) xs) (eqb-true e.word x.word h))
    (λ h. ap {B = List ℕ} (λ ws. x.word ∷ ws) (update-words e xs))

pub update-length : (e : Entry) (xs : List Entry) → length (update e xs) ≡ length xs
update-length e xs = sym (length-map (update e xs) (λ x. x.word)) ∙ ap length (update-words e xs) ∙ length-map xs (λ x. x.word)

update_above : (w : ℕ) (e : Entry) (xs : List Entry) → Above w xs → Above w (update e xs)
update_above w e [] a = a
update_above w e (x ∷ xs) a =
    by_test (Above w) (eqb e.word x.word) (λ h. (subst⁻¹ (λ (v : ℕ). w < v) (eqb-true e.word x.word h) a.0, a.1))
    (λ h. (a.0, update_above w e xs a.1))

pub update_ascending : (e : Entry) (xs : List Entry) → Ascending xs → Ascending (update e xs)
update_ascending e [] a = a
update_ascending e (x ∷ xs) a =
    by_test Ascending (eqb e.word x.word) (λ h. (subst⁻¹ (λ (v : ℕ). Above v xs) (eqb-true e.word x.word h) a.0, a.1))
    (λ h. (update_above x.word e xs a.0, update_ascending e xs a.1))

pub update_found : (e : Entry) (p : ℕ) (xs : List Entry) → find e.word xs ≡ some p → find e.word (update e xs) ≡ some e.plan
update_found e p [] f = absurd (none≢some f)
update_found e p (x ∷ xs) f =
    by_test (λ (l : List Entry). find e.word l ≡ some e.plan) (eqb e.word x.word) (λ h. find-here e.word e xs refl)
    (λ h. find_past e.word x (update e xs) (eqb-false e.word x.word h)
    ∙ update_found e p xs (sym (find_past e.word x xs (eqb-false e.word x.word h)) ∙ f))

pub update_other : (e : Entry) (xs : List Entry) (v : ℕ) → (v ≡ e.word → ⊥) → find v (update e xs) ≡ find v xs
update_other e [] v n = refl
update_other e (x ∷ xs) v n =
    by_test (λ (l : List Entry). find v l ≡ find v (x ∷ xs)) (eqb e.word x.word)
    (λ h. find_past v e xs n ∙ sym (find_past v x xs (λ q. n (q ∙ sym (eqb-true e.word x.word h)))))
    (λ h. find_cons v x (update e xs) xs (update_other e xs v n))

-- ---- entries: what is removed, and what is updated

-- an entry that goes, whatever it became first
pub remove-update : (e : Entry) (xs : List Entry) → remove e.word (update e xs) ≡ remove e.word xs
remove-update e [] = refl
remove-update e (x ∷ xs) =
    cases (eqb e.word x.word)
    (λ t. ap (remove e.word) (cond_true (e ∷ xs) (x ∷ update e xs) t) ∙ cond_true xs (e ∷ remove e.word xs) (eq-eqb e.word e.word refl) ∙ sym (cond_true xs (x ∷ remove e.word xs) t))
    (λ f. ap (remove e.word) (cond_false (e ∷ xs) (x ∷ update e xs) f) ∙ cond_false (update e xs) (x ∷ remove e.word (update e xs)) f
    ∙ ap (λ (l : List Entry). x ∷ l) (remove-update e xs) ∙ sym (cond_false xs (x ∷ remove e.word xs) f))

pub remove_perm : (k p : ℕ) (xs : List Entry) → find k xs ≡ some p → Permᴰ xs (record { word = k; plan = p } ∷ remove k xs)
remove_perm k p [] e = absurd (none≢some e)
remove_perm k p (x ∷ xs) e =
    by_test (λ (l : List Entry). Permᴰ (x ∷ xs) (record { word = k; plan = p } ∷ l)) (eqb k x.word)
    (λ t. Permᴰ.cons (sym (find_first k p x xs t e)) (Permᴰ.refl xs))
    (λ f. Permᴰ.trans (Permᴰ.cons refl (remove_perm k p xs (find_skip k x xs f e))) (Permᴰ.swap refl refl))

pub remove-length : (w p : ℕ) (xs : List Entry) → find w xs ≡ some p → suc (length (remove w xs)) ≡ length xs
remove-length w p xs e = sym (perm_length (remove_perm w p xs e))

pub update_perm : (e : Entry) (p : ℕ) (xs : List Entry) → find e.word xs ≡ some p → Permᴰ (update e xs) (e ∷ remove e.word xs)
update_perm e p [] f = absurd (none≢some f)
update_perm e p (x ∷ xs) f =
    cases (eqb e.word x.word)
    (λ t. rw t (Permᴰ.refl (e ∷ xs)))
    (λ n. rw n (Permᴰ.trans (Permᴰ.cons refl (update_perm e p xs (find_skip e.word x xs n f))) (Permᴰ.swap refl refl)))
