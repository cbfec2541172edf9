-- The live words of a table, read from its rows and base entries in whatever order: sorting forgets the order.
-- Assumes nothing.
use Prim.Native.Nat.{ℕ}
use native.Mathlib.Omega.{arith}
use mathlib.Core.Path.{◌≡◌, refl, sym, ap, ◌∙◌, subst, subst⁻¹}
use mathlib.Core.Logic.{⊎_elim}
use mathlib.Core.Bool.{Bool}
use mathlib.Core.Option.{none, some}
use mathlib.Core.List.Memᴰ
use mathlib.Core.List.Permᴰ
use mathlib.Core.List.{List, [], ◌∷◌, Memᴰ, Permᴰ}
use lib.ListN.{length}
use Rattle.lists.specs.Entries.{sort, Distinct, Entry, find, insert, update, remove, Ascending}
use Rattle.lists.proofs.Entries.{above_mem, insert_perm, insert_ascending, insert-other, insert-found, find_ext, ascending_ext, find_none, none_find, remove_ascending, remove-found, remove-other, update_ascending, update_found, update_other}
use native.Mathlib.Decide.{ℕ_discrete}
use Rattle.lists.specs.Lists.{keep}
use Rattle.lists.proofs.Tests.{by_test}
use Rattle.lists.proofs.Keep.{keep_out, perm_length}

-- by whether two words are equal
pub by_word {ℓ} : {P : Type ℓ} (v w : ℕ) → (v ≡ w → P) → ((v ≡ w → ⊥) → P) → P
by_word {P = P} v w f g = elim (ℕ_discrete v w) [ yes e ↦ f e | no n ↦ g n ]

module _ (l : List Entry) (asc : Ascending l) (e : Entry) (f : find e.word l ≡ none) where
  pub remove-insert : remove e.word (insert e l) ≡ l
  remove-insert =
      find_ext (remove e.word (insert e l)) l (remove_ascending e.word (insert e l) (insert_ascending e l asc f)) asc
      (λ w. by_word w e.word
      (λ q. ap (λ (v : ℕ). find v (remove e.word (insert e l))) q ∙ remove-found e.word (insert e l) (insert_ascending e l asc f) ∙ sym f ∙ ap (λ (v : ℕ). find v l) (sym q))
      (λ n. remove-other e.word (insert e l) w n ∙ insert-other e l w n))

  pub update-insert : (d : Entry) → d.word ≡ e.word → update d (insert e l) ≡ insert d l
  update-insert d q =
      find_ext (update d (insert e l)) (insert d l) (update_ascending d (insert e l) (insert_ascending e l asc f)) (insert_ascending d l asc fd)
      (λ w. by_word w d.word
      (λ p. ap (λ (v : ℕ). find v (update d (insert e l))) p
      ∙ update_found d e.plan (insert e l) (ap (λ (v : ℕ). find v (insert e l)) q ∙ insert-found e l asc f)
      ∙ sym (insert-found d l asc fd) ∙ ap (λ (v : ℕ). find v (insert d l)) (sym p))
      (λ n. update_other d (insert e l) w n ∙ insert-other e l w (λ p. n (p ∙ sym q)) ∙ sym (insert-other d l w n)))
    where
      fd : find d.word l ≡ none
      fd = ap (λ (v : ℕ). find v l) q ∙ f

pub sort_perm : (es : List Entry) → Permᴰ (sort es) es
sort_perm [] = Permᴰ.nil
sort_perm (e ∷ es) = Permᴰ.trans (insert_perm e (sort es)) (Permᴰ.cons refl (sort_perm es))

pub mem_perm : {ds es : List Entry} → Permᴰ ds es → (x : Entry) → Memᴰ x es → Memᴰ x ds
mem_perm Permᴰ.nil x m = m
mem_perm (Permᴰ.cons q s) x m =
    ⊎_elim (λ p. Memᴰ.head (p ∙ sym q)) (λ n. Memᴰ.tail (mem_perm s x n)) (Memᴰ.cases_cons m)
mem_perm (Permᴰ.swap p q) x m =
    ⊎_elim (λ e. Memᴰ.tail (Memᴰ.head (e ∙ sym q)))
    (λ n. ⊎_elim (λ e. Memᴰ.head (e ∙ sym p)) (λ k. Memᴰ.tail (Memᴰ.tail k)) (Memᴰ.cases_cons n))
    (Memᴰ.cases_cons m)
mem_perm (Permᴰ.trans s t) x m = mem_perm s x (mem_perm t x m)

pub sort_mem : (es : List Entry) (x : Entry) → Memᴰ x (sort es) → Memᴰ x es
sort_mem es = mem_perm (Permᴰ.symm (sort_perm es))

pub mem_sort : (es : List Entry) (x : Entry) → Memᴰ x es → Memᴰ x (sort es)
mem_sort es = mem_perm (sort_perm es)

pub fresh-sort : (w : ℕ) (es : List Entry) → find w es ≡ none → find w (sort es) ≡ none
fresh-sort w es f = none_find w (sort es) (λ x m. find_none w es f x (sort_mem es x m))

pub sort_ascending : (es : List Entry) → Distinct es → Ascending (sort es)
sort_ascending [] d = tt
sort_ascending (e ∷ es) d = insert_ascending e (sort es) (sort_ascending es d.1) (fresh-sort e.word es d.0)

pub sort-length : (es : List Entry) → length (sort es) ≡ length es
sort-length es = perm_length (sort_perm es)

pub find_perm : {ds es : List Entry} → Permᴰ ds es → (w : ℕ) → find w ds ≡ none → find w es ≡ none
find_perm {ds} {es} s w f = none_find w es (λ x m. find_none w ds f x (mem_perm s x m))

pub distinct_perm : {ds es : List Entry} → Permᴰ ds es → Distinct ds → Distinct es
distinct_perm Permᴰ.nil d = d
distinct_perm (Permᴰ.cons {a = x} {b = y} {l₁ = ds} {l₂ = es} q s) d =
    (ap (λ (z : Entry). find z.word es) (sym q) ∙ find_perm s x.word d.0, distinct_perm s d.1)
distinct_perm (Permᴰ.swap {a = x} {b = y} {a' = y'} {b' = x'} {l = l} p q) d =
    subst (λ (z : Entry). Distinct (z ∷ x' ∷ l)) q
    (subst (λ (z : Entry). Distinct (y ∷ z ∷ l)) p (
      none_find y.word (x ∷ l)
          (λ z m. ⊎_elim (λ (e : z ≡ x). λ k. find_none x.word (y ∷ l) d.0 y (Memᴰ.head refl) (sym (k ∙ ap (λ (u : Entry). u.word) e)))
          (λ n. find_none y.word l d.1.0 z n) (Memᴰ.cases_cons m)),
      (none_find x.word l (λ z m. find_none x.word (y ∷ l) d.0 z (Memᴰ.tail m)), d.1.1),
    ))
distinct_perm (Permᴰ.trans s t) d = distinct_perm t (distinct_perm s d)

-- the same entries in another order sort alike
pub sort_order : {ds es : List Entry} → Permᴰ ds es → Distinct ds → sort ds ≡ sort es
sort_order {ds} {es} s d =
    ascending_ext (sort ds) (sort es) (sort_ascending ds d) (sort_ascending es (distinct_perm s d))
    (λ x m. mem_sort es x (mem_perm (Permᴰ.symm s) x (sort_mem ds x m)))
    (λ x m. mem_sort ds x (mem_perm s x (sort_mem es x m)))

-- an ascending list is sorted
pub sort-same : (l : List Entry) → Ascending l → Distinct l → sort l ≡ l
sort-same l a d = ascending_ext (sort l) l (sort_ascending l d) a (sort_mem l) (mem_sort l)

-- what the three changes of the table's entries do to the sorted list: e is one of them, es the others, in any order
module _ (e : Entry) {rows es : List Entry} (s : Permᴰ rows (e ∷ es)) (d : Distinct rows) where
  distinct : Distinct (e ∷ es)
  distinct = distinct_perm s d

  fresh : find e.word (sort es) ≡ none
  fresh = fresh-sort e.word es distinct.0

  -- e is new
  pub sort-added : sort rows ≡ insert e (sort es)
  sort-added = sort_order s d

  -- e goes
  pub sort_removed : sort es ≡ remove e.word (sort rows)
  sort_removed = sym (ap (remove e.word) sort-added ∙ remove-insert (sort es) (sort_ascending es distinct.1) e fresh)

  -- e becomes c
  pub sort-changed : (c : Entry) → c.word ≡ e.word → sort (c ∷ es) ≡ update c (sort rows)
  sort-changed c q = sym (ap (update c) sort-added ∙ update-insert (sort es) (sort_ascending es distinct.1) e fresh c q)

  pub sort-found : find e.word (sort rows) ≡ some e.plan
  sort-found = ap (find e.word) sort-added ∙ insert-found e (sort es) (sort_ascending es distinct.1) fresh

-- ---- distinct entries

pub keep_distinct : (p : Entry → Bool) (l : List Entry) → Distinct l → Distinct (keep p l)
keep_distinct p [] d = d
keep_distinct p (e ∷ es) d =
    by_test Distinct (p e)
    (λ t. (none_find e.word (keep p es) (λ x m. find_none e.word es d.0 x (keep_out p es x m).0), keep_distinct p es d.1))
    (λ f. keep_distinct p es d.1)

pub ascending_distinct : (l : List Entry) → Ascending l → Distinct l
ascending_distinct [] a = tt
ascending_distinct (e ∷ es) a =
    (none_find e.word es (λ x m q. let h = above_mem e.word es a.0 x m in omega (arith, q)), ascending_distinct es a.1)

-- distinct entries, the same ones: one list is the other in some order
pub distinct_ext : (ds es : List Entry) → Distinct ds → Distinct es
    → ((e : Entry) → Memᴰ e ds → Memᴰ e es) → ((e : Entry) → Memᴰ e es → Memᴰ e ds) → Permᴰ ds es
distinct_ext ds es d e f g =
    Permᴰ.trans (Permᴰ.symm (sort_perm ds))
    (subst⁻¹ (λ (l : List Entry). Permᴰ l es)
    (ascending_ext (sort ds) (sort es) (sort_ascending ds d) (sort_ascending es e)
    (λ x m. mem_sort es x (f x (sort_mem ds x m))) (λ x m. mem_sort ds x (g x (sort_mem es x m))))
    (sort_perm es))
