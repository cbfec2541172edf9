-- Words that arrive at level 2 one after the other: the table that document 01's add leaves, and the buckets that changed, taken over from
-- another table. At every number n of rows and r of solution words, and for every mix S.
-- Assumes nothing.
use Prim.Native.Nat.{ℕ, ◌≤◌, ◌<◌}
use native.Mathlib.Omega.{arith}
use mathlib.Core.Path.{◌≡◌, refl, sym, ap, ◌∙◌, subst, subst⁻¹}
use mathlib.Core.List.{List, [], ◌∷◌, ◌++◌, map}
use lib.Dec.{eqb}
use lib.ListN.{length, set, length-set}
use lib.Seq.{get_or-set_same, get_or-set_other, ext_get_or}
use borrow.Author.Tests.{eqb-true, eqb-false}
use Rattle.lists.specs.Entries.{Entry, words, insert_all}
use Rattle.lists.proofs.Tests.{cases}
use Rattle.bucket.specs.declared.Bucket.{Bucket}
use Rattle.bucket.specs.Bucket.{empty_bucket}
use Rattle.table.specs.Table.{Table, with_first, with_second, with_base, with_one, Placed, index, on_second, put, nth, bucket_of, arrive_at, arrive_all, added_to}
use Rattle.table_arrive.specs.Arrival.{to_second}
use Rattle.table_arrive.proofs.Settled.{insert-all-length}
use Rattle.table_pass.specs.Passing.{all_to_second, take_over}

-- ---- the base list

insert-append : (xs ys base : List Entry) → insert_all (xs ++ ys) base ≡ insert_all ys (insert_all xs base)
insert-append [] ys base = refl
insert-append (x ∷ xs) ys base = insert-append xs ys _

module _ (n r : ℕ) (S : ℕ → ℕ) where
  -- ---- all at once

  pub all_law : (T : Table) (es : List Entry)
      → all_to_second n r S T es ≡ with_base (with_second T (arrive_all n r S T.level2 es).buckets) (insert_all (arrive_all n r S T.level2 es).out T.base)
  all_law T [] = refl
  all_law T (e ∷ es) =
      let p : Placed = arrive_at n r S T.level2 e in
      let q : Placed = arrive_all n r S p.buckets es in
      all_law (to_second n r S T e) es ∙ ap (with_base (with_second T q.buckets)) (sym (insert-append p.out q.out T.base))

  -- the table after an add
  pub add_law : (T : Table) (e : Entry)
      → added_to n r S T e
      ≡ with_one (with_first (all_to_second n r S T (map (on_second S) (arrive_at n r S T.level1 e).out)) (arrive_at n r S T.level1 e).buckets) e.plan
  add_law T e =
      ap (λ (U : Table). with_one (with_first U (arrive_at n r S T.level1 e).buckets) e.plan) (sym (all_law T (map (on_second S) (arrive_at n r S T.level1 e).out)))

  -- the base list grows
  pub base_grows : (T : Table) (es : List Entry) → length T.base ≤ length (all_to_second n r S T es).base
  base_grows T [] = omega arith
  base_grows T (e ∷ es) = let h = base_grows (to_second n r S T e) es in let k = insert-all-length (arrive_at n r S T.level2 e).out T.base in omega arith

  -- ---- the buckets that are taken over

  -- none of the vectors is due in bucket j of m
  abbrev Untouched : ℕ → ℕ → List ℕ → Type 0
  Untouched m j [] = Unit {0}
  Untouched m j (v ∷ vs) = (j ≡ index S m v → ⊥) × Untouched m j vs

  arrive-length : (bs : List Bucket) (es : List Entry) → length (arrive_all n r S bs es).buckets ≡ length bs
  arrive-length bs [] = refl
  arrive-length bs (e ∷ es) = arrive-length (arrive_at n r S bs e).buckets es ∙ length-set bs _ _

  arrive-other : (m j : ℕ) (bs : List Bucket) (es : List Entry) → length bs ≡ m → Untouched m j (words es) → nth n r (arrive_all n r S bs es).buckets j ≡ nth n r bs j
  arrive-other m j bs [] q u = refl
  arrive-other m j bs (e ∷ es) q u =
      arrive-other m j (arrive_at n r S bs e).buckets es (length-set bs _ _ ∙ q) u.1
      ∙ get_or-set_other bs _ j _ (empty_bucket n r) (λ z. u.0 (z ∙ ap (λ (k : ℕ). index S k e.word) q))

  taken : (m : ℕ) (D : Table) (vs : List ℕ) (T : Table) → length D.level2 ≡ m → length T.level2 ≡ m
      → ((j : ℕ) → j < m → Untouched m j vs → nth n r T.level2 j ≡ nth n r D.level2 j) → take_over n r S D vs T ≡ with_second T D.level2
  taken m D [] T p q h = ap (with_second T) (ext_get_or (empty_bucket n r) T.level2 D.level2 (q ∙ sym p) (λ j l. h j (subst (λ (k : ℕ). j < k) q l) tt))
  taken m D (v ∷ vs) T p q h =
      let b : Bucket = bucket_of n r S D.level2 v in
      let at : (bs : List Bucket) → length bs ≡ m → index S (length bs) v ≡ index S m v = (λ bs e. ap (λ (k : ℕ). index S k v) e) in
      taken m D vs (with_second T (put S T.level2 v b)) p (length-set T.level2 _ _ ∙ q) (λ j l u.
      cases (eqb j (index S m v))
      (λ y.
      let e = sym (eqb-true j (index S m v) y) in
      ap (λ (i : ℕ). nth n r (set T.level2 i b) j) (at T.level2 q ∙ e) ∙ get_or-set_same T.level2 j b (empty_bucket n r) (subst⁻¹ (λ (k : ℕ). j < k) q l) ∙ ap (nth n r D.level2) (at D.level2 p ∙ e))
      (λ f. get_or-set_other T.level2 _ j b (empty_bucket n r) (λ z. eqb-false j (index S m v) f (z ∙ at T.level2 q)) ∙ h j l (eqb-false j (index S m v) f, u)))

  pub second-length : (T : Table) (es : List Entry) → length (all_to_second n r S T es).level2 ≡ length T.level2
  second-length T es = ap (λ (U : Table). length U.level2) (all_law T es) ∙ arrive-length T.level2 es

  -- the buckets of the words that arrived are all that changed
  pub taken-all : (T : Table) (es : List Entry) → take_over n r S (all_to_second n r S T es) (words es) T ≡ with_second T (all_to_second n r S T es).level2
  taken-all T es =
      let D : Table = all_to_second n r S T es in
      let e : D.level2 ≡ (arrive_all n r S T.level2 es).buckets = ap (λ (U : Table). U.level2) (all_law T es) in
      taken (length T.level2) D (words es) T (second-length T es) refl
      (λ j l u. sym (ap (λ (bs : List Bucket). nth n r bs j) e ∙ arrive-other (length T.level2) j T.level2 es refl u))
