-- Words that leave a bucket may go on at once or once the level is done: the levels share no storage, so the table is the same.
-- Assumes nothing.
use Prim.Native.Nat.{ℕ, zero, suc}
use mathlib.Core.Path.{◌≡◌, refl, sym, ap, ◌∙◌}
use mathlib.Core.Bool.{Bool, true, false, cond}
use mathlib.Core.List.{List, [], ◌∷◌, ◌++◌, map}
use lib.Dec.{ltb}
use Rattle.lists.specs.Entries.{Entry, words, insert, insert_all}
use Rattle.bucket.specs.declared.Bucket.{Bucket}
use Rattle.std.specs.Prelude.{Option, Some, None, option_map, unwrap_or}
use Rattle.bucket.specs.Bucket.{add}
use Rattle.bucket_settle.specs.Settle.{leaving, withdraw_all, at_bound, lowered, Settlement, ahead, or_else, settle}
use Rattle.table.specs.Table.{Table, with_first, with_second, with_base, with_one, Placed, thr, on_second, put, bucket_of, arrive_at, arrive_all, added_to}
use Rattle.table.specs.AtOnce.{leave_all, enter, come_to, come_to2, added_at_once}

cond_map : {A B : Type 0} (f : A → B) (b : Bool) (x y : A) → cond b (f x) (f y) ≡ f (cond b x y)
cond_map f true x y = refl
cond_map f false x y = refl

module _ {X : Type 0} (go : X → Entry → X) where
  -- the words arrive after the bucket one after the other
  abbrev hand_all : X → List Entry → X
  hand_all x [] = x
  hand_all x (e ∷ es) = hand_all (go x e) es

  hand_append : (x : X) (es fs : List Entry) → hand_all x (es ++ fs) ≡ hand_all (hand_all x es) fs
  hand_append x [] fs = refl
  hand_append x (e ∷ es) fs = hand_append (go x e) es fs

  module _ (n : ℕ) (thr : ℕ → ℕ) where
    leave_law : (es : List Entry) (b : Bucket) (x : X) → leave_all n thr go es b x ≡ (withdraw_all n (words es) b, hand_all x es)
    leave_law [] b x = refl
    leave_law (e ∷ es) b x = leave_law es _ (go x e)

    abbrev done : X → Settlement → Bucket × X
    done x s = (s.bucket, hand_all x s.out)

    -- the bucket after an add, if there is one, or what follows
    by_add : (x : X) (s : Settlement) (o : Option Bucket) → unwrap_or (option_map (λ c. (c, x)) o) (done x s) ≡ done x (or_else o s)
    by_add x s None = refl
    by_add x s (Some c) = refl

    enter_law : (e : Entry) (t : ℕ) (b : Bucket) (x : X) → enter n thr go e t b x ≡ done x (settle n thr e t b)
    enter_law e zero b x = refl
    enter_law e (suc t) b x =
        let es : List Entry = leaving n thr t b in
        let rest : Settlement = settle n thr e t (lowered n thr t b) in
        let c : Bool = ltb (thr e.word) (suc t) in
        let a : Option Bucket = add n e.word e.plan b in
        ap (λ (q : Bucket × X). cond c (unwrap_or (option_map (λ d. (d, x)) a) q) (b, go x e))
        (ap (λ (l : Bucket × X). enter n thr go e t (at_bound t l.0) l.1) (leave_law es b x) ∙ enter_law e t (lowered n thr t b) (hand_all x es)
        ∙ ap (λ (y : X). (rest.bucket, y)) (sym (hand_append x es rest.out)))
        ∙ ap (λ (q : Bucket × X). cond c q (b, go x e)) (by_add x (ahead es rest) a)
        ∙ cond_map (done x) c (or_else a (ahead es rest)) (record { bucket = b; out = e ∷ [] })

  module _ (n r : ℕ) (S : ℕ → ℕ) where
    come_law : (l : List Bucket × X) (e : Entry) → come_to n r S go l e ≡ ((arrive_at n r S l.0 e).buckets, hand_all l.1 (arrive_at n r S l.0 e).out)
    come_law l e =
        let b : Bucket = bucket_of n r S l.0 e.word in
        ap (λ (q : Bucket × X). (put S l.0 e.word q.0, q.1)) (enter_law n (thr S) e b.bound b l.1)

insert_all_lem : (es base : List Entry) → hand_all (λ b e. insert e b) base es ≡ insert_all es base
insert_all_lem [] base = refl
insert_all_lem (e ∷ es) base = insert_all_lem es (insert e base)

module _ (n r : ℕ) (S : ℕ → ℕ) where
  abbrev Rest : Type 0
  Rest = List Bucket × List Entry

  -- words that arrive at level 2 one after the other
  come_all : (bs : List Bucket) (base es : List Entry)
      → hand_all (λ l e. come_to2 n r S l (on_second S e)) (bs, base) es
      ≡ ((arrive_all n r S bs (map (on_second S) es)).buckets, insert_all (arrive_all n r S bs (map (on_second S) es)).out base)
  come_all bs base [] = refl
  come_all bs base (e ∷ es) =
      let p : Placed = arrive_at n r S bs (on_second S e) in
      let q : Placed = arrive_all n r S p.buckets (map (on_second S) es) in
      ap (λ (l : Rest). hand_all (λ l e. come_to2 n r S l (on_second S e)) l es)
      (come_law (λ b e. insert e b) n r S (bs, base) (on_second S e) ∙ ap (λ (b : List Entry). (p.buckets, b)) (insert_all_lem p.out base))
      ∙ come_all p.buckets (insert_all p.out base) es
      ∙ ap (λ (b : List Entry). (q.buckets, b))
      (sym (insert_all_lem q.out (insert_all p.out base)) ∙ ap (λ (b : List Entry). hand_all (λ b e. insert e b) b q.out) (sym (insert_all_lem p.out base))
      ∙ sym (hand_append (λ b e. insert e b) base p.out q.out) ∙ insert_all_lem (p.out ++ q.out) base)

  -- the document's order leaves the same table
  pub at_once : (T : Table) (e : Entry) → added_at_once n r S T e ≡ added_to n r S T e
  at_once T e =
      let p : Placed = arrive_at n r S T.level1 e in
      ap (λ (l : List Bucket × Rest). with_one (with_base (with_second (with_first T l.0) l.1.0) l.1.1) e.plan)
      (come_law (λ l e. come_to2 n r S l (on_second S e)) n r S (T.level1, (T.level2, T.base)) e ∙ ap (λ (l : Rest). (p.buckets, l)) (come_all T.level2 T.base p.out))
