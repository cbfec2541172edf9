-- Patches between planes that differ in one bucket, in one base entry's plan, or not at all: how many records they have.
-- Assumes nothing.
use Prim.Native.Nat.{ℕ, zero, suc, ◌+◌, ◌≤◌}
use native.Mathlib.Nat.{suc-add, zero-add}
use native.Mathlib.Omega.{arith}
use mathlib.Core.Path.{◌≡◌, refl, sym, ap, ◌∙◌, subst⁻¹}
use mathlib.Core.Bool.{Bool, true, false, not, true≢false}
use mathlib.Core.Option.{some}
use mathlib.Core.List.{List, [], ◌∷◌, ◌++◌, Memᴰ}
use lib.ListN.{length, set}
use borrow.Author.Tests.{eq-eqb}
use Rattle.codec.specs.Bytes.{eq_list}
use Rattle.codec.proofs.Equal.{equal_refl}
use Rattle.lists.specs.Lists.{keep}
use Rattle.lists.specs.Entries.{Entry, words, find, update, Ascending}
use Rattle.lists.proofs.Tests.{cases, by_test, cond_true, cond_false}
use Rattle.lists.proofs.Entries.{above_mem, mem_find, find_ext, update_ascending, update_found, update_other}
use Rattle.plane.specs.Record.{PlaneBucket, bucket_bytes}
use Rattle.patch.specs.Base.{is_there, has, gone_of, news_of}
use Rattle.patch.specs.Record.{Change}
use Rattle.patch.specs.Patch.{changes_of}
use Rattle.lists.proofs.Sorts.{by_word}

-- ---- buckets

pub changes_none : (k : ℕ) (bs : List PlaneBucket) → changes_of k bs bs ≡ []
changes_none k [] = refl
changes_none k (b ∷ bs) =
    cond_true (changes_of (suc k) bs bs) (record { index = k; bucket = b } ∷ changes_of (suc k) bs bs) (equal_refl (bucket_bytes b)) ∙ changes_none (suc k) bs

-- one bucket set
pub changes_one : (k : ℕ) (bs : List PlaneBucket) (i : ℕ) (c : PlaneBucket) → length (changes_of k bs (set bs i c)) ≤ 1
changes_one k [] i c = omega arith
changes_one k (b ∷ bs) zero c =
    by_test (λ (l : List Change). length l ≤ 1) (eq_list (bucket_bytes b) (bucket_bytes c))
    (λ t. rw (changes_none (suc k) bs) (omega arith)) (λ f. rw (changes_none (suc k) bs) (omega arith))
changes_one k (b ∷ bs) (suc i) c =
    subst⁻¹ (λ (l : List Change). length l ≤ 1)
    (cond_true (changes_of (suc k) bs (set bs i c)) (record { index = k; bucket = b } ∷ changes_of (suc k) bs (set bs i c)) (equal_refl (bucket_bytes b)))
    (changes_one (suc k) bs i c)

-- an element of the second of two lists
pub set-second : {A : Type 0} (xs ys : List A) (i : ℕ) (x : A) → set (xs ++ ys) (length xs + i) x ≡ xs ++ set ys i x
set-second [] ys i x = rw zero-add
set-second {A} (z ∷ xs) ys i x = rw (suc-add (length xs) i) (ap (λ (l : List A). z ∷ l) (set-second xs ys i x))

-- ---- base entries

keep_no : {A : Type 0} (t : A → Bool) (xs : List A) → ((x : A) → Memᴰ x xs → t x ≡ false) → keep t xs ≡ []
keep_no t [] h = refl
keep_no t (x ∷ xs) h = cond_false (x ∷ keep t xs) (keep t xs) (h x (Memᴰ.head refl)) ∙ keep_no t xs (λ y m. h y (Memᴰ.tail m))

pub gone_none : (old new : List Entry) → ((x : Entry) → Memᴰ x old → is_there (find x.word new) ≡ true) → gone_of old new ≡ []
gone_none old new h = ap words (keep_no (λ (e : Entry). not (is_there (find e.word new))) old (λ x m. ap not (h x m)))

module _ (base : List Entry) (a : Ascending base) where
  there : (x : Entry) → Memᴰ x base → is_there (find x.word base) ≡ true
  there x m = ap is_there (mem_find base a x m)

  pub gone_same : gone_of base base ≡ []
  gone_same = gone_none base base there

  -- an entry that is found as it is
  known : (x : Entry) → find x.word base ≡ some x.plan → has x.plan (find x.word base) ≡ true
  known x e = ap (has x.plan) e ∙ eq-eqb x.plan x.plan refl

  pub news-same : news_of base base ≡ []
  news-same = keep_no (λ (e : Entry). not (has e.plan (find e.word base))) base (λ x m. ap not (known x (mem_find base a x m)))

  -- one plan updated
  module _ (e : Entry) where
    pub gone-update : (p : ℕ) → find e.word base ≡ some p → gone_of base (update e base) ≡ []
    gone-update p s =
        gone_none base (update e base)
        (λ x m. by_word x.word e.word
        (λ q. ap (λ (v : ℕ). is_there (find v (update e base))) q ∙ ap is_there (update_found e p base s))
        (λ n. ap is_there (update_other e base x.word n) ∙ there x m))

    keep_one : (t : Entry → Bool) (es : List Entry) → Ascending es → ((x : Entry) → Memᴰ x es → t x ≡ true → x.word ≡ e.word) → length (keep t es) ≤ 1
    keep_one t [] b h = omega arith
    keep_one t (x ∷ es) b h =
        by_test (λ (l : List Entry). length l ≤ 1) (t x)
        (λ y. let q : x.word ≡ e.word = h x (Memᴰ.head refl) y in
        let none_left_lem : keep t es ≡ [] = keep_no t es (λ z m. cases (t z)
        (λ u. let l = above_mem x.word es b.0 z m in absurd (omega (arith, q, h z (Memᴰ.tail m) u))) (λ f. f)) in
        rw none_left_lem (omega arith))
        (λ f. keep_one t es b.1 (λ z m. h z (Memᴰ.tail m)))

    pub news-update : length (news_of base (update e base)) ≤ 1
    news-update =
        keep_one (λ x. not (has x.plan (find x.word base))) (update e base) (update_ascending e base a)
        (λ x m y. by_word x.word e.word (λ q. q)
        (λ n. absurd (true≢false (sym y ∙ ap not (known x (sym (update_other e base x.word n) ∙ mem_find (update e base) (update_ascending e base a) x m))))))

    -- to the plan that it has
    pub update_same : find e.word base ≡ some e.plan → update e base ≡ base
    update_same s =
        find_ext (update e base) base (update_ascending e base a) a
        (λ w. by_word w e.word (λ q. ap (λ (v : ℕ). find v (update e base)) q ∙ update_found e e.plan base s ∙ sym s ∙ ap (λ (v : ℕ). find v base) (sym q)) (λ n. update_other e base w n))
