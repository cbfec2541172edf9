-- The base list edited: what is found afterwards, its order and its length; and that the edits between two base lists lead from one to the other.
-- Assumes nothing.
use Prim.Native.Nat.{ℕ, suc, ◌≤◌}
use native.Mathlib.Omega.{arith}
use mathlib.Core.Path.{◌≡◌, refl, sym, ap, ◌∙◌}
use mathlib.Core.Bool.{Bool, true, false, cond, not, ◌&&◌, true≢false}
use mathlib.Core.Option.{Option, none, some}
use mathlib.Core.List.Memᴰ
use mathlib.Core.List.{List, [], ◌∷◌}
use lib.Dec.{eqb, ltb}
use lib.ListN.{length}
use borrow.Author.Tests.{eqb-true, eq-eqb, ne_eqb}
use Rattle.lists.specs.Lists.{keep, Every}
use Rattle.lists.specs.Entries.{Entry, words, find, insert, update, remove, Ascending, Distinct}
use Rattle.lists.proofs.Tests.{cases, by_test, cond_true, cond_false}
use Rattle.lists.proofs.Keep.{keep_in, keep_out, length-sub}
use Rattle.lists.proofs.Entries.{none≢some, keep_ascending, remove-sub, find_mem, find_none, none_find, mem_find, find_ext, insert-length, insert_ascending, insert-found, insert-other, remove_ascending, remove-found, remove-other, remove-length, update-length, update_ascending, update_found, update_other}
use Rattle.lists.proofs.Edits.{find-keep}
use Rattle.lists.proofs.Sorts.{by_word, ascending_distinct}
use Rattle.patch.specs.Base.{is_there, has, among, remove_all, enter, enter_all, gone_of, news_of}

-- by what is found
pub by_find : {P : Type 0} (o : Option ℕ) → (o ≡ none → P) → ((p : ℕ) → o ≡ some p → P) → P
by_find none f g = f refl
by_find (some p) f g = g p refl

some_inj : {a b : ℕ} → ◌≡◌ {A = Option ℕ} (some a) (some b) → a ≡ b
some_inj e = cc

-- ---- one entry

pub enter_ascending : (e : Entry) (base : List Entry) → Ascending base → Ascending (enter e base)
enter_ascending e base a = by_find (find e.word base) (λ n. rw n (insert_ascending e base a n)) (λ p s. rw s (update_ascending e base a))

pub enter-found : (e : Entry) (base : List Entry) → Ascending base → find e.word (enter e base) ≡ some e.plan
enter-found e base a = by_find (find e.word base) (λ n. rw n (insert-found e base a n)) (λ p s. rw s (update_found e p base s))

pub enter-other : (e : Entry) (base : List Entry) (w : ℕ) → (w ≡ e.word → ⊥) → find w (enter e base) ≡ find w base
enter-other e base w n =
    by_test (λ (l : List Entry). find w l ≡ find w base) (is_there (find e.word base)) (λ t. update_other e base w n) (λ f. insert-other e base w n)

-- ---- all of them

pub remove-all_ascending : (ws : List ℕ) (base : List Entry) → Ascending base → Ascending (remove_all ws base)
remove-all_ascending [] base a = a
remove-all_ascending (w ∷ ws) base a = remove-all_ascending ws (remove w base) (remove_ascending w base a)

pub enter-all_ascending : (es base : List Entry) → Ascending base → Ascending (enter_all es base)
enter-all_ascending [] base a = a
enter-all_ascending (e ∷ es) base a = enter-all_ascending es (enter e base) (enter_ascending e base a)

-- a word that is not there stays away
pub still_none : (w : ℕ) (ws : List ℕ) (base : List Entry) → Ascending base → find w base ≡ none → find w (remove_all ws base) ≡ none
still_none w [] base a h = h
still_none w (v ∷ ws) base a h =
    still_none w ws (remove v base) (remove_ascending v base a)
    (by_word w v (λ e. ap (λ (x : ℕ). find x (remove v base)) e ∙ remove-found v base a) (λ n. remove-other v base w n ∙ h))

pub remove-all-gone : (w : ℕ) (ws : List ℕ) (base : List Entry) → Ascending base → among w ws ≡ true → find w (remove_all ws base) ≡ none
remove-all-gone w [] base a h = absurd (true≢false (sym h))
remove-all-gone w (v ∷ ws) base a h =
    by_word w v
    (λ e. still_none w ws (remove v base) (remove_ascending v base a) (ap (λ (x : ℕ). find x (remove v base)) e ∙ remove-found v base a))
    (λ n. remove-all-gone w ws (remove v base) (remove_ascending v base a) (sym (cond_false true (among w ws) (ne_eqb w v n)) ∙ h))

pub remove-all-kept : (w : ℕ) (ws : List ℕ) (base : List Entry) → among w ws ≡ false → find w (remove_all ws base) ≡ find w base
remove-all-kept w [] base h = refl
remove-all-kept w (v ∷ ws) base h =
    by_word w v
    (λ e. absurd (true≢false (sym (cond_true true (among w ws) (eq-eqb w v e)) ∙ h)))
    (λ n. remove-all-kept w ws (remove v base) (sym (cond_false true (among w ws) (ne_eqb w v n)) ∙ h) ∙ remove-other v base w n)

pub enter-all-kept : (w : ℕ) (es base : List Entry) → find w es ≡ none → find w (enter_all es base) ≡ find w base
enter-all-kept w [] base h = refl
enter-all-kept w (e ∷ es) base h =
    let n : w ≡ e.word → ⊥ = find_none w (e ∷ es) h e (Memᴰ.head refl) in
    enter-all-kept w es (enter e base) (sym (cond_false (some e.plan) (find w es) (ne_eqb w e.word n)) ∙ h) ∙ enter-other e base w n

pub enter-all-found : (w p : ℕ) (es base : List Entry) → Distinct es → Ascending base → find w es ≡ some p → find w (enter_all es base) ≡ some p
enter-all-found w p [] base d a h = absurd (none≢some h)
enter-all-found w p (e ∷ es) base d a h =
    by_word w e.word
    (λ q. enter-all-kept w es (enter e base) (rw q d.0) ∙ ap (λ (x : ℕ). find x (enter e base)) q ∙ enter-found e base a ∙ (rw (eq-eqb w e.word q) at h))
    (λ n. enter-all-found w p es (enter e base) d.1 (enter_ascending e base a) (sym (cond_false (some e.plan) (find w es) (ne_eqb w e.word n)) ∙ h))

-- ---- from one base list to another

-- whether w is one of the words
among-words : (w : ℕ) (es : List Entry) → among w (words es) ≡ is_there (find w es)
among-words w [] = refl
among-words w (e ∷ es) = cases (eqb w e.word) (λ t. rw t refl) (λ f. rw f (among-words w es))

-- ---- the words gone

module _ (old new : List Entry) where
  abbrev left : ℕ → Bool
  left w = not (is_there (find w new))

  pub gone_is : (w : ℕ) → find w new ≡ none → among w (gone_of old new) ≡ is_there (find w old)
  gone_is w n =
      among-words w (keep (λ e. left e.word) old) ∙ ap is_there (find-keep left w old (ap (λ (o : Option ℕ). not (is_there o)) n))

  pub gone_not : (w p : ℕ) → find w new ≡ some p → among w (gone_of old new) ≡ false
  gone_not w p s =
      among-words w (keep (λ e. left e.word) old)
      ∙ ap is_there (none_find w (keep (λ e. left e.word) old)
      (λ x m q. true≢false (sym (keep_out (λ (e : Entry). left e.word) old x m).1 ∙ ap left (sym q) ∙ ap (λ (o : Option ℕ). not (is_there o)) s)))

-- ---- the entries new or changed

has_some : (p : ℕ) (o : Option ℕ) → has p o ≡ true → o ≡ some p
has_some p none h = absurd (true≢false (sym h))
has_some p (some q) h = ap some (sym (eqb-true p q h))

module _ (old new : List Entry) (a : Ascending new) where
  abbrev fresh : Entry → Bool
  fresh e = not (has e.plan (find e.word old))

  pub news_ascending : Ascending (news_of old new)
  news_ascending = keep_ascending fresh new a

  news_none : (w : ℕ) → find w new ≡ none → find w (news_of old new) ≡ none
  news_none w n = none_find w (news_of old new) (λ x m. find_none w new n x (keep_out fresh new x m).0)

  news_some : (w p : ℕ) → find w new ≡ some p → has p (find w old) ≡ false → find w (news_of old new) ≡ some p
  news_some w p s f =
      mem_find (news_of old new) news_ascending (record { word = w; plan = p }) (keep_in fresh new (find_mem w p new s) (ap not f))

  news-same : (w p : ℕ) → find w new ≡ some p → has p (find w old) ≡ true → find w (news_of old new) ≡ none
  news-same w p s t =
      none_find w (news_of old new)
      (λ x m q. let k = keep_out fresh new x m in
      let e : x.plan ≡ p = some_inj (sym (mem_find new a x k.0) ∙ ap (λ (v : ℕ). find v new) (sym q) ∙ s) in
      true≢false (sym k.1 ∙ ap not (ap (λ (v : ℕ). has x.plan (find v old)) (sym q) ∙ ap (λ (v : ℕ). has v (find w old)) e ∙ t)))

-- ---- from one to the other

pub edits_lead : (old new : List Entry) → Ascending old → Ascending new → enter_all (news_of old new) (remove_all (gone_of old new) old) ≡ new
edits_lead old new a b =
    find_ext (enter_all news rest) new (enter-all_ascending news rest asc) b
    (λ w. by_find (find w new) (λ n. absent w n ∙ sym n) (λ p s. cases (has p (find w old)) (λ t. same w p s t ∙ sym s) (λ f. fresh_one w p s f ∙ sym s)))
  where
    news : List Entry
    news = news_of old new

    rest : List Entry
    rest = remove_all (gone_of old new) old

    asc : Ascending rest
    asc = remove-all_ascending (gone_of old new) old a

    absent : (w : ℕ) → find w new ≡ none → find w (enter_all news rest) ≡ none
    absent w n =
        enter-all-kept w news rest (news_none old new b w n)
        ∙ by_find (find w old) (λ m. still_none w (gone_of old new) old a m) (λ p s. remove-all-gone w (gone_of old new) old a (gone_is old new w n ∙ ap is_there s))

    same : (w p : ℕ) → find w new ≡ some p → has p (find w old) ≡ true → find w (enter_all news rest) ≡ some p
    same w p s t =
        enter-all-kept w news rest (news-same old new b w p s t) ∙ remove-all-kept w (gone_of old new) old (gone_not old new w p s) ∙ has_some p (find w old) t

    fresh_one : (w p : ℕ) → find w new ≡ some p → has p (find w old) ≡ false → find w (enter_all news rest) ≡ some p
    fresh_one w p s f = enter-all-found w p news rest (ascending_distinct news (news_ascending old new b)) asc (news_some old new b w p s f)

-- ---- how many: distinct entries whose words another list has are not more than it has

pub fewer : (xs ys : List Entry) → Distinct xs → ((w : ℕ) → find w ys ≡ none → find w xs ≡ none) → length xs ≤ length ys
fewer [] ys d h = omega arith
fewer (x ∷ xs) ys d h =
    by_find (find x.word ys)
    (λ n. absurd (none≢some (sym (h x.word n) ∙ cond_true (some x.plan) (find x.word xs) (eq-eqb x.word x.word refl))))
    (λ p s. let l : suc (length (remove x.word ys)) ≡ length ys = remove-length x.word p ys s in
    let i : length xs ≤ length (remove x.word ys) = fewer xs (remove x.word ys) d.1 (λ w n. by_word w x.word
    (λ q. ap (λ (v : ℕ). find v xs) q ∙ d.0)
    (λ m. sym (cond_false (some x.plan) (find w xs) (ne_eqb w x.word m)) ∙ h w (sym (remove-other x.word ys w m) ∙ n))) in
    omega arith)

-- ---- what holds of each entry

module _ (F : Entry → Type 0) where
  every-remove : (w : ℕ) (es : List Entry) → Every F es → Every F (remove w es)
  every-remove w [] h = tt
  every-remove w (e ∷ es) h = by_test (Every F) (eqb w e.word) (λ t. h.1) (λ f. (h.0, every-remove w es h.1))

  every-insert : (e : Entry) (es : List Entry) → F e → Every F es → Every F (insert e es)
  every-insert e [] f h = (f, tt)
  every-insert e (x ∷ xs) f h = by_test (Every F) (ltb e.word x.word) (λ t. (f, h)) (λ n. (h.0, every-insert e xs f h.1))

  every-update : (e : Entry) (es : List Entry) → F e → Every F es → Every F (update e es)
  every-update e [] f h = tt
  every-update e (x ∷ xs) f h = by_test (Every F) (eqb e.word x.word) (λ t. (f, h.1)) (λ n. (h.0, every-update e xs f h.1))

  pub every-remove-all : (ws : List ℕ) (es : List Entry) → Every F es → Every F (remove_all ws es)
  every-remove-all [] es h = h
  every-remove-all (w ∷ ws) es h = every-remove-all ws (remove w es) (every-remove w es h)

  pub every-enter-all : (ds es : List Entry) → Every F ds → Every F es → Every F (enter_all ds es)
  every-enter-all [] es k h = h
  every-enter-all (d ∷ ds) es k h =
      every-enter-all ds (enter d es) k.1
      (by_test (Every F) (is_there (find d.word es)) (λ t. every-update d es k.0 h) (λ f. every-insert d es k.0 h))

pub remove-all-length : (ws : List ℕ) (es : List Entry) → length (remove_all ws es) ≤ length es
remove-all-length [] es = omega arith
remove-all-length (w ∷ ws) es =
    let i = remove-all-length ws (remove w es) in
    let j : length (remove w es) ≤ length es = length-sub (remove-sub w es) in
    omega arith

-- ---- as code tests it

-- a word that is there makes no entry more
pub enter-length : (e : Entry) (es : List Entry) → length (enter e es) ≡ cond (is_there (find e.word es)) (length es) (suc (length es))
enter-length e es = cases (is_there (find e.word es)) (λ t. rw t (update-length e es)) (λ f. rw f (insert-length e es))

-- of the words gone, each there before, w is one exactly if it was there and is no longer
pub among-gone : (w : ℕ) (ws : List ℕ) (base : List Entry) → Ascending base → (among w ws ≡ true → is_there (find w base) ≡ true)
    → among w ws ≡ (is_there (find w base) && not (is_there (find w (remove_all ws base))))
among-gone w ws base a h =
    cases (among w ws)
    (λ t. rw (t, h t, remove-all-gone w ws base a t))
    (λ f. rw (f, remove-all-kept w ws base f) (sym (and_not (is_there (find w base)))))
  where
    and_not : (x : Bool) → (x && not x) ≡ false
    and_not true = refl
    and_not false = refl
