-- A pair of numbers, which is an entry, comes into a list or goes out of it; numbers that hold entries; and where an entry stands that is
-- found, changed, removed or inserted, and what that does to the pairs.
-- Assumes nothing.
use Prim.Native.Nat.{ℕ, suc, ◌+◌, ◌-◌, ◌*◌, ◌≤◌, ◌<◌, zero-le}
use native.Mathlib.Nat.{not-suc-le-zero, le_of_suc-le-suc}
use native.Mathlib.Omega.{arith}
use mathlib.Core.Path.{◌≡◌, refl, sym, ap, ap₂, ◌∙◌, subst, subst⁻¹}
use mathlib.Core.Bool.{Bool, true, false}
use mathlib.Core.Option.{none, some}
use mathlib.Core.List.{List, [], ◌∷◌, ◌++◌, append_assoc, append-nil}
use lib.Dec.{eqb, ltb}
use lib.ListN.{length, get_or, set, take, drop, replicate, length-append, length-drop, length-replicate, take-append-drop, drop_of_length-le}
use lib.Seq.{drop-cons, set-append_left, take_at, drop_at, drop-drop, length-take-le, paste, take-append-add, drop-append-add}
use borrow.Rule.Slice.PartMut.{put_mid}
use Rattle.std.specs.List.{copy_within}
use Rattle.std.proofs.lemmas.List.{set_at}
use borrow.Author.Tests.{eqb-true}
use Rattle.lists.specs.Lists.{put_at}
use Rattle.lists.specs.Entries.{Entry, find, insert, update, remove}
use Rattle.lists.proofs.Tests.{by_test, cases, cond_true, cond_false}
use Rattle.lists.proofs.Entries.{insert-length, update-length, remove-length}
use Rattle.table.specs.Layout.{pair_numbers, pairs_from}
use Rattle.table.proofs.Numbers.{back_pairs, length_pairs, length-pairs_from, read_pair}
use Rattle.table_base.specs.Base.{capacity, pairs_in, Pairs, before}

pairs_append : (es fs : List Entry) → pair_numbers (es ++ fs) ≡ pair_numbers es ++ pair_numbers fs
pairs_append [] fs = refl
pairs_append (e ∷ es) fs = ap {B = List ℕ} (λ l. e.word ∷ e.plan ∷ l) (pairs_append es fs)

pub length_in : (m : ℕ) (es : List Entry) → length es ≤ m → length (pairs_in m es) ≡ 2 * m
length_in m es h =
    let z : ℕ = 2 * m - 2 * length es in
    omega (arith, length-append (pair_numbers es) (replicate z 0), length-replicate {A = ℕ} z 0, length_pairs es)

-- ---- the numbers behind a place move by two

-- up, and two come in there
moved_up : (A R : List ℕ) (a n v p : ℕ) → length A ≡ a → n + 2 ≤ length R
    → set (set (paste (A ++ R) (a + 2) (drop a (A ++ R)) n) a v) (a + 1) p ≡ A ++ v ∷ p ∷ (take n R ++ drop (n + 2) R)
moved_up A [] a n v p l h = absurd (omega arith)
moved_up A (x ∷ []) a n v p l h = absurd (omega arith)
moved_up A (x ∷ y ∷ R) a n v p l h =
    let S : List ℕ = x ∷ y ∷ R in
    let W : List ℕ = take n S ++ drop (n + 2) S in
    let k : a + 2 ≡ length A + 2 = omega arith in
    let j : a + 2 + n ≡ length A + (n + 2) = omega arith in
    let front : take (a + 2) (A ++ S) ≡ A ++ x ∷ y ∷ [] = ap (λ (i : ℕ). take i (A ++ S)) k ∙ take-append-add A S 2 in
    let back : drop (a + 2 + n) (A ++ S) ≡ drop (n + 2) S = ap (λ (i : ℕ). drop i (A ++ S)) j ∙ drop-append-add A S (n + 2) in
    let moved : paste (A ++ S) (a + 2) (drop a (A ++ S)) n ≡ A ++ x ∷ y ∷ W =
    ap₂ (λ (f g : List ℕ). (f ++ take n g) ++ drop (a + 2 + n) (A ++ S)) front (drop_at A S a l) ∙ ap (λ (g : List ℕ). ((A ++ x ∷ y ∷ []) ++ take n S) ++ g) back
    ∙ append_assoc (A ++ x ∷ y ∷ []) (take n S) (drop (n + 2) S) ∙ append_assoc A (x ∷ y ∷ []) W in
    ap (λ (g : List ℕ). set (set g a v) (a + 1) p) moved
    ∙ ap (λ (g : List ℕ). set g (a + 1) p) (set_at A x (y ∷ W) v a l ∙ sym (append_assoc A (v ∷ []) (y ∷ W)))
    ∙ set_at (A ++ v ∷ []) y W p (a + 1) (omega (arith, length-append A (v ∷ [])))
    ∙ append_assoc A (v ∷ []) (p ∷ W)

-- down, over two, and two zeros come behind them
moved_down : (A R : List ℕ) (a n x y at k : ℕ) → length A ≡ a → n ≤ length R → at ≡ a + n → k ≡ 2
    → put_mid at k (paste (A ++ x ∷ y ∷ R) a (drop (a + 2) (A ++ x ∷ y ∷ R)) n) (0 ∷ 0 ∷ []) ≡ A ++ (take n R ++ 0 ∷ 0 ∷ drop n R)
moved_down A R a n x y at k l h e f =
    let S : List ℕ = x ∷ y ∷ R in
    let T : List ℕ = drop (a + n) (A ++ S) in
    let j : a + 2 ≡ length A + 2 = omega arith in
    let i : a + n ≡ length A + n = omega arith in
    let g : n + 2 ≡ suc (suc n) = omega arith in
    let size : length (A ++ take n R) ≡ a + n = omega (arith, length-append A (take n R), length-take-le n R h) in
    let moved : paste (A ++ S) a (drop (a + 2) (A ++ S)) n ≡ (A ++ take n R) ++ T =
    ap₂ (λ (u w : List ℕ). (u ++ take n w) ++ T) (take_at A S a l) (ap (λ (i : ℕ). drop i (A ++ S)) j ∙ drop-append-add A S 2) in
    let rest : drop 2 T ≡ drop n R = ap (drop 2) (ap (λ (i : ℕ). drop i (A ++ S)) i ∙ drop-append-add A S n) ∙ drop-drop 2 n S ∙ ap (λ (i : ℕ). drop i S) g in
    ap₂ (λ (at k : ℕ). put_mid at k (paste (A ++ S) a (drop (a + 2) (A ++ S)) n) (0 ∷ 0 ∷ [])) e f
    ∙ ap (λ (u : List ℕ). put_mid (a + n) 2 u (0 ∷ 0 ∷ [])) moved
    ∙ ap₂ (λ (u w : List ℕ). u ++ 0 ∷ 0 ∷ w) (take_at (A ++ take n R) T (a + n) size) (ap (drop 2) (drop_at (A ++ take n R) T (a + n) size) ∙ rest)
    ∙ append_assoc A (take n R) (0 ∷ 0 ∷ drop n R)

-- ---- numbers that hold entries

module _ {m k : ℕ} {xs : List ℕ} (h : Pairs m k xs) where
  pub length-of : length xs ≡ 2 * m
  length-of = ap length h.rest ∙ length_in m (pairs_from k xs) (omega (arith, length-pairs_from k xs, h.fits))

  pub room : 2 * k ≤ length xs
  room = omega (arith, length-of, h.fits)

  -- the length tells for how many there is room
  pub capacity_of : capacity xs ≡ m
  capacity_of = omega (arith, length-of)

  -- the search looks at the pairs in use
  pub searched : (j : ℕ) → j ≡ 2 * k → pairs_from (capacity (take j xs)) (take j xs) ≡ pairs_from k xs
  searched j e =
      let es : List Entry = pairs_from k xs in
      let n : length (pair_numbers es) ≡ j = omega (arith, length_pairs es, length-pairs_from k xs) in
      let used : take j xs ≡ pair_numbers es = ap (take j) h.rest ∙ take_at (pair_numbers es) _ j n in
      let c : capacity (pair_numbers es) ≡ length es = omega (arith, length_pairs es) in
      ap (λ (l : List ℕ). pairs_from (capacity l) l) used ∙ ap (λ (i : ℕ). pairs_from i (pair_numbers es)) c
      ∙ ap (pairs_from (length es)) (sym (append-nil (pair_numbers es))) ∙ back_pairs es []

  pub sized : Pairs (capacity xs) k xs
  sized = subst⁻¹ (λ (j : ℕ). Pairs j k xs) capacity_of h

-- ---- the search passes the pairs one by one

abbrev none_at : Entry
none_at = record { word = 0; plan = 0 }

module _ (p : ℕ → Bool) (xs : List ℕ) (k i : ℕ) where
  abbrev left : List Entry
  left = drop i (pairs_from k xs)

  next : i < k → left ≡ record { word = get_or xs (2 * i) 0; plan = get_or xs (2 * i + 1) 0 } ∷ drop (suc i) (pairs_from k xs)
  next h =
      let l : i < length (pairs_from k xs) = subst (λ (n : ℕ). i < n) (sym (length-pairs_from k xs)) h in
      drop-cons (pairs_from k xs) i none_at l ∙ ap {B = List Entry} (λ e. e ∷ drop (suc i) (pairs_from k xs)) (read_pair k xs i none_at h)

  pub before_here : i < k → p (get_or xs (2 * i) 0) ≡ true → before p left ≡ 0
  before_here h t = ap (before p) (next h) ∙ cond_true 0 _ t

  pub before-next : i < k → p (get_or xs (2 * i) 0) ≡ false → before p left ≡ suc (before p (drop (suc i) (pairs_from k xs)))
  before-next h f = ap (before p) (next h) ∙ cond_false 0 _ f

  pub before-end : k ≤ i → before p left ≡ 0
  before-end h = ap (before p) (drop_of_length-le (pairs_from k xs) (subst (λ (n : ℕ). n ≤ i) (sym (length-pairs_from k xs)) h))

before_le : (p : ℕ → Bool) (es : List Entry) → before p es ≤ length es
before_le p [] = zero-le
before_le p (x ∷ xs) = by_test (λ (i : ℕ). i ≤ suc (length xs)) (p x.word) (λ t. zero-le) (λ f. let h = before_le p xs in omega arith)

-- ---- one entry

insert-put : (e : Entry) (es : List Entry) → insert e es ≡ put_at (before (ltb e.word) es) e es
insert-put e [] = refl
insert-put e (x ∷ es) = cases (ltb e.word x.word) (λ t. rw t) (λ f. rw f (ap {B = List Entry} (λ l. x ∷ l) (insert-put e es)))

module _ (v : ℕ) where
  abbrev at : List Entry → ℕ
  at es = before (eqb v) es

  find_some : (es : List Entry) → at es < length es → find v es ≡ some (get_or es (at es) none_at).plan
  find_some [] = λ h. absurd (not-suc-le-zero h)
  find_some (x ∷ es) = cases (eqb v x.word) (λ t. rw t (λ h. refl)) (λ f. rw f (λ h. find_some es (le_of_suc-le-suc h)))

  find_none : (es : List Entry) → length es ≤ at es → find v es ≡ none
  find_none [] = λ h. refl
  find_none (x ∷ es) = cases (eqb v x.word) (λ t. rw t (λ h. absurd (not-suc-le-zero h))) (λ f. rw f (λ h. find_none es (le_of_suc-le-suc h)))

  remove-put : (es : List Entry) → at es < length es → put_at (at es) (get_or es (at es) none_at) (remove v es) ≡ es
  remove-put [] = λ h. absurd (not-suc-le-zero h)
  remove-put (x ∷ es) =
      cases (eqb v x.word) (λ t. rw t (λ h. refl)) (λ f. rw f (λ h. ap {B = List Entry} (λ l. x ∷ l) (remove-put es (le_of_suc-le-suc h))))

  remove_none : (es : List Entry) → length es ≤ at es → remove v es ≡ es
  remove_none [] = λ h. refl
  remove_none (x ∷ es) =
      cases (eqb v x.word) (λ t. rw t (λ h. absurd (not-suc-le-zero h))) (λ f. rw f (λ h. ap {B = List Entry} (λ l. x ∷ l) (remove_none es (le_of_suc-le-suc h))))

  module _ (p : ℕ) where
    abbrev e : Entry
    e = record { word = v; plan = p }

    update_none : (es : List Entry) → length es ≤ at es → update e es ≡ es
    update_none [] = λ h. refl
    update_none (x ∷ es) =
        cases (eqb v x.word) (λ t. rw t (λ h. absurd (not-suc-le-zero h))) (λ f. rw f (λ h. ap {B = List Entry} (λ l. x ∷ l) (update_none es (le_of_suc-le-suc h))))

    update_pairs : (es : List Entry) → at es < length es → pair_numbers (update e es) ≡ set (pair_numbers es) (2 * at es + 1) p
    update_pairs [] = λ h. absurd (not-suc-le-zero h)
    update_pairs (x ∷ es) =
        cases (eqb v x.word) (λ t. rw t (λ h. ap {B = List ℕ} (λ w. w ∷ p ∷ pair_numbers es) (eqb-true v x.word t)))
        (λ f. rw f (λ h.
        let k : suc (suc (2 * at es + 1)) ≡ 2 * suc (at es) + 1 = omega arith in
        ap {B = List ℕ} (λ l. x.word ∷ x.plan ∷ l) (update_pairs es (le_of_suc-le-suc h)) ∙ ap (λ (j : ℕ). set (pair_numbers (x ∷ es)) j p) k))

-- ---- the pairs

module _ {m k : ℕ} {xs : List ℕ} (h : Pairs m k xs) where
  abbrev es : List Entry
  es = pairs_from k xs

  size : length es ≡ k
  size = length-pairs_from k xs

  module _ (v i : ℕ) (q : i ≡ before (eqb v) es) where
    within : i < k → before (eqb v) es < length es
    within l = omega (arith, size)

    beyond : k ≤ i → length es ≤ before (eqb v) es
    beyond l = omega (arith, size)

    pub found : i < k → find v es ≡ some (get_or xs (2 * i + 1) 0)
    found l =
        find_some v es (within l) ∙ ap (λ (j : ℕ). some (get_or es j none_at).plan) (sym q) ∙ ap (λ (e : Entry). some e.plan) (read_pair k xs i none_at l)

    pub not_found : k ≤ i → find v es ≡ none
    not_found l = find_none v es (beyond l)

    pub updated : (p : ℕ) → i < k → set xs (2 * i + 1) p ≡ pairs_in m (update (record { word = v; plan = p }) es)
    updated p l =
        let t : 2 * before (eqb v) es + 1 < length (pair_numbers es) = omega (arith, within l, length_pairs es) in
        ap (λ (zs : List ℕ). set zs (2 * i + 1) p) h.rest ∙ ap (λ (j : ℕ). set (pairs_in m es) (2 * j + 1) p) q
        ∙ set-append_left (pair_numbers es) _ _ p t
        ∙ ap₂ (λ (a : List ℕ) (n : ℕ). a ++ replicate (2 * m - 2 * n) 0) (sym (update_pairs v p es (within l))) (sym (update-length (record { word = v; plan = p }) es))

    pub not_updated : (p : ℕ) → k ≤ i → xs ≡ pairs_in m (update (record { word = v; plan = p }) es)
    not_updated p l = h.rest ∙ ap (pairs_in m) (sym (update_none v p es (beyond l)))

    pub removed_length : i < k → k - 1 ≡ length (remove v es)
    removed_length l = omega (arith, size, remove-length v _ es (found l))

    pub removed : (ys zs : List ℕ) → i < k → ys ≡ copy_within xs (2 * i + 2) (2 * k) (2 * i) → length ys ≡ length xs
        → zs ≡ replicate (length (take (2 * k - (2 * k - 2)) (drop (2 * k - 2) ys))) 0 → put_mid (2 * k - 2) (2 * k - (2 * k - 2)) ys zs ≡ pairs_in m (remove v es)
    removed ys zs l e ly f =
        let rs : List Entry = remove v es in
        let x : Entry = get_or es i none_at in
        let A : List ℕ = pair_numbers (take i rs) in
        let B : List ℕ = pair_numbers (drop i rs) in
        let Z : List ℕ = replicate (2 * m - 2 * length es) 0 in
        let n : ℕ = 2 * k - (2 * i + 2) in
        let less : k - 1 ≡ length rs = removed_length l in
        let la : length A ≡ 2 * i = omega (arith, length_pairs (take i rs), length-take-le i rs (omega arith)) in
        let lb : length B ≡ n = omega (arith, length_pairs (drop i rs), length-drop i rs) in
        let lz : length (take (2 * k - (2 * k - 2)) (drop (2 * k - 2) ys)) ≡ 2 =
        (let t : 2 * k - (2 * k - 2) ≡ 2 = omega arith in ap (λ (j : ℕ). length (take j (drop (2 * k - 2) ys))) t ∙ length-take-le 2 (drop (2 * k - 2) ys) (omega (arith, length-drop (2 * k - 2) ys, length-of h, h.fits))) in
        let parts : es ≡ take i rs ++ x ∷ drop i rs = sym (ap (λ (j : ℕ). put_at j (get_or es j none_at) rs) q ∙ remove-put v es (within l)) in
        let whole : xs ≡ A ++ x.word ∷ x.plan ∷ (B ++ Z) =
        h.rest ∙ ap (λ (l : List ℕ). l ++ Z) (ap pair_numbers parts ∙ pairs_append (take i rs) (x ∷ drop i rs)) ∙ append_assoc A (x.word ∷ x.plan ∷ B) Z in
        let more : 2 * m - 2 * length rs ≡ suc (suc (2 * m - 2 * length es)) = omega (arith, size, h.fits) in
        ap₂ (put_mid (2 * k - 2) (2 * k - (2 * k - 2))) (e ∙ ap (λ (l : List ℕ). copy_within l (2 * i + 2) (2 * k) (2 * i)) whole) (f ∙ ap (λ (j : ℕ). replicate j 0) lz)
        ∙ moved_down A (B ++ Z) (2 * i) n x.word x.plan (2 * k - 2) (2 * k - (2 * k - 2)) la (omega (arith, length-append B Z)) (omega arith) (omega arith)
        ∙ ap₂ (λ (u w : List ℕ). A ++ (u ++ 0 ∷ 0 ∷ w)) (take_at B Z n lb) (drop_at B Z n lb)
        ∙ sym (ap₂ (λ (l : List Entry) (j : ℕ). pair_numbers l ++ replicate j 0) (sym (take-append-drop i rs)) more
        ∙ ap (λ (l : List ℕ). l ++ 0 ∷ 0 ∷ Z) (pairs_append (take i rs) (drop i rs)) ∙ append_assoc A B (0 ∷ 0 ∷ Z))

    pub not_removed_length : k ≤ i → k ≡ length (remove v es)
    not_removed_length l = sym (ap length (remove_none v es (beyond l)) ∙ size)

    pub not_removed : k ≤ i → xs ≡ pairs_in m (remove v es)
    not_removed l = h.rest ∙ ap (pairs_in m) (sym (remove_none v es (beyond l)))

  pub place_le : (v i : ℕ) → i ≡ before (ltb v) es → i ≤ k
  place_le v i q = omega (arith, before_le (ltb v) es, size)

  pub inserted : (v p i : ℕ) (ys : List ℕ) → i ≡ before (ltb v) es → k < m → ys ≡ copy_within xs (2 * i) (2 * k) (2 * i + 2)
      → set (set ys (2 * i) v) (2 * i + 1) p ≡ pairs_in m (insert (record { word = v; plan = p }) es)
  inserted v p i ys q l e =
      let x : Entry = record { word = v; plan = p } in
      let A : List ℕ = pair_numbers (take i es) in
      let B : List ℕ = pair_numbers (drop i es) in
      let Z : List ℕ = replicate (2 * m - 2 * length es) 0 in
      let n : ℕ = 2 * k - 2 * i in
      let i-le : i ≤ k = place_le v i q in
      let la : length A ≡ 2 * i = omega (arith, length_pairs (take i es), length-take-le i es (omega (arith, size))) in
      let lb : length B ≡ n = omega (arith, length_pairs (drop i es), length-drop i es, size) in
      let whole : xs ≡ A ++ (B ++ Z) =
      h.rest ∙ ap (λ (l : List ℕ). l ++ Z) (ap pair_numbers (sym (take-append-drop i es)) ∙ pairs_append (take i es) (drop i es)) ∙ append_assoc A B Z in
      let less : 2 * m - 2 * length es ≡ suc (suc (2 * m - 2 * length (insert x es))) = omega (arith, insert-length x es, size) in
      let rest : drop (n + 2) (B ++ Z) ≡ replicate (2 * m - 2 * length (insert x es)) 0 =
      sym (drop-drop 2 n (B ++ Z)) ∙ ap (drop 2) (drop_at B Z n lb) ∙ ap (λ (j : ℕ). drop 2 (replicate j 0)) less in
      let parts : insert x es ≡ take i es ++ x ∷ drop i es = insert-put x es ∙ ap (λ (j : ℕ). put_at j x es) (sym q) in
      ap (λ (l : List ℕ). set (set l (2 * i) v) (2 * i + 1) p) (e ∙ ap (λ (l : List ℕ). copy_within l (2 * i) (2 * k) (2 * i + 2)) whole)
      ∙ moved_up A (B ++ Z) (2 * i) n v p la (omega (arith, length-append B Z, length-replicate {A = ℕ} (2 * m - 2 * length es) 0, size))
      ∙ ap₂ (λ (u w : List ℕ). A ++ v ∷ p ∷ (u ++ w)) (take_at B Z n lb) rest
      ∙ sym (append_assoc A (v ∷ p ∷ B) (replicate (2 * m - 2 * length (insert x es)) 0))
      ∙ ap (λ (l : List ℕ). l ++ replicate (2 * m - 2 * length (insert x es)) 0) (sym (ap pair_numbers parts ∙ pairs_append (take i es) (x ∷ drop i es)))
