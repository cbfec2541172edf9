-- Tables and their numbers: there and back, and what one bucket, the base list or the count changes. At every number n of rows and r of solution words.
-- Assumes nothing.
use Prim.Native.Nat.{ℕ, zero, suc, ◌+◌, ◌-◌, ◌*◌, ◌≤◌, ◌<◌}
use native.Mathlib.Nat.{add-mul, not-suc-le-zero, le_of_suc-le-suc}
use native.Mathlib.Omega.{arith}
use mathlib.Core.Path.{◌≡◌, refl, sym, ap, ap₂, ◌∙◌, subst}
use mathlib.Core.List.{List, [], ◌∷◌, ◌++◌, append_assoc}
use lib.ListN.{length, get_or, set, take, drop, replicate, length-append, length-drop, length-set, length-replicate, take-append-drop, get_or-append}
use lib.Seq.{take-append-add, drop-append-add, take_at, drop_at, get_or-take, get_or-drop, take-take, drop-drop, set-append_left}
use Rattle.lists.specs.Entries.{Entry}
use Rattle.lists.specs.Totals.{one_more, one_less}
use Rattle.lists.proofs.Parts.{drop-take, zeros, zero_at}
use Rattle.bucket.specs.declared.Bucket.{Bucket}
use Rattle.bucket_words.specs.Words.{bucket_words, words_of, bucket_from, Shaped}
use Rattle.bucket_words.proofs.Words.{length-words, from-words, words-from}
use Rattle.model.specs.Model.{base_limit}
use Rattle.table.specs.Table.{Table, total_numbers, with_first, with_second, with_base, with_count, with_totals, nth}
use Rattle.table.specs.Layout.{leading, buckets1_at, buckets2_at, base_count_at, live_count_at, totals_at, header, base_numbers, level_numbers, pair_numbers, base_pairs, heads, numbers_of, level_from, pairs_from, bucket_place, table_from, length_of, unused_in}

-- ---- pairs

pub back_pairs : (es : List Entry) (rest : List ℕ) → pairs_from (length es) (pair_numbers es ++ rest) ≡ es
back_pairs [] rest = refl
back_pairs (e ∷ es) rest = ap {B = List Entry} (λ l. e ∷ l) (back_pairs es rest)

forth_pairs : (k : ℕ) (xs : List ℕ) → 2 * k ≤ length xs → pair_numbers (pairs_from k xs) ++ drop (2 * k) xs ≡ xs
forth_pairs zero xs h = refl
forth_pairs (suc k) [] h = absurd (omega arith)
forth_pairs (suc k) (x ∷ []) h = absurd (omega arith)
forth_pairs (suc k) (x ∷ y ∷ xs) h =
    let e : 2 * suc k ≡ suc (suc (2 * k)) = omega arith in
    ap {B = List ℕ} (λ l. x ∷ y ∷ l) (ap (λ (j : ℕ). pair_numbers (pairs_from k xs) ++ drop j (x ∷ y ∷ xs)) e ∙ forth_pairs k xs (omega arith))

pub length-pairs_from : (k : ℕ) (xs : List ℕ) → length (pairs_from k xs) ≡ k
length-pairs_from zero xs = refl
length-pairs_from (suc k) xs = ap suc (length-pairs_from k (drop 2 xs))

pub length_pairs : (es : List Entry) → length (pair_numbers es) ≡ 2 * length es
length_pairs [] = refl
length_pairs (e ∷ es) = let h = length_pairs es in omega arith

pub length-base : (es : List Entry) → length es ≤ base_limit → length (base_pairs es) ≡ base_numbers
length-base es h =
    let z : List ℕ = replicate (base_numbers - 2 * length es) 0 in
    let e : length z ≡ base_numbers - 2 * length es = length-replicate (base_numbers - 2 * length es) 0 in
    omega (arith, length-append (pair_numbers es) z, length_pairs es)

-- pair i
pub read_pair : (k : ℕ) (xs : List ℕ) (i : ℕ) (d : Entry) → i < k → get_or (pairs_from k xs) i d ≡ record { word = get_or xs (2 * i) 0; plan = get_or xs (2 * i + 1) 0 }
read_pair zero xs i d h = absurd (not-suc-le-zero h)
read_pair (suc k) xs zero d h = refl
read_pair (suc k) xs (suc i) d h =
    let e : 2 + 2 * i ≡ 2 * suc i = omega arith in
    let f : 2 + (2 * i + 1) ≡ 2 * suc i + 1 = omega arith in
    read_pair k (drop 2 xs) i d (le_of_suc-le-suc h)
    ∙ ap₂ {C = Entry} (λ u v. record { word = u; plan = v }) (get_or-drop 2 xs (2 * i) 0 ∙ ap (λ (j : ℕ). get_or xs j 0) e) (get_or-drop 2 xs (2 * i + 1) 0 ∙ ap (λ (j : ℕ). get_or xs j 0) f)

module _ (n r : ℕ) where
  abbrev pub AllShaped : List Bucket → Type 0
  AllShaped bs = (i : ℕ) → i < length bs → Shaped n r (nth n r bs i)

  -- a table that has the layout
  pub record ShapedTable (T : Table) : Type 0 where
    pub first : AllShaped T.level1
    pub second : AllShaped T.level2
    pub fits : length T.base ≤ base_limit
    pub totalled : length T.totals ≡ total_numbers

  -- numbers that have the layout
  pub record Laid (xs : List ℕ) : Type 0 where
    pub size : length xs ≡ length_of n r (get_or xs buckets1_at 0) (get_or xs buckets2_at 0)
    pub fits : get_or xs base_count_at 0 ≤ base_limit
    pub unused : (i : ℕ) → get_or (unused_in n r xs) i 0 ≡ 0

  -- ---- one level

  -- a bucket's words are the first of the level's
  past : (b : Bucket) (rest : List ℕ) → Shaped n r b → (k : ℕ) → drop (bucket_words n r + k) (words_of b ++ rest) ≡ drop k rest
  past b rest h k = subst (λ (m : ℕ). drop (m + k) (words_of b ++ rest) ≡ drop k rest) (length-words n r b h) (drop-append-add (words_of b) rest k)

  front : (b : Bucket) (rest : List ℕ) → Shaped n r b → (k : ℕ) → take (bucket_words n r + k) (words_of b ++ rest) ≡ words_of b ++ take k rest
  front b rest h k = subst (λ (m : ℕ). take (m + k) (words_of b ++ rest) ≡ words_of b ++ take k rest) (length-words n r b h) (take-append-add (words_of b) rest k)

  pub length_level : (bs : List Bucket) → AllShaped bs → length (level_numbers bs) ≡ length bs * bucket_words n r
  length_level [] f = omega arith
  length_level (b ∷ bs) f =
      let h = length_level bs (λ j l. f (suc j) (omega arith)) in
      omega (arith, length-append (words_of b) (level_numbers bs), length-words n r b (f 0 (omega arith)))

  pub length-level_from : (m : ℕ) (xs : List ℕ) → length (level_from n r m xs) ≡ m
  length-level_from zero xs = refl
  length-level_from (suc m) xs = ap suc (length-level_from m (drop (bucket_words n r) xs))

  back_level : (bs : List Bucket) (rest : List ℕ) → AllShaped bs → level_from n r (length bs) (level_numbers bs ++ rest) ≡ bs
  back_level [] rest f = refl
  back_level (b ∷ bs) rest f =
      let w : bucket_words n r ≡ bucket_words n r + 0 = omega arith in
      ap (λ (l : List ℕ). level_from n r (suc (length bs)) l) (append_assoc (words_of b) (level_numbers bs) rest)
      ∙ ap₂ {C = List Bucket} ◌∷◌ (from-words n r b (f 0 (omega arith)) (level_numbers bs ++ rest))
      (ap (level_from n r (length bs)) (ap (λ (k : ℕ). drop k (words_of b ++ (level_numbers bs ++ rest))) w ∙ past b (level_numbers bs ++ rest) (f 0 (omega arith)) 0)
      ∙ back_level bs rest (λ j l. f (suc j) (omega arith)))

  forth_level : (m : ℕ) (xs : List ℕ) → m * bucket_words n r ≤ length xs → level_numbers (level_from n r m xs) ++ drop (m * bucket_words n r) xs ≡ xs
  forth_level zero xs h = let e : 0 * bucket_words n r ≡ 0 = omega arith in ap (λ (k : ℕ). drop k xs) e
  forth_level (suc m) xs h =
      let e : suc m * bucket_words n r ≡ bucket_words n r + m * bucket_words n r = omega arith in
      append_assoc (words_of (bucket_from n r xs)) (level_numbers (level_from n r m (drop (bucket_words n r) xs))) (drop (suc m * bucket_words n r) xs)
      ∙ ap (λ (l : List ℕ). words_of (bucket_from n r xs) ++ l)
      (ap (λ (l : List ℕ). level_numbers (level_from n r m (drop (bucket_words n r) xs)) ++ l) (ap (λ (k : ℕ). drop k xs) e ∙ sym (drop-drop (m * bucket_words n r) (bucket_words n r) xs))
      ∙ forth_level m (drop (bucket_words n r) xs) (omega (arith, length-drop (bucket_words n r) xs)))
      ∙ words-from n r xs (omega arith)

  -- bucket i is read at its place
  read_level : (m : ℕ) (xs : List ℕ) (i : ℕ) → i < m → nth n r (level_from n r m xs) i ≡ bucket_from n r (drop (i * bucket_words n r) xs)
  read_level zero xs i h = absurd (not-suc-le-zero h)
  read_level (suc m) xs zero h = let e : 0 * bucket_words n r ≡ 0 = omega arith in ap (λ (k : ℕ). bucket_from n r (drop k xs)) (sym e)
  read_level (suc m) xs (suc i) h =
      let e : bucket_words n r + i * bucket_words n r ≡ suc i * bucket_words n r = omega arith in
      read_level m (drop (bucket_words n r) xs) i (le_of_suc-le-suc h)
      ∙ ap (bucket_from n r) (drop-drop (i * bucket_words n r) (bucket_words n r) xs ∙ ap (λ (k : ℕ). drop k xs) e)

  -- and written there alone
  write_level : (bs : List Bucket) (rest : List ℕ) (i : ℕ) (b : Bucket) → AllShaped bs → i < length bs
      → level_numbers (set bs i b) ++ rest
      ≡ take (i * bucket_words n r) (level_numbers bs ++ rest) ++ (words_of b ++ drop (i * bucket_words n r + bucket_words n r) (level_numbers bs ++ rest))
  write_level [] rest i b f h = absurd (not-suc-le-zero h)
  write_level (c ∷ bs) rest zero b f h =
      let e : 0 * bucket_words n r ≡ 0 = omega arith in
      let g : 0 * bucket_words n r + bucket_words n r ≡ bucket_words n r + 0 = omega arith in
      append_assoc (words_of b) (level_numbers bs) rest
      ∙ sym (ap₂ (λ (k : ℕ) (l : List ℕ). take k (words_of c ++ level_numbers bs ++ rest) ++ (words_of b ++ l)) e
      (ap₂ (λ (k : ℕ) (l : List ℕ). drop k l) g (append_assoc (words_of c) (level_numbers bs) rest) ∙ past c (level_numbers bs ++ rest) (f 0 (omega arith)) 0))
  write_level (c ∷ bs) rest (suc i) b f h =
      let Y : List ℕ = level_numbers bs ++ rest in
      let e : suc i * bucket_words n r ≡ bucket_words n r + i * bucket_words n r = omega arith in
      let g : suc i * bucket_words n r + bucket_words n r ≡ bucket_words n r + (i * bucket_words n r + bucket_words n r) = omega arith in
      append_assoc (words_of c) (level_numbers (set bs i b)) rest
      ∙ ap (λ (l : List ℕ). words_of c ++ l) (write_level bs rest i b (λ j l. f (suc j) (omega arith)) (le_of_suc-le-suc h))
      ∙ sym (append_assoc (words_of c) (take (i * bucket_words n r) Y) (words_of b ++ drop (i * bucket_words n r + bucket_words n r) Y))
      ∙ sym (ap₂ (λ (p q : List ℕ). p ++ (words_of b ++ q))
      (ap₂ (λ (k : ℕ) (l : List ℕ). take k l) e (append_assoc (words_of c) (level_numbers bs) rest) ∙ front c Y (f 0 (omega arith)) (i * bucket_words n r))
      (ap₂ (λ (k : ℕ) (l : List ℕ). drop k l) g (append_assoc (words_of c) (level_numbers bs) rest) ∙ past c Y (f 0 (omega arith)) (i * bucket_words n r + bucket_words n r)))

  -- a bucket is read from its own words
  pub from-part : (xs : List ℕ) → bucket_from n r (take (bucket_words n r) xs) ≡ bucket_from n r xs
  unfolding bucket_from
  from-part xs =
      let e : bucket_words n r ≡ n + 1 + (r + 1) = omega arith in
      let sols = ap (λ (k : ℕ). take r (drop (n + 1) (take k xs))) e ∙ ap (take r) (drop-take (n + 1) (r + 1) xs) ∙ take-take r (r + 1) (drop (n + 1) xs) (omega arith) in
      λ i. record {
        cols = take-take n (bucket_words n r) xs (omega arith) i;
        mark = get_or-take (bucket_words n r) xs n 0 (omega arith) i;
        sols = sols i;
        bound = get_or-take (bucket_words n r) xs (n + 1 + r) 0 (omega arith) i;
      }

  -- ---- the whole table

  module _ (T : Table) (h : ShapedTable T) where
    abbrev l1 : List ℕ
    l1 = level_numbers T.level1

    abbrev l2 : List ℕ
    l2 = level_numbers T.level2

    -- level 2 and the base list, and level 1 before them
    abbrev from2 : List ℕ
    from2 = l2 ++ base_pairs T.base

    abbrev from1 : List ℕ
    from1 = l1 ++ from2

    abbrev m1 : ℕ
    m1 = length T.level1

    abbrev m2 : ℕ
    m2 = length T.level2

    size1 : length l1 ≡ m1 * bucket_words n r
    size1 = length_level T.level1 h.first

    size2 : length l2 ≡ m2 * bucket_words n r
    size2 = length_level T.level2 h.second

    size0 : length (heads T) ≡ header
    size0 = let e = h.totalled in omega arith

    -- the numbers from a place on
    pub drop-heads : (k : ℕ) → drop (header + k) (numbers_of T) ≡ drop k from1
    unfolding numbers_of
    drop-heads k = ap (λ (j : ℕ). drop (j + k) (numbers_of T)) (sym size0) ∙ drop-append-add (heads T) from1 k

    drop-first : (k : ℕ) → drop (bucket_place n r m1 + k) (numbers_of T) ≡ drop k from2
    drop-first k =
        let e : bucket_place n r m1 + k ≡ header + (length l1 + k) = omega (arith, size1) in
        ap (λ (j : ℕ). drop j (numbers_of T)) e ∙ drop-heads (length l1 + k) ∙ drop-append-add l1 from2 k

    pub drop-second : (k : ℕ) → drop (bucket_place n r (m1 + m2) + k) (numbers_of T) ≡ drop k (base_pairs T.base)
    drop-second k =
        let e : bucket_place n r (m1 + m2) + k ≡ bucket_place n r m1 + (length l2 + k) = omega (arith, size2, add-mul m1 m2 (bucket_words n r)) in
        ap (λ (j : ℕ). drop j (numbers_of T)) e ∙ drop-first (length l2 + k) ∙ drop-append-add l2 (base_pairs T.base) k

    -- the base pairs are the last
    pub drop-base : drop (bucket_place n r (m1 + m2)) (numbers_of T) ≡ base_pairs T.base
    drop-base = let e : bucket_place n r (m1 + m2) ≡ bucket_place n r (m1 + m2) + 0 = omega arith in ap (λ (k : ℕ). drop k (numbers_of T)) e ∙ drop-second 0

    -- and before it
    take-heads : (k : ℕ) → take (header + k) (numbers_of T) ≡ heads T ++ take k from1
    unfolding numbers_of
    take-heads k = ap (λ (j : ℕ). take (j + k) (numbers_of T)) (sym size0) ∙ take-append-add (heads T) from1 k

    take-first : (k : ℕ) → take (bucket_place n r m1 + k) (numbers_of T) ≡ heads T ++ (l1 ++ take k from2)
    take-first k =
        let e : bucket_place n r m1 + k ≡ header + (length l1 + k) = omega (arith, size1) in
        ap (λ (j : ℕ). take j (numbers_of T)) e ∙ take-heads (length l1 + k) ∙ ap (λ (l : List ℕ). heads T ++ l) (take-append-add l1 from2 k)

    -- the numbers give the table back
    pub back : table_from n r (numbers_of T) ≡ T
    unfolding numbers_of table_from
    back = λ i. record { level1 = one i; level2 = two i; base = three i; count = T.count; totals = take_at T.totals from1 total_numbers h.totalled i }
      where
        one : level_from n r m1 (drop (bucket_place n r 0) (numbers_of T)) ≡ T.level1
        one = ap (level_from n r m1) (let e : 0 * bucket_words n r ≡ 0 = omega arith in ap (λ (k : ℕ). drop (header + k) (numbers_of T)) e ∙ drop-heads 0) ∙ back_level T.level1 from2 h.first

        two : level_from n r m2 (drop (bucket_place n r m1) (numbers_of T)) ≡ T.level2
        two = ap (level_from n r m2) (let e : bucket_place n r m1 ≡ bucket_place n r m1 + 0 = omega arith in ap (λ (k : ℕ). drop k (numbers_of T)) e ∙ drop-first 0) ∙ back_level T.level2 (base_pairs T.base) h.second

        three : pairs_from (length T.base) (drop (bucket_place n r (m1 + m2)) (numbers_of T)) ≡ T.base
        three = ap (pairs_from (length T.base)) drop-base ∙ back_pairs T.base (replicate (base_numbers - 2 * length T.base) 0)

    -- the numbers have the layout
    pub laid : Laid (numbers_of T)
    unfolding numbers_of
    laid = record {
      size = omega (
        arith,
        length-append (heads T) from1,
        size0,
        length-append l1 from2,
        length-append l2 (base_pairs T.base),
        length-base T.base h.fits,
        size1,
        size2,
        add-mul m1 m2 (bucket_words n r),
      );
      fits = h.fits;
      unused = λ i. ap (λ (l : List ℕ). get_or l i 0) (drop-second (2 * length T.base) ∙ drop_at (pair_numbers T.base) (replicate (base_numbers - 2 * length T.base) 0) (2 * length T.base) (length_pairs T.base))
          ∙ zero_at (base_numbers - 2 * length T.base) i;
    }

    -- one bucket is replaced
    pub write_first : (i : ℕ) (b : Bucket) → i < m1
        → numbers_of (with_first T (set T.level1 i b))
        ≡ take (bucket_place n r i) (numbers_of T) ++ (words_of b ++ drop (bucket_place n r i + bucket_words n r) (numbers_of T))
    unfolding numbers_of
    write_first i b l =
        let w : ℕ = bucket_words n r in
        let e : bucket_place n r i + w ≡ header + (i * w + w) = omega arith in
        ap₂ (λ (k : ℕ) (q : List ℕ). k ∷ m2 ∷ length T.base ∷ T.count ∷ (T.totals ++ q)) (length-set T.level1 i b) (write_level T.level1 from2 i b h.first l)
        ∙ sym (append_assoc (heads T) (take (i * w) from1) (words_of b ++ drop (i * w + w) from1))
        ∙ sym (ap₂ (λ (p q : List ℕ). p ++ (words_of b ++ q)) (take-heads (i * w)) (ap (λ (j : ℕ). drop j (numbers_of T)) e ∙ drop-heads (i * w + w)))

    pub write_second : (i : ℕ) (b : Bucket) → i < m2
        → numbers_of (with_second T (set T.level2 i b))
        ≡ take (bucket_place n r (m1 + i)) (numbers_of T) ++ (words_of b ++ drop (bucket_place n r (m1 + i) + bucket_words n r) (numbers_of T))
    unfolding numbers_of
    write_second i b l =
        let w : ℕ = bucket_words n r in
        let e : bucket_place n r (m1 + i) ≡ bucket_place n r m1 + i * w = omega (arith, add-mul m1 i w) in
        let g : bucket_place n r (m1 + i) + w ≡ bucket_place n r m1 + (i * w + w) = omega (arith, add-mul m1 i w) in
        ap₂ (λ (k : ℕ) (q : List ℕ). m1 ∷ k ∷ length T.base ∷ T.count ∷ (T.totals ++ (l1 ++ q))) (length-set T.level2 i b) (write_level T.level2 (base_pairs T.base) i b h.second l)
        ∙ ap (λ (l : List ℕ). heads T ++ l) (sym (append_assoc l1 (take (i * w) from2) (words_of b ++ drop (i * w + w) from2)))
        ∙ sym (append_assoc (heads T) (l1 ++ take (i * w) from2) (words_of b ++ drop (i * w + w) from2))
        ∙ sym (ap₂ (λ (p q : List ℕ). p ++ (words_of b ++ q)) (ap (λ (j : ℕ). take j (numbers_of T)) e ∙ take-first (i * w)) (ap (λ (j : ℕ). drop j (numbers_of T)) g ∙ drop-first (i * w + w)))

    -- the base list is replaced
    pub write_base : (es : List Entry)
        → numbers_of (with_base T es)
        ≡ set (take (bucket_place n r (m1 + m2)) (numbers_of T) ++ base_pairs es) base_count_at (length es)
    unfolding numbers_of
    write_base es =
        let e : bucket_place n r (m1 + m2) ≡ bucket_place n r m1 + m2 * bucket_words n r = omega (arith, add-mul m1 m2 (bucket_words n r)) in
        sym (ap (λ (p : List ℕ). set (p ++ base_pairs es) base_count_at (length es))
        (ap (λ (j : ℕ). take j (numbers_of T)) e ∙ take-first (m2 * bucket_words n r) ∙ ap (λ (l : List ℕ). heads T ++ (l1 ++ l)) (take_at l2 (base_pairs T.base) (m2 * bucket_words n r) size2))
        ∙ append_assoc (heads (with_base T es)) (l1 ++ l2) (base_pairs es) ∙ ap (λ (l : List ℕ). heads (with_base T es) ++ l) (append_assoc l1 l2 (base_pairs es)))

  -- the live count is replaced
  pub write_count : (T : Table) (c : ℕ) → numbers_of (with_count T c) ≡ set (numbers_of T) live_count_at c
  unfolding numbers_of
  write_count T c = refl

  -- the header's numbers are among them
  pub long_numbers : (T : Table) → totals_at + length T.totals ≤ length (numbers_of T)
  unfolding numbers_of
  long_numbers T = omega (arith, length-append (heads T) (level_numbers T.level1 ++ (level_numbers T.level2 ++ base_pairs T.base)))

  -- the total of a plan is read and replaced
  module _ (T : Table) (p : ℕ) (l : p < length T.totals) where
    pub read_total : get_or (numbers_of T) (totals_at + p) 0 ≡ get_or T.totals p 0
    unfolding numbers_of
    read_total =
        let e : totals_at + p ≡ suc (suc (suc (suc p))) = omega arith in
        ap (λ (j : ℕ). get_or (numbers_of T) j 0) e ∙ get_or-append T.totals (level_numbers T.level1 ++ (level_numbers T.level2 ++ base_pairs T.base)) 0 p l

    pub write_total : (x : ℕ) → numbers_of (with_totals T (set T.totals p x)) ≡ set (numbers_of T) (totals_at + p) x
    unfolding numbers_of
    write_total x =
        let e : totals_at + p ≡ suc (suc (suc (suc p))) = omega arith in
        sym (ap (λ (j : ℕ). set (numbers_of T) j x) e
        ∙ ap {B = List ℕ} (λ q. length T.level1 ∷ length T.level2 ∷ length T.base ∷ T.count ∷ q)
        (set-append_left T.totals (level_numbers T.level1 ++ (level_numbers T.level2 ++ base_pairs T.base)) p x l))

    -- one word more has the plan p, or one less
    pub write_more : numbers_of (with_totals T (one_more p T.totals)) ≡ one_more (totals_at + p) (numbers_of T)
    write_more = write_total (suc (get_or T.totals p 0)) ∙ ap (λ (x : ℕ). set (numbers_of T) (totals_at + p) (suc x)) (sym read_total)

    pub write_less : numbers_of (with_totals T (one_less p T.totals)) ≡ one_less (totals_at + p) (numbers_of T)
    write_less = write_total (get_or T.totals p 0 - 1) ∙ ap (λ (x : ℕ). set (numbers_of T) (totals_at + p) (x - 1)) (sym read_total)

  -- ---- numbers that have the layout

  -- bucket i of each level, in any numbers
  pub read_first : (xs : List ℕ) (i : ℕ) → i < get_or xs buckets1_at 0 → nth n r (table_from n r xs).level1 i ≡ bucket_from n r (drop (bucket_place n r i) xs)
  unfolding table_from
  read_first xs i l =
      let e : bucket_place n r 0 + i * bucket_words n r ≡ bucket_place n r i = omega arith in
      read_level (get_or xs buckets1_at 0) (drop (bucket_place n r 0) xs) i l
      ∙ ap (bucket_from n r) (drop-drop (i * bucket_words n r) (bucket_place n r 0) xs ∙ ap (λ (k : ℕ). drop k xs) e)

  pub read_second : (xs : List ℕ) (i : ℕ) → i < get_or xs buckets2_at 0 → nth n r (table_from n r xs).level2 i ≡ bucket_from n r (drop (bucket_place n r (get_or xs buckets1_at 0 + i)) xs)
  unfolding table_from
  read_second xs i l =
      let e : bucket_place n r (get_or xs buckets1_at 0) + i * bucket_words n r ≡ bucket_place n r (get_or xs buckets1_at 0 + i) = omega (arith, add-mul (get_or xs buckets1_at 0) i (bucket_words n r)) in
      read_level (get_or xs buckets2_at 0) (drop (bucket_place n r (get_or xs buckets1_at 0)) xs) i l
      ∙ ap (bucket_from n r) (drop-drop (i * bucket_words n r) (bucket_place n r (get_or xs buckets1_at 0)) xs ∙ ap (λ (k : ℕ). drop k xs) e)

  -- the header, and base pair i
  pub header_read : (xs : List ℕ) → (length (table_from n r xs).level1 ≡ get_or xs buckets1_at 0) × (length (table_from n r xs).level2 ≡ get_or xs buckets2_at 0)
      × (length (table_from n r xs).base ≡ get_or xs base_count_at 0) × ((table_from n r xs).count ≡ get_or xs live_count_at 0)
  unfolding table_from
  header_read xs = (length-level_from (get_or xs buckets1_at 0) _, length-level_from (get_or xs buckets2_at 0) _, length-pairs_from (get_or xs base_count_at 0) _, refl)

  -- the total of the plan p
  pub total_read : (xs : List ℕ) (p : ℕ) → p < total_numbers → get_or (table_from n r xs).totals p 0 ≡ get_or xs (totals_at + p) 0
  unfolding table_from
  total_read xs p l = get_or-take total_numbers (drop totals_at xs) p 0 l ∙ get_or-drop totals_at xs p 0

  pub read_base : (xs : List ℕ) (i : ℕ) (d : Entry) → i < get_or xs base_count_at 0
      → get_or (table_from n r xs).base i d
      ≡ record {
        word = get_or (drop (bucket_place n r (get_or xs buckets1_at 0 + get_or xs buckets2_at 0)) xs) (2 * i) 0;
        plan = get_or (drop (bucket_place n r (get_or xs buckets1_at 0 + get_or xs buckets2_at 0)) xs) (2 * i + 1) 0;
      }
  unfolding table_from
  read_base xs i d l = read_pair (get_or xs base_count_at 0) (drop (bucket_place n r (get_or xs buckets1_at 0 + get_or xs buckets2_at 0)) xs) i d l

  -- the leading numbers and the rest
  pub four : (xs : List ℕ) → leading ≤ length xs → get_or xs buckets1_at 0 ∷ get_or xs buckets2_at 0 ∷ get_or xs base_count_at 0 ∷ get_or xs live_count_at 0 ∷ drop leading xs ≡ xs
  four [] h = absurd (omega arith)
  four (a ∷ []) h = absurd (omega arith)
  four (a ∷ b ∷ []) h = absurd (omega arith)
  four (a ∷ b ∷ c ∷ []) h = absurd (omega arith)
  four (a ∷ b ∷ c ∷ d ∷ xs) h = refl

  -- both levels are among as many numbers
  pub room : (xs : List ℕ) (a b : ℕ) → length xs ≡ length_of n r a b
      → (a * bucket_words n r ≤ length (drop (bucket_place n r 0) xs)) × (b * bucket_words n r ≤ length (drop (bucket_place n r a) xs))
  room xs a b e =
      let s = add-mul a b (bucket_words n r) in
      (omega (arith, length-drop (bucket_place n r 0) xs), omega (arith, length-drop (bucket_place n r a) xs))

  module _ (xs : List ℕ) (h : Laid xs) where
    abbrev a : ℕ
    a = get_or xs buckets1_at 0

    abbrev b : ℕ
    b = get_or xs buckets2_at 0

    abbrev c : ℕ
    c = get_or xs base_count_at 0

    abbrev w : ℕ
    w = bucket_words n r

    abbrev tail_of : List ℕ
    tail_of = drop (bucket_place n r (a + b)) xs

    length_unused : length (unused_in n r xs) ≡ base_numbers - 2 * c
    length_unused = omega (arith, length-drop (bucket_place n r (a + b) + 2 * c) xs, h.size)

    rest_zero : replicate (base_numbers - 2 * length (pairs_from c tail_of)) 0 ≡ drop (2 * c) tail_of
    rest_zero =
        ap (λ (k : ℕ). replicate (base_numbers - 2 * k) 0) (length-pairs_from c tail_of) ∙ ap (λ (k : ℕ). replicate k 0) (sym length_unused)
        ∙ zeros (unused_in n r xs) h.unused ∙ sym (drop-drop (2 * c) (bucket_place n r (a + b)) xs)

    tail_pairs : base_pairs (pairs_from c tail_of) ≡ tail_of
    tail_pairs =
        let f : c ≤ base_limit = h.fits in
        ap (λ (l : List ℕ). pair_numbers (pairs_from c tail_of) ++ l) rest_zero ∙ forth_pairs c tail_of (omega (arith, length-drop (bucket_place n r (a + b)) xs, h.size))

    inner : level_numbers (level_from n r a (drop (bucket_place n r 0) xs)) ++ (level_numbers (level_from n r b (drop (bucket_place n r a) xs)) ++ base_pairs (pairs_from c tail_of)) ≡ drop (bucket_place n r 0) xs
    inner =
        let e : bucket_place n r a + b * w ≡ bucket_place n r (a + b) = omega (arith, add-mul a b w) in
        let g : bucket_place n r 0 + a * w ≡ bucket_place n r a = omega arith in
        ap (λ (l : List ℕ). level_numbers (level_from n r a (drop (bucket_place n r 0) xs)) ++ l)
        (ap (λ (l : List ℕ). level_numbers (level_from n r b (drop (bucket_place n r a) xs)) ++ l) (tail_pairs ∙ ap (λ (k : ℕ). drop k xs) (sym e) ∙ sym (drop-drop (b * w) (bucket_place n r a) xs))
        ∙ forth_level b (drop (bucket_place n r a) xs) (room xs a b h.size).1
        ∙ ap (λ (k : ℕ). drop k xs) (sym g) ∙ sym (drop-drop (a * w) (bucket_place n r 0) xs))
        ∙ forth_level a (drop (bucket_place n r 0) xs) (room xs a b h.size).0

    -- the table gives the numbers back
    pub forth : numbers_of (table_from n r xs) ≡ xs
    unfolding numbers_of table_from
    forth =
        let e : bucket_place n r 0 ≡ header = omega arith in
        ap₂ {C = List ℕ} (λ m l. m ∷ l) (length-level_from a (drop (bucket_place n r 0) xs))
        (ap₂ {C = List ℕ} (λ m l. m ∷ l) (length-level_from b (drop (bucket_place n r a) xs))
        (ap₂ {C = List ℕ} (λ m l. m ∷ get_or xs live_count_at 0 ∷ (take total_numbers (drop totals_at xs) ++ l)) (length-pairs_from c tail_of)
        (inner ∙ ap (λ (k : ℕ). drop k xs) e ∙ sym (drop-drop total_numbers totals_at xs))))
        ∙ ap {B = List ℕ} (λ l. a ∷ b ∷ c ∷ get_or xs live_count_at 0 ∷ l) (take-append-drop total_numbers (drop totals_at xs))
        ∙ four xs (omega (arith, h.size))
