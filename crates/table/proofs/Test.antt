-- The test says true exactly of sound tables, in numbers that have the length of the layout and are below 2 ^ n.
-- Assumes nothing.
use Prim.Native.Nat.{ℕ, zero, suc, ◌+◌, ◌*◌, ◌^◌, ◌≤◌, ◌<◌, zero-le}
use native.Mathlib.Nat.{not-suc-le-zero, le_of_suc-le-suc, add-zero, zero-add}
use native.Mathlib.Omega.{arith}
use mathlib.Core.Path.{◌≡◌, refl, sym, ap, ◌∙◌, subst, subst⁻¹}
use mathlib.Core.Bool.{Bool, true, not, ◌&&◌, true≢false}
use mathlib.Core.Logic.{inl, inr, ⊎_elim, ◌↔◌}
use mathlib.Core.List.Memᴰ
use mathlib.Core.List.Permᴰ
use mathlib.Core.List.{List, [], ◌∷◌, ◌++◌, map, Permᴰ, Memᴰ}
use lib.Arith.{lt_of_le-ne}
use lib.Dec.{T, eqb, ltb, leb, eqb→eq}
use lib.ListN.{length, get_or, take, drop, length-drop}
use lib.Pow.{pow_pos}
use lib.Seq.{get_or-drop, length-take-le, ext_get_or}
use borrow.Author.Tests.{eqb-true, eq-eqb, ltb-true, lt-ltb, leb-true, le-leb, not-true}
use Rattle.lists.specs.Entries.{Entry, Above, Ascending, plan_limit, desk_plan, assignable}
use Rattle.lists.proofs.Tests.{true→T, T→true, and_one, and_two, and_both, or_l, or_r, or_cases}
use Rattle.lists.specs.Lists.{count_from}
use Rattle.lists.specs.Totals.{plan_count, totals_of}
use Rattle.lists.proofs.Keep.{count_in, count_lt}
use Rattle.lists.proofs.Entries.{assignable_byte, above_up}
use Rattle.lists.proofs.Totals.{count_perm, count_append, count_map, count_none, none_counted, totals_length, totals-at, totals_ext}
use Rattle.gf2.specs.Vectors.{outside}
use Rattle.gf2.specs.Select.{elem, chosen}
use Rattle.gf2.proofs.Chosen.{Row, elem→row}
use Rattle.gf2.proofs.Clear.{words-clear, clear-words}
use Rattle.std.specs.Prelude.{Option, Some, None}
use Rattle.std.specs.Option.{is_some, unwrap_or}
use Rattle.bucket_rows.specs.Exact.{FoundFree}
use Rattle.bucket_rows.specs.Elimination.{sound_rows}
use Rattle.bucket_rows.proofs.Exact.{decides_free, found_is}
use Rattle.bucket.specs.declared.Bucket.{Bucket}
use Rattle.bucket.specs.Bucket.{Sound, largest_bound, lookup, live}
use Rattle.bucket_words.specs.Words.{bucket_words, bucket_from, Shaped}
use Rattle.bucket.proofs.Steps.{live_test}
use Rattle.bucket_words.proofs.Words.{from-shaped}
use Rattle.bucket_settle.specs.Settle.{SoundBucket, listed, contents}
use Rattle.bucket_settle.proofs.Settling.{rows_of}
use Rattle.bucket_settle.proofs.Sound.{sound-listed}
use Rattle.model.specs.Model.{base_limit}
use Rattle.table.specs.Table.{Table, total_numbers, thr, index, nth, holds}
use Rattle.table.specs.Layout.{buckets1_at, buckets2_at, base_count_at, totals_at, pairs_from, level_from, bucket_place, table_from, length_of, unused_in}
use Rattle.table.specs.Content.{all_rows, back_of, entries_of}
use Rattle.table.specs.Sound as D
use Rattle.table.specs.Sound.{SoundLevel, SoundTable, FlatSound}
use Rattle.table.specs.Test.{all_of, before, ascends, rows_in, clear_test, bucket_test, level_test, rows_found, totals_test, row1, row2, row0, table_test, sound_test}
use Rattle.table.proofs.Level.{Given}
use Rattle.table.proofs.Numbers.{length-level_from, room}
use Rattle.table.proofs.Sound.{base_given, level_small}

-- ---- tests one after the other

pub all_out : {A : Type 0} (p : A → Bool) (xs : List A) → all_of p xs ≡ true → (x : A) → Memᴰ x xs → p x ≡ true
all_out p [] t x m = absurd (Memᴰ.not-nil m)
all_out p (y ∷ ys) t x m = ⊎_elim (λ (e : x ≡ y). ap p e ∙ and_one (p y) _ t) (all_out p ys (and_two (p y) _ t) x) (Memᴰ.cases_cons m)

all_in : {A : Type 0} (p : A → Bool) (xs : List A) → ((x : A) → Memᴰ x xs → p x ≡ true) → all_of p xs ≡ true
all_in p [] h = refl
all_in p (y ∷ ys) h = and_both (h y (Memᴰ.head refl)) (all_in p ys (λ x m. h x (Memᴰ.tail m)))

-- the same of numbers, by whether the list has them
elem_out : (p : ℕ → Bool) (xs : List ℕ) → all_of p xs ≡ true → (x : ℕ) → elem x xs ≡ true → p x ≡ true
elem_out p [] t x e = absurd (true≢false (sym e))
elem_out p (y ∷ ys) t x e =
    ⊎_elim (λ a. ap p (eqb→eq x y a) ∙ and_one (p y) _ t) (λ b. elem_out p ys (and_two (p y) _ t) x (T→true _ b)) (or_cases (eqb x y) (elem x ys) (true→T e))

elem_in : (p : ℕ → Bool) (xs : List ℕ) → ((x : ℕ) → T (elem x xs) → p x ≡ true) → all_of p xs ≡ true
elem_in p [] h = refl
elem_in p (y ∷ ys) h = and_both (h y (or_l (eqb y y) (elem y ys) (true→T (eq-eqb y y refl)))) (elem_in p ys (λ x m. h x (or_r (eqb x y) (elem x ys) m)))

-- and of the numbers at all places: f of each is 0
pub zeros_out : (f : ℕ → ℕ) → f 0 ≡ 0 → (xs : List ℕ) → all_of (λ x. eqb (f x) 0) xs ≡ true → (i : ℕ) → f (get_or xs i 0) ≡ 0
zeros_out f e [] t i = e
zeros_out f e (x ∷ xs) t zero = eqb-true (f x) 0 (and_one (eqb (f x) 0) _ t)
zeros_out f e (x ∷ xs) t (suc i) = zeros_out f e xs (and_two (eqb (f x) 0) _ t) i

pub zeros_in : (f : ℕ → ℕ) (xs : List ℕ) → ((i : ℕ) → f (get_or xs i 0) ≡ 0) → all_of (λ x. eqb (f x) 0) xs ≡ true
zeros_in f [] h = refl
zeros_in f (x ∷ xs) h = and_both (eq-eqb (f x) 0 (h 0)) (zeros_in f xs (λ i. h (suc i)))

ascends_out : (es : List Entry) → ascends es ≡ true → Ascending es
ascends_out [] t = tt
ascends_out (e ∷ es) t = (go es (and_one (before e.word es) _ t) (ascends_out es (and_two (before e.word es) _ t)), ascends_out es (and_two (before e.word es) _ t))
  where
    go : (xs : List Entry) → before e.word xs ≡ true → Ascending xs → Above e.word xs
    go [] b a = tt
    go (x ∷ xs) b a = let l = ltb-true e.word x.word b in (l, above_up l xs a.0)

ascends_in : (es : List Entry) → Ascending es → ascends es ≡ true
ascends_in [] a = refl
ascends_in (e ∷ es) a = and_both (go es a.0) (ascends_in es a.1)
  where
    go : (xs : List Entry) → Above e.word xs → before e.word xs ≡ true
    go [] b = refl
    go (x ∷ xs) b = lt-ltb e.word x.word b.0

-- ---- one bucket

-- its numbers are as many as they should be, and have n bits
pub record Ranged (n r : ℕ) (b : Bucket) : Type 0 where
  pub shaped : Shaped n r b
  pub cols_lt : (j : ℕ) → get_or b.cols j 0 < 2 ^ n
  pub mark_lt : b.mark < 2 ^ n

-- the entry of a vector, with the plan that the bucket gives it
abbrev entry : Bucket → ℕ → Entry
entry b v = record { word = v; plan = lookup b v }

all_listed : (row : Entry → Bool) (b : Bucket) (ks : List ℕ) → all_of row (listed b ks) ≡ all_of (λ k. row (entry b k)) ks
all_listed row b [] = refl
all_listed row b (k ∷ ks) = ap (λ (x : Bool). row (entry b k) && x) (all_listed row b ks)

-- each of its live vectors passes, with its plan
abbrev Each : ℕ → (Entry → Bool) → Bucket → Type 0
Each n row b = (v : ℕ) → v < 2 ^ n → live n v b ≡ true → row (entry b v) ≡ true

bucket_out : (n r : ℕ) (row : Entry → Bool) (b : Bucket) → Ranged n r b → bucket_test n row b ≡ true → SoundBucket n r b × Each n row b
unfolding bucket_test
bucket_out n r row b h t = go (sound_rows n b.mark b.cols) (decides_free n b.mark b.cols h.shaped.cols h.cols_lt) (and_two (clear_test b) _ v)
  where
    v : (clear_test b && (is_some (sound_rows n b.mark b.cols) && all_of row (rows_in n b))) ≡ true
    v = and_two (leb b.bound largest_bound) _ t

    go : (f : Option (List ℕ)) → FoundFree n b.mark b.cols f → (is_some f && all_of row (listed b (chosen b.mark (unwrap_or f b.cols)))) ≡ true → SoundBucket n r b × Each n row b
    go None k u = absurd (true≢false (sym u))
    go (Some K) k u =
        let sound : Sound n K b = record {
          inverse = k.inverse;
          free = k.free;
          mark_lt = h.mark_lt;
          clear = words-clear b.mark b.sols (zeros_out (λ s. outside s b.mark) refl b.sols (and_one (clear_test b) _ v));
        } in (
          record { matrix = K; sound = sound; wide = h.shaped.sols; low = leb-true b.bound largest_bound (and_one (leb b.bound largest_bound) _ t) },
          λ v l e. elem_out (λ k. row (entry b k)) (chosen b.mark K) (sym (all_listed row b (chosen b.mark K)) ∙ u) v (sym (live_test n K b sound v l) ∙ e),
        )

bucket_in : (n r : ℕ) (row : Entry → Bool) (b : Bucket) → SoundBucket n r b → Each n row b → bucket_test n row b ≡ true
unfolding bucket_test Row
bucket_in n r row b h each =
    and_both (le-leb b.bound largest_bound h.low)
    (and_both (zeros_in (λ s. outside s b.mark) b.sols (clear-words b.mark b.sols h.sound.clear))
    (subst⁻¹ (λ (f : Option (List ℕ)). (is_some f && all_of row (listed b (chosen b.mark (unwrap_or f b.cols)))) ≡ true)
    (found_is n b.mark b.cols h.matrix (record { inverse = h.sound.inverse; free = h.sound.free }))
    (all_listed row b (chosen b.mark h.matrix) ∙ elem_in (λ k. row (entry b k)) (chosen b.mark h.matrix) (λ v m.
    let q = elem→row v b.mark h.matrix m in
    let l : v < 2 ^ n = subst (λ (x : ℕ). x < 2 ^ n) q.3 (h.sound.inverse.rows_lt q.0) in
    each v l (live_test n h.matrix b h.sound v l ∙ T→true _ m)))))

-- ---- a level

level_out : (n r : ℕ) (row : ℕ → Bucket → Entry → Bool) (i : ℕ) (bs : List Bucket) → ((j : ℕ) → j < length bs → Ranged n r (nth n r bs j)) → level_test n row i bs ≡ true
    → (j : ℕ) → j < length bs → SoundBucket n r (nth n r bs j) × Each n (row (i + j) (nth n r bs j)) (nth n r bs j)
level_out n r row i [] h t j l = absurd (not-suc-le-zero l)
level_out n r row i (b ∷ bs) h t zero l =
    subst⁻¹ (λ (k : ℕ). SoundBucket n r b × Each n (row k b) b) (add-zero i) (bucket_out n r (row i b) b (h 0 (omega arith)) (and_one (bucket_test n (row i b) b) _ t))
level_out n r row i (b ∷ bs) h t (suc j) l =
    let e : i + suc j ≡ suc i + j = omega arith in
    subst⁻¹ (λ (k : ℕ). SoundBucket n r (nth n r bs j) × Each n (row k (nth n r bs j)) (nth n r bs j)) e
    (level_out n r row (suc i) bs (λ k m. h (suc k) (omega arith)) (and_two (bucket_test n (row i b) b) _ t) j (le_of_suc-le-suc l))

level_in : (n r : ℕ) (row : ℕ → Bucket → Entry → Bool) (i : ℕ) (bs : List Bucket)
    → ((j : ℕ) → j < length bs → SoundBucket n r (nth n r bs j) × Each n (row (i + j) (nth n r bs j)) (nth n r bs j)) → level_test n row i bs ≡ true
level_in n r row i [] h = refl
level_in n r row i (b ∷ bs) h =
    let q = subst (λ (k : ℕ). SoundBucket n r b × Each n (row k b) b) (add-zero i) (h 0 (omega arith)) in
    and_both (bucket_in n r (row i b) b q.0 q.1)
    (level_in n r row (suc i) bs (λ j l.
    let e : i + suc j ≡ suc i + j = omega arith in
    subst (λ (k : ℕ). SoundBucket n r (nth n r bs j) × Each n (row k (nth n r bs j)) (nth n r bs j)) e (h (suc j) (omega arith))))

-- ---- the totals

-- the rows found are those of K
rows_perm : (n r : ℕ) (b : Bucket) → SoundBucket n r b → Permᴰ (contents n b) (rows_in n b)
rows_perm n r b h =
    subst⁻¹ (λ (f : Option (List ℕ)). Permᴰ (contents n b) (listed b (chosen b.mark (unwrap_or f b.cols))))
    (found_is n b.mark b.cols h.matrix (record { inverse = h.sound.inverse; free = h.sound.free })) (rows_of (sound-listed h))

found_perm : (n r : ℕ) (bs : List Bucket) → ((j : ℕ) → j < length bs → SoundBucket n r (nth n r bs j)) → Permᴰ (all_rows n bs) (rows_found n bs)
unfolding rows_found
found_perm n r [] h = Permᴰ.nil
found_perm n r (b ∷ bs) h =
    Permᴰ.trans (Permᴰ.append_right (all_rows n bs) (rows_perm n r b (h 0 (omega arith))))
    (Permᴰ.append_left (rows_in n b) (found_perm n r bs (λ j l. h (suc j) (omega arith))))

-- the entries found have the plans of the live words
found_count : (n r : ℕ) (S U : ℕ → ℕ) (T : Table) → SoundLevel n r S T.level1 → SoundLevel n r S T.level2 → (p : ℕ)
    → plan_count p (entries_of n U T) ≡ plan_count p (rows_found n T.level1 ++ (rows_found n T.level2 ++ T.base))
found_count n r S U T one two p =
    let L1 = all_rows n T.level1 in
    let L2 = all_rows n T.level2 in
    count_append p L1 (map (back_of U) (L2 ++ T.base)) ∙ ap (λ (k : ℕ). plan_count p L1 + k) (count_map (back_of U) (λ e. refl) p (L2 ++ T.base))
    ∙ sym (count_append p L1 (L2 ++ T.base))
    ∙ count_perm p (Permᴰ.trans (Permᴰ.append_right (L2 ++ T.base) (found_perm n r T.level1 one.buckets))
    (Permᴰ.append_left (rows_found n T.level1) (Permᴰ.append_right T.base (found_perm n r T.level2 two.buckets))))

-- the test of the totals says true exactly of those of the entries
pub totals_exactly : (m : ℕ) (ts : List ℕ) (es : List Entry) → length ts ≡ m → (totals_test m ts es ≡ true) ↔ (ts ≡ totals_of m es)
unfolding totals_test
totals_exactly m ts es h = (
  λ t. ext_get_or 0 ts (totals_of m es) (h ∙ sym (totals_length m es)) (λ p l.
      let k : p < m = subst (λ (j : ℕ). p < j) h l in
      eqb-true _ _ (all_out (λ q. eqb (get_or ts q 0) (plan_count q es)) (count_from 0 m) t p (count_in 0 m p zero-le (omega arith))) ∙ sym (totals-at m es p k)),
  λ e. all_in (λ q. eqb (get_or ts q 0) (plan_count q es)) (count_from 0 m) (λ p i.
      let k : p < m = omega (arith, count_lt 0 m p i) in
      eq-eqb _ _ (ap (λ (l : List ℕ). get_or l p 0) e ∙ totals-at m es p k)),
)

-- the plans of entries may be given exactly if they are bytes and the desk's is counted 0 times
given_out : (es : List Entry) → ((e : Entry) → Memᴰ e es → e.plan < plan_limit) → plan_count desk_plan es ≡ 0 → Given es
given_out es low c e m =
    let l = low e m in
    let d : e.plan ≡ desk_plan → ⊥ = none_counted desk_plan es c e m in
    lt-ltb e.plan desk_plan (lt_of_le-ne (le_of_suc-le-suc l) d)

given_in : (es : List Entry) → Given es → plan_count desk_plan es ≡ 0
given_in es h = count_none desk_plan es (λ e m q. let l = ltb-true e.plan desk_plan (h e m) in omega arith)

-- ---- the whole table

module _ (n r : ℕ) (S U : ℕ → ℕ) (T : Table) where
  abbrev b1 : ℕ → Bucket
  b1 = nth n r T.level1

  abbrev b2 : ℕ → Bucket
  b2 = nth n r T.level2

  module _ (some1 : 0 < length T.level1) (some2 : 0 < length T.level2) (first : (i : ℕ) → i < length T.level1 → Ranged n r (b1 i))
      (second : (i : ℕ) → i < length T.level2 → Ranged n r (b2 i)) (words : (e : Entry) → Memᴰ e T.base → e.word < 2 ^ n) (totalled : length T.totals ≡ total_numbers) (bytes : 2 ^ r ≡ plan_limit) where
    table_out : table_test n r S U T ≡ true → SoundTable n r S U T
    table_out t0 =
        let t1 = and_two (leb (length T.base) base_limit) _ t0 in
        let td = and_two (eqb T.count _) _ t1 in
        let t2 = and_two (eqb (get_or T.totals desk_plan 0) 0) _ td in
        let t3 = and_two (level_test n (row1 n r S U T) 0 T.level1) _ t2 in
        let t4 = and_two (level_test n (row2 n r S U T) 0 T.level2) _ t3 in
        let l1 = level_out n r (row1 n r S U T) 0 T.level1 first (and_one (level_test n (row1 n r S U T) 0 T.level1) _ t2) in
        let l2 = level_out n r (row2 n r S U T) 0 T.level2 second (and_one (level_test n (row2 n r S U T) 0 T.level2) _ t3) in
        let t5 = and_two (all_of (row0 n r S U T) T.base) _ t4 in
        let q1 : (i v : ℕ) → D.Row n r T.level1 i v → row1 n r S U T (0 + i) (b1 i) (entry (b1 i) v) ≡ true = (λ i v q. (l1 i q.bucket_lt).1 v q.vector_lt q.is_live) in
        let q2 : (i v : ℕ) → D.Row n r T.level2 i v → row2 n r S U T (0 + i) (b2 i) (entry (b2 i) v) ≡ true = (λ i v q. (l2 i q.bucket_lt).1 v q.vector_lt q.is_live) in
        let q0 = all_out (row0 n r S U T) T.base (and_one (all_of (row0 n r S U T) T.base) _ t4) in
        let level1 : SoundLevel n r S T.level1 = record {
          some = some1;
          buckets = λ i l. (l1 i l).0;
          here = λ i v q. eqb-true _ _ (and_one (eqb (index S (length T.level1) v) (0 + i)) _ (q1 i v q)) ∙ zero-add i;
          low = λ i v q. ltb-true _ _ (and_two (eqb (index S (length T.level1) v) (0 + i)) _ (q1 i v q));
        } in
        let level2 : SoundLevel n r S T.level2 = record {
          some = some2;
          buckets = λ i l. (l2 i l).0;
          here = λ i v q. eqb-true _ _ (and_one (eqb (index S (length T.level2) v) (0 + i)) _ (q2 i v q)) ∙ zero-add i;
          low = λ i v q. ltb-true _ _ (and_one (ltb (thr S v) (b2 i).bound) _ (and_two (eqb (index S (length T.level2) v) (0 + i)) _ (q2 i v q)));
        } in
        let totals : T.totals ≡ totals_of total_numbers (entries_of n U T) =
        (totals_exactly total_numbers T.totals _ totalled).0 (and_two (ascends T.base) _ t5) ∙ sym (totals_ext total_numbers _ _ (found_count n r S U T level1 level2)) in
        let byte : (bs : List Bucket) → SoundLevel n r S bs → (e : Entry) → Memᴰ e (all_rows n bs) → e.plan < plan_limit
        = (λ bs h e m. subst (λ (k : ℕ). e.plan < k) bytes (level_small n r S bs h e m).1) in
        let low2 : (e : Entry) → Memᴰ e (all_rows n T.level2 ++ T.base) → e.plan < plan_limit =
        (λ e m. ⊎_elim (byte T.level2 level2 e) (λ b. assignable_byte e.plan (and_one (assignable e.plan) _ (q0 e b))) (Memᴰ.append_cases (all_rows n T.level2) m)) in
        let low : (e : Entry) → Memᴰ e (entries_of n U T) → e.plan < plan_limit =
        (λ e m. ⊎_elim (byte T.level1 level1 e)
        (λ b. let k = Memᴰ.of_map (back_of U) (all_rows n T.level2 ++ T.base) b in subst (λ (x : Entry). x.plan < plan_limit) k.2 (low2 k.0 k.1)) (Memᴰ.append_cases (all_rows n T.level1) m)) in
        record {
          fits = leb-true _ base_limit (and_one (leb (length T.base) base_limit) _ t0);
          counts = eqb-true _ _ (and_one (eqb T.count _) _ t1);
          totals = totals;
          given = given_out (entries_of n U T) low
              (sym (totals-at total_numbers (entries_of n U T) desk_plan (omega arith)) ∙ ap (λ (ts : List ℕ). get_or ts desk_plan 0) (sym totals) ∙ eqb-true _ 0 (and_one (eqb (get_or T.totals desk_plan 0) 0) _ td));
          level1 = level1;
          level2 = level2;
          passed = λ i v q. not-true _ (and_two (ltb (thr S v) (b2 i).bound) _ (and_two (eqb (index S (length T.level2) v) (0 + i)) _ (q2 i v q)));
          base-words = λ e m.
              let p = and_two (assignable e.plan) _ (q0 e m) in
              (words e m, not-true _ (and_one (not (holds n r S T.level2 e.word)) _ p), not-true _ (and_two (not (holds n r S T.level2 e.word)) _ p));
          ascending = ascends_out T.base (and_one (ascends T.base) _ t5);
        }

  table_in : SoundTable n r S U T → table_test n r S U T ≡ true
  table_in h =
      and_both (le-leb _ base_limit h.fits) (and_both (eq-eqb _ _ h.counts)
      (and_both (eq-eqb _ 0 (ap (λ (ts : List ℕ). get_or ts desk_plan 0) h.totals ∙ totals-at total_numbers (entries_of n U T) desk_plan (omega arith) ∙ given_in (entries_of n U T) h.given))
      (and_both (level_in n r (row1 n r S U T) 0 T.level1 (λ j l. (
        h.level1.buckets j l,
        λ v k t.
            let q : D.Row n r T.level1 j v = record { bucket_lt = l; vector_lt = k; is_live = t } in
            and_both (eq-eqb _ _ (h.level1.here j v q ∙ sym (zero-add j))) (lt-ltb _ _ (h.level1.low j v q)),
      )))
      (and_both (level_in n r (row2 n r S U T) 0 T.level2 (λ j l. (
        h.level2.buckets j l,
        λ v k t.
            let q : D.Row n r T.level2 j v = record { bucket_lt = l; vector_lt = k; is_live = t } in
            and_both (eq-eqb _ _ (h.level2.here j v q ∙ sym (zero-add j))) (and_both (lt-ltb _ _ (h.level2.low j v q)) (ap not (h.passed j v q))),
      )))
      (and_both (all_in (row0 n r S U T) T.base (λ e m. let p = h.base-words e m in and_both (base_given n r S U T h e m) (and_both (ap not p.1) (ap not p.2))))
      (and_both (ascends_in T.base h.ascending) ((totals_exactly total_numbers T.totals _ (ap length h.totals ∙ totals_length total_numbers (entries_of n U T))).1 (h.totals ∙ totals_ext total_numbers _ _ (found_count n r S U T h.level1 h.level2)))))))))

-- ---- numbers of n bits

module _ (n r : ℕ) where
  abbrev pub Below : List ℕ → Type 0
  Below xs = (j : ℕ) → get_or xs j 0 < 2 ^ n

  below-drop : (k : ℕ) (xs : List ℕ) → Below xs → Below (drop k xs)
  below-drop k xs h j = subst⁻¹ (λ (x : ℕ). x < 2 ^ n) (get_or-drop k xs j 0) (h (k + j))

  below-take : (k : ℕ) (xs : List ℕ) → Below xs → Below (take k xs)
  below-take zero xs h j = pow_pos n
  below-take (suc k) [] h j = h j
  below-take (suc k) (x ∷ xs) h zero = h 0
  below-take (suc k) (x ∷ xs) h (suc j) = below-take k xs (λ i. h (suc i)) j

  level_ranged : (m : ℕ) (xs : List ℕ) → m * bucket_words n r ≤ length xs → Below xs → (i : ℕ) → i < m → Ranged n r (nth n r (level_from n r m xs) i)
  unfolding bucket_from
  level_ranged zero xs l h i k = absurd (not-suc-le-zero k)
  level_ranged (suc m) xs l h zero k = record { shaped = from-shaped n r xs (omega arith); cols_lt = below-take n xs h; mark_lt = h n }
  level_ranged (suc m) xs l h (suc i) k =
      level_ranged m (drop (bucket_words n r) xs) (omega (arith, length-drop (bucket_words n r) xs)) (below-drop (bucket_words n r) xs h) i (le_of_suc-le-suc k)

  pairs_below : (k : ℕ) (xs : List ℕ) → Below xs → (e : Entry) → Memᴰ e (pairs_from k xs) → e.word < 2 ^ n
  pairs_below zero xs h e m = absurd (Memᴰ.not-nil m)
  pairs_below (suc k) xs h e m =
      ⊎_elim (λ (q : e ≡ record { word = get_or xs buckets1_at 0; plan = get_or xs buckets2_at 0 }). subst⁻¹ (λ (x : Entry). x.word < 2 ^ n) q (h 0))
      (pairs_below k (drop 2 xs) (below-drop 2 xs h) e) (Memᴰ.cases_cons m)

  module _ (S U : ℕ → ℕ) (xs : List ℕ) where
    module _ (bytes : 2 ^ r ≡ plan_limit) (size : length xs ≡ length_of n r (get_or xs buckets1_at 0) (get_or xs buckets2_at 0)) (bits : Below xs) (some1 : 0 < get_or xs buckets1_at 0) (some2 : 0 < get_or xs buckets2_at 0) where
      abbrev a : ℕ
      a = get_or xs buckets1_at 0

      abbrev b : ℕ
      b = get_or xs buckets2_at 0

      pub test_sound : sound_test n r S U xs ≡ true → FlatSound n r S U xs
      unfolding sound_test table_from
      test_sound t =
          let size1 = length-level_from n r a (drop (bucket_place n r 0) xs) in
          let size2 = length-level_from n r b (drop (bucket_place n r a) xs) in
          record {
            table = table_out n r S U (table_from n r xs) (subst⁻¹ (λ (k : ℕ). 0 < k) size1 some1) (subst⁻¹ (λ (k : ℕ). 0 < k) size2 some2)
                (λ i l. level_ranged a (drop (bucket_place n r 0) xs) (room n r xs a b size).0 (below-drop (bucket_place n r 0) xs bits) i (subst (λ (k : ℕ). i < k) size1 l))
                (λ i l. level_ranged b (drop (bucket_place n r a) xs) (room n r xs a b size).1 (below-drop (bucket_place n r a) xs bits) i (subst (λ (k : ℕ). i < k) size2 l))
                (pairs_below (get_or xs base_count_at 0) _ (below-drop (bucket_place n r (a + b)) xs bits))
                (length-take-le total_numbers (drop totals_at xs) (omega (arith, length-drop totals_at xs, size))) bytes
                (and_one (table_test n r S U (table_from n r xs)) _ t);
            unused = zeros_out (λ x. x) refl (unused_in n r xs) (and_two (table_test n r S U (table_from n r xs)) _ t);
          }

    pub sound-test : FlatSound n r S U xs → sound_test n r S U xs ≡ true
    unfolding sound_test
    sound-test h = and_both (table_in n r S U (table_from n r xs) h.table) (zeros_in (λ x. x) (unused_in n r xs) h.unused)
