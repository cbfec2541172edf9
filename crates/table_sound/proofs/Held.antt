-- The parts of the test make the whole; and what its loops ask for: one bucket, one pair or one number, then the rest,
-- at every number n of rows and r of solution words.
-- Assumes nothing.
use Prim.Native.Nat.{ℕ, zero, suc, ◌+◌, ◌-◌, ◌*◌, ◌/◌, ◌^◌, ◌≤◌, ◌<◌}
use native.Mathlib.Nat.{zero-add, add_assoc, add-zero, lt_of_lt_of_le}
use native.Mathlib.Omega.{arith}
use mathlib.Core.Path.{◌≡◌, refl, sym, ap, ap₂, ◌∙◌, subst, fun_ext}
use mathlib.Core.Bool.{Bool, true, false, ◌&&◌, and-true, and-false, and_assoc}
use mathlib.Core.Logic.{⊎_elim}
use mathlib.Core.List.Memᴰ
use mathlib.Core.List.{List, [], ◌∷◌, ◌++◌, Memᴰ}
use lib.Bits.{bit_or, or_zero_l, or_add_and, and_le_r}
use lib.Count.{ones}
use lib.Dec.{eqb, ltb, leb}
use lib.ListN.{length, get_or, take, drop, replicate, length-set, length-take, length-drop}
use lib.Pow.{pow_mono}
use lib.Seq.{drop-drop, get_or-drop, get_or-set_same, length-take-le, take-take}
use borrow.Author.Tests.{leb-true, ltb-true, ltb-false, ne_eqb}
use Rattle.lists.specs.Lists.{count_from}
use Rattle.lists.specs.Entries.{Entry, desk_plan, assignable}
use Rattle.lists.specs.Totals.{plan_count, totals_of, one_more, one_less}
use Rattle.lists.proofs.Tests.{cases, bool_ext, true→T, T→true, and_one}
use Rattle.lists.proofs.Entries.{assignable_byte}
use Rattle.lists.proofs.Parts.{stretch, drop-take, zeros, zero_at}
use Rattle.lists.proofs.Totals as C
use Rattle.lists.proofs.Totals.{totals_length, totals_none, totals_cons, less_more, more_less}
use Rattle.hash.specs.Mix.{mix_of, unmix_of}
use Rattle.gf2.specs.Select.{chosen}
use Rattle.gf2.proofs.Linear.{product_lt}
use Rattle.std.specs.Option.{is_some, unwrap_or}
use Rattle.bucket_rows.specs.Elimination.{sound_rows}
use Rattle.bucket.specs.declared.Bucket.{Bucket}
use Rattle.bucket.specs.Bucket.{largest_bound, lookup}
use Rattle.bucket_words.specs.Words.{bucket_words, bucket_from}
use Rattle.model.specs.Model.{base_limit}
use Rattle.table.specs.Table.{Table, total_numbers, thr, index}
use Rattle.table.specs.Layout.{buckets1_at, buckets2_at, base_count_at, live_count_at, totals_at, header, level_from, pairs_from, bucket_place, table_from, unused_in}
use Rattle.table.specs.Content.{occupied}
use Rattle.table.specs.Test.{all_of, ascends, rows_in, clear_test, bucket_test, level_test, rows_found, totals_test, row1, row2, sound_test}
use Rattle.table.specs.Calls.{rows, solutions, table_of, shaped, sound}
use Rattle.table.proofs.Numbers.{from-part, header_read, total_read}
use Rattle.table.proofs.Test.{all_out, zeros_out, zeros_in, totals_exactly}
use Rattle.table_layout.specs.declared.Level.TheVariants.{First, Second}
use Rattle.table_layout.proofs.Shape.{shape}
use Rattle.table_rows.specs.Counting.{passes, row_of, Counted, ended, stopped, gate, next, one_off, count_off, bucket_off, level_off, level_left, Leaves}
use Rattle.table_rows.proofs.Counting.{all-next, left_is, count_on, count_out, off_one, off_zero, level_next}
use Rattle.table_sound.specs.Held.{pair_test, counts_sound, base_left, none_left}

-- a test that holds, then the others; a test that does not
pub holding : {a b c : Bool} → a ≡ true → b ≡ c → (a && b) ≡ c
holding h e = ap₂ (λ (x y : Bool). x && y) h e

pub failing : {a : Bool} (b : Bool) → a ≡ false → (a && b) ≡ false
failing b h = ap (λ (x : Bool). x && b) h

-- the bits of two numbers together are 0 exactly where both numbers are
or_none : (a b : ℕ) → eqb (bit_or a b) 0 ≡ (eqb a 0 && eqb b 0)
or_none zero b = ap (λ (n : ℕ). eqb n 0) (or_zero_l b)
or_none (suc a) b =
    ne_eqb (bit_or (suc a) b) 0 (λ e. omega (arith, e, or_add_and (suc a) b, and_le_r (suc a) b)) ∙ sym (failing (eqb b 0) (ne_eqb (suc a) 0 (λ e. omega (arith, e))))

-- ---- tests that are passed first, and then every entry counted off

abbrev any : Entry → Bool
any e = true

-- each entry was counted off, and what is left passes g
abbrev ends : Counted → (List ℕ → Bool) → Bool
ends c g = c.done && g c.left

ends-gate : (b : Bool) (ts : List ℕ) (c : Counted) (g : List ℕ → Bool) → ends (gate b ts c) g ≡ (b && ends c g)
ends-gate true ts c g = refl
ends-gate false ts c g = refl

ends_next : (c : Counted) (f : List ℕ → Counted) (g : List ℕ → Bool) → ends (next c f) g ≡ ends c (λ ts. ends (f ts) g)
ends_next c f g = go c.done c.left
  where
    go : (d : Bool) (ts : List ℕ) → ends (next (record { done = d; left = ts }) f) g ≡ (d && ends (f ts) g)
    go true ts = refl
    go false ts = refl

-- a test that does not look at what is left
ends_test : (b : Bool) (c : Counted) (g : List ℕ → Bool) → ends c (λ ts. b && g ts) ≡ (b && ends c g)
ends_test true c g = refl
ends_test false c g = and-false c.done

-- the tests of the entries first
one_any : (p : Entry → Bool) (e : Entry) (ts : List ℕ) (g : List ℕ → Bool) → ends (one_off p e ts) g ≡ (p e && ends (one_off any e ts) g)
unfolding one_off
one_any p e ts g = ends-gate (p e) ts (one_off any e ts) g

count_any : (p : Entry → Bool) (es : List Entry) (ts : List ℕ) (g : List ℕ → Bool) → ends (count_off p es ts) g ≡ (all_of p es && ends (count_off any es ts) g)
count_any p [] ts g = refl
count_any p (e ∷ es) ts g =
    let k : List ℕ → Bool = λ us. ends (count_off any es us) g in
    ends_next (one_off p e ts) (count_off p es) g
    ∙ ap (ends (one_off p e ts)) (fun_ext (λ us. count_any p es us g))
    ∙ one_any p e ts (λ us. all_of p es && k us)
    ∙ ap (λ (x : Bool). p e && x) (ends_test (all_of p es) (one_off any e ts) k ∙ ap (λ (x : Bool). all_of p es && x) (sym (ends_next (one_off any e ts) (count_off any es) g)))
    ∙ sym (and_assoc (p e) (all_of p es) (ends (count_off any (e ∷ es) ts) g))

count_append : (es fs : List Entry) (ts : List ℕ) (g : List ℕ → Bool) → ends (count_off any (es ++ fs) ts) g ≡ ends (count_off any es ts) (λ us. ends (count_off any fs us) g)
count_append [] fs ts g = refl
count_append (e ∷ es) fs ts g =
    ends_next (one_off any e ts) (count_off any (es ++ fs)) g
    ∙ ap (ends (one_off any e ts)) (fun_ext (λ us. count_append es fs us g))
    ∙ sym (ends_next (one_off any e ts) (count_off any es) (λ us. ends (count_off any fs us) g))

bucket-any : (n : ℕ) (row : Entry → Bool) (b : Bucket) (ts : List ℕ) (g : List ℕ → Bool) → ends (bucket_off n row b ts) g ≡ (bucket_test n row b && ends (count_off any (rows_in n b) ts) g)
unfolding bucket_off bucket_test
bucket-any n row b ts g =
    let low : Bool = leb b.bound largest_bound in
    let found : Bool = is_some (sound_rows n b.mark b.cols) in
    let held : Bool = all_of row (rows_in n b) in
    let k : Bool = ends (count_off any (rows_in n b) ts) g in
    ends-gate low ts (gate (clear_test b) ts (gate found ts (count_off row (rows_in n b) ts))) g
    ∙ ap (λ (x : Bool). low && x) (ends-gate (clear_test b) ts (gate found ts (count_off row (rows_in n b) ts)) g
    ∙ ap (λ (x : Bool). clear_test b && x) (ends-gate found ts (count_off row (rows_in n b) ts) g ∙ ap (λ (x : Bool). found && x) (count_any row (rows_in n b) ts g)
    ∙ sym (and_assoc found held k))
    ∙ sym (and_assoc (clear_test b) (found && held) k))
    ∙ sym (and_assoc low (clear_test b && (found && held)) k)

level_any : (n : ℕ) (row : ℕ → Bucket → Entry → Bool) (i : ℕ) (bs : List Bucket) (ts : List ℕ) (g : List ℕ → Bool)
    → ends (level_off n row i bs ts) g ≡ (level_test n row i bs && ends (count_off any (rows_found n bs) ts) g)
unfolding rows_found
level_any n row i [] ts g = refl
level_any n row i (b ∷ bs) ts g =
    let here : Bool = bucket_test n (row i b) b in
    let others : Bool = level_test n row (suc i) bs in
    let k : List ℕ → Bool = λ us. ends (count_off any (rows_found n bs) us) g in
    ends_next (bucket_off n (row i b) b ts) (level_off n row (suc i) bs) g
    ∙ ap (ends (bucket_off n (row i b) b ts)) (fun_ext (λ us. level_any n row (suc i) bs us g))
    ∙ bucket-any n (row i b) b ts (λ us. others && k us)
    ∙ ap (λ (x : Bool). here && x) (ends_test others (count_off any (rows_in n b) ts) k ∙ ap (λ (x : Bool). others && x) (sym (count_append (rows_in n b) (rows_found n bs) ts g)))
    ∙ sym (and_assoc here others (ends (count_off any (rows_found n (b ∷ bs)) ts) g))

-- ---- nothing is left over exactly if each total is the number of its entries

same_test : (m : ℕ) (ts : List ℕ) (es fs : List Entry) → ((p : ℕ) → plan_count p es ≡ plan_count p fs) → totals_test m ts es ≡ totals_test m ts fs
unfolding totals_test
same_test m ts es fs h = ap (λ (f : ℕ → ℕ). all_of (λ p. eqb (get_or ts p 0) (f p)) (count_from 0 m)) (fun_ext h)

module _ (m : ℕ) where
  -- one entry more: its total is one less
  more_test : (e : Entry) (es : List Entry) (ts : List ℕ) → length ts ≡ m → 0 < get_or ts e.plan 0 → totals_test m (one_less e.plan ts) es ≡ totals_test m ts (e ∷ es)
  more_test e es ts h l =
      let one = totals_exactly m ts (e ∷ es) h in
      let less = totals_exactly m (one_less e.plan ts) es (length-set ts e.plan _ ∙ h) in
      bool_ext _ _
      (λ t. true→T (one.1 (sym (more_less e.plan ts l) ∙ ap (one_more e.plan) (less.0 (T→true _ t)) ∙ sym (totals_cons m e es))))
      (λ t. true→T (less.1 (ap (one_less e.plan) (one.0 (T→true _ t) ∙ totals_cons m e es) ∙ less_more e.plan (totals_of m es))))

  -- its total is not 0
  zero_test : (e : Entry) (es : List Entry) (ts : List ℕ) → length ts ≡ m → e.plan < m → get_or ts e.plan 0 ≡ 0 → totals_test m ts (e ∷ es) ≡ false
  zero_test e es ts h l z =
      cases (totals_test m ts (e ∷ es))
      (λ t.
      let k : e.plan < length (totals_of m es) = (let q = totals_length m es in omega arith) in
      let q = sym z ∙ ap (λ (x : List ℕ). get_or x e.plan 0) ((totals_exactly m ts (e ∷ es) h).0 t ∙ totals_cons m e es) ∙ get_or-set_same (totals_of m es) e.plan _ 0 k in
      absurd (omega arith))
      (λ f. f)

  none_test : (ts : List ℕ) → length ts ≡ m → all_of (λ x. eqb x 0) ts ≡ totals_test m ts []
  none_test ts h =
      let none = totals_exactly m ts [] h in
      bool_ext _ _
      (λ t. true→T (none.1 (sym (zeros ts (zeros_out (λ x. x) refl ts (T→true _ t))) ∙ ap (λ (k : ℕ). replicate k 0) h ∙ sym (totals_none m))))
      (λ t. true→T (zeros_in (λ x. x) ts (λ i. ap (λ (x : List ℕ). get_or x i 0) (none.0 (T→true _ t) ∙ totals_none m) ∙ zero_at m i)))

  pub counted_off : (es : List Entry) (ts : List ℕ) → length ts ≡ m → ((e : Entry) → Memᴰ e es → e.plan < m) → none_left (count_off any es ts) ≡ totals_test m ts es
  counted_off [] ts h l = none_test ts h
  counted_off (e ∷ es) ts h l =
      cases (ltb 0 (get_or ts e.plan 0))
      (λ t.
      ap (λ (o : Counted). none_left (next o (count_off any es))) (one_of t)
      ∙ counted_off es (one_less e.plan ts) (length-set ts e.plan _ ∙ h) (λ x n. l x (Memᴰ.tail n)) ∙ more_test e es ts h (ltb-true 0 _ t))
      (λ f.
      let z : get_or ts e.plan 0 ≤ 0 = ltb-false 0 (get_or ts e.plan 0) f in
      ap (λ (o : Counted). none_left (next o (count_off any es))) (none_of_it f) ∙ sym (zero_test e es ts h (l e (Memᴰ.head refl)) (omega arith)))
    where
      one_of : ltb 0 (get_or ts e.plan 0) ≡ true → one_off any e ts ≡ ended (one_less e.plan ts)
      one_of = off_one any e ts refl

      none_of_it : ltb 0 (get_or ts e.plan 0) ≡ false → one_off any e ts ≡ stopped ts
      none_of_it = off_zero any e ts refl

-- ---- the whole test

-- the occupied rows of one level, then of the other
occupied_both : (n r m k : ℕ) (xs : List ℕ)
    → occupied (level_from n r (m + k) xs) ≡ occupied (level_from n r m xs) + occupied (level_from n r k (drop (m * bucket_words n r) xs))
occupied_both n r zero k xs =
    let e : 0 * bucket_words n r ≡ 0 = omega arith in
    ap (λ (j : ℕ). occupied (level_from n r j xs)) (zero-add k) ∙ sym (zero-add _) ∙ ap (λ (j : ℕ). 0 + occupied (level_from n r k (drop j xs))) (sym e)
occupied_both n r (suc m) k xs =
    let e : suc m + k ≡ suc (m + k) = omega arith in
    let f : bucket_words n r + m * bucket_words n r ≡ suc m * bucket_words n r = omega arith in
    let o : ℕ = ones (bucket_from n r xs).mark in
    ap (λ (j : ℕ). occupied (level_from n r j xs)) e
    ∙ ap (λ (j : ℕ). o + j) (occupied_both n r m k (drop (bucket_words n r) xs))
    ∙ sym (add_assoc o _ _)
    ∙ ap (λ (l : List ℕ). o + occupied (level_from n r m (drop (bucket_words n r) xs)) + occupied (level_from n r k l)) (drop-drop (m * bucket_words n r) (bucket_words n r) xs ∙ ap (λ (j : ℕ). drop j xs) f)

shuffle3 : (c d e g : Bool) → (c && (d && (e && g))) ≡ (e && (c && (d && g)))
shuffle3 false d e g = sym (and-false e)
shuffle3 true false e g = sym (and-false e)
shuffle3 true true e g = refl

-- what is cheap first
order : (a b k c d e f g z : Bool) → ((a && (b && (k && (c && (d && (e && (f && g))))))) && z) ≡ ((a && (k && b)) && (f && (z && (e && (c && (d && g))))))
order false b k c d e f g z = refl
order true false true c d e f g z = refl
order true false false c d e f g z = refl
order true true false c d e f g z = refl
order true true true c d e true g true = simp and-true (shuffle3 c d e g)
order true true true c d e true g false = simp and-false
order true true true c d e false g z = simp and-false

-- two tests that agree where a holds
and_under : (a : Bool) {x y : Bool} → (a ≡ true → x ≡ y) → (a && x) ≡ (a && y)
and_under true h = h refl
and_under false h = refl

-- the plans that a bucket gives have as many bits as it has solution words
rows-plans : (n r m : ℕ) (xs : List ℕ) (e : Entry) → Memᴰ e (rows_found n (level_from n r m xs)) → e.plan < 2 ^ r
unfolding rows_found bucket_from
rows-plans n r zero xs e i = absurd (Memᴰ.not-nil i)
rows-plans n r (suc m) xs e i =
    let b : Bucket = bucket_from n r xs in
    ⊎_elim
    (λ k.
    let q = Memᴰ.of_map (λ v. record { word = v; plan = lookup b v }) (chosen b.mark (unwrap_or (sound_rows n b.mark b.cols) b.cols)) k in
    subst (λ (x : Entry). x.plan < 2 ^ r) q.2 (lt_of_lt_of_le (product_lt b.sols q.0) (pow_mono (omega (arith, length-take r (drop (n + 1) xs))))))
    (rows-plans n r m (drop (bucket_words n r) xs) e) (Memᴰ.append_cases (rows_in n b) i)

module _ (t : List ℕ) where
  abbrev b1 : ℕ
  b1 = get_or t buckets1_at 0

  abbrev b2 : ℕ
  b2 = get_or t buckets2_at 0

  -- what the tests of the base list say, at its place
  module _ {place : ℕ} (e : place ≡ bucket_place rows solutions (b1 + b2)) where
    pub ascending : {x y : Bool} → x ≡ ascends (pairs_from (get_or t base_count_at 0) (drop place t)) → x ≡ y → ascends (pairs_from (get_or t base_count_at 0) (drop (bucket_place rows solutions (b1 + b2)) t)) ≡ y
    ascending f h = ap (λ (k : ℕ). ascends (pairs_from (get_or t base_count_at 0) (drop k t))) (sym e) ∙ sym f ∙ h

    pub unused : {x y : Bool} → x ≡ all_of (λ x. eqb x 0) (drop (place + 2 * get_or t base_count_at 0) t) → x ≡ y → all_of (λ x. eqb x 0) (drop (bucket_place rows solutions (b1 + b2) + 2 * get_or t base_count_at 0) t) ≡ y
    unused f h = ap (λ (k : ℕ). all_of (λ x. eqb x 0) (drop (k + 2 * get_or t base_count_at 0) t)) (sym e) ∙ sym f ∙ h

  pub base-fits : counts_sound t ≡ true → get_or t base_count_at 0 ≤ base_limit
  base-fits h = leb-true _ _ (and_one (leb (get_or t base_count_at 0) base_limit) _ h)

  abbrev T : Table
  T = table_of t

  -- the rows found at each level
  abbrev R1 : List Entry
  R1 = rows_found rows T.level1

  abbrev R2 : List Entry
  R2 = rows_found rows T.level2

  first-level : (ts : List ℕ) (g : List ℕ → Bool) → ends (level_left t First b1 header ts) g ≡ (level_test rows (row1 rows solutions mix_of unmix_of T) 0 T.level1 && ends (count_off any R1 ts) g)
  unfolding table_from
  first-level ts g =
      level_any rows (row_of t First b1) 0 T.level1 ts g
      ∙ ap (λ (x : Bool). x && ends (count_off any R1 ts) g)
      (sym (λ j. level_test rows (λ i b e. eqb (index mix_of ((header_read rows solutions t).0 j) e.word) i && sym (and-true (ltb (thr mix_of e.word) b.bound)) j) 0 T.level1))

  second-level : (ts : List ℕ) (g : List ℕ → Bool) → ends (level_left t Second b2 (bucket_place rows solutions b1) ts) g ≡ (level_test rows (row2 rows solutions mix_of unmix_of T) 0 T.level2 && ends (count_off any R2 ts) g)
  unfolding table_from
  second-level ts g =
      level_any rows (row_of t Second b2) 0 T.level2 ts g
      ∙ ap (λ (x : Bool). x && ends (count_off any R2 ts) g)
      (sym (λ j. level_test rows (λ i b e. eqb (index mix_of ((header_read rows solutions t).1 j) e.word) i && (ltb (thr mix_of e.word) b.bound && passes t Second e.word)) 0 T.level2))

  all-rows : occupied T.level1 + (occupied T.level2 + length T.base) ≡ occupied (level_from rows solutions (b1 + b2) (drop header t)) + get_or t base_count_at 0
  unfolding table_from
  all-rows =
      let e = rw (drop-drop (b1 * bucket_words rows solutions) header t) at (occupied_both rows solutions b1 b2 (drop header t)) in
      omega (arith, (header_read rows solutions t).2)

  -- what is left once both levels and the base list are counted off
  abbrev left : Counted
  left = next (base_left t T.totals) (λ us. next (level_left t First b1 header us) (level_left t Second b2 (bucket_place rows solutions b1)))

  -- the tests of both levels, then their rows
  levels_first : (us : List ℕ) (g : List ℕ → Bool)
      → ends (next (level_left t First b1 header us) (level_left t Second b2 (bucket_place rows solutions b1))) g
      ≡ (level_test rows (row1 rows solutions mix_of unmix_of T) 0 T.level1 && (level_test rows (row2 rows solutions mix_of unmix_of T) 0 T.level2 && ends (count_off any (R1 ++ R2) us) g))
  levels_first us g =
      let c : Bool = level_test rows (row1 rows solutions mix_of unmix_of T) 0 T.level1 in
      let d : Bool = level_test rows (row2 rows solutions mix_of unmix_of T) 0 T.level2 in
      let k : List ℕ → Bool = λ vs. ends (count_off any R2 vs) g in
      ends_next (level_left t First b1 header us) (level_left t Second b2 (bucket_place rows solutions b1)) g
      ∙ ap (ends (level_left t First b1 header us)) (fun_ext (λ vs. second-level vs g))
      ∙ first-level us (λ vs. d && k vs)
      ∙ ap (λ (x : Bool). c && x) (ends_test d (count_off any R1 us) k ∙ ap (λ (x : Bool). d && x) (sym (count_append R1 R2 us g)))

  -- all tests, then all entries
  tests_first : (g : List ℕ → Bool)
      → ends left g ≡ (ascends T.base && (all_of (λ x. eqb x 0) (unused_in rows solutions t) && (all_of (pair_test t) T.base
      && (level_test rows (row1 rows solutions mix_of unmix_of T) 0 T.level1 && (level_test rows (row2 rows solutions mix_of unmix_of T) 0 T.level2 && ends (count_off any (T.base ++ (R1 ++ R2)) T.totals) g)))))
  unfolding table_from
  tests_first g =
      let ts : List ℕ = T.totals in
      let c : Bool = level_test rows (row1 rows solutions mix_of unmix_of T) 0 T.level1 in
      let d : Bool = level_test rows (row2 rows solutions mix_of unmix_of T) 0 T.level2 in
      let e : Bool = all_of (pair_test t) T.base in
      let f : Bool = ascends T.base in
      let z : Bool = all_of (λ x. eqb x 0) (unused_in rows solutions t) in
      let k : List ℕ → Bool = λ us. ends (count_off any (R1 ++ R2) us) g in
      let h : List ℕ → Bool = λ us. c && (d && k us) in
      ends_next (base_left t ts) (λ us. next (level_left t First b1 header us) (level_left t Second b2 (bucket_place rows solutions b1))) g
      ∙ ap (ends (base_left t ts)) (fun_ext (λ us. levels_first us g))
      ∙ ends-gate f ts (gate z ts (count_off (pair_test t) T.base ts)) h
      ∙ ap (λ (x : Bool). f && x) (ends-gate z ts (count_off (pair_test t) T.base ts) h
      ∙ ap (λ (x : Bool). z && x) (count_any (pair_test t) T.base ts h
      ∙ ap (λ (x : Bool). e && x) (ends_test c (count_off any T.base ts) (λ us. d && k us)
      ∙ ap (λ (x : Bool). c && x) (ends_test d (count_off any T.base ts) k
      ∙ ap (λ (x : Bool). d && x) (sym (count_append T.base (R1 ++ R2) ts g))))))

  module _ (k : shaped t ≡ true) where
    totals_many : length T.totals ≡ total_numbers
    unfolding table_from
    totals_many = length-take-le total_numbers (drop totals_at t) (let s = shape k in omega (arith, length-drop totals_at t, s.size))

    plans_fit : all_of (pair_test t) T.base ≡ true → (e : Entry) → Memᴰ e (T.base ++ (R1 ++ R2)) → e.plan < total_numbers
    unfolding table_from
    plans_fit h e i =
        ⊎_elim (λ a. assignable_byte e.plan (and_one (assignable e.plan) _ (all_out (pair_test t) T.base h e a)))
        (λ a. ⊎_elim (rows-plans rows solutions b1 _ e) (rows-plans rows solutions b2 _ e) (Memᴰ.append_cases R1 a))
        (Memᴰ.append_cases T.base i)

    moved : (p : ℕ) → plan_count p (T.base ++ (R1 ++ R2)) ≡ plan_count p (R1 ++ (R2 ++ T.base))
    moved p =
        omega (
          arith,
          C.count_append p T.base (R1 ++ R2),
          C.count_append p R1 R2,
          C.count_append p R1 (R2 ++ T.base),
          C.count_append p R2 T.base,
        )

    pub whole : sound t ≡ (counts_sound t && none_left left)
    unfolding sound_test table_from
    whole =
        let a = leb (length T.base) base_limit in
        let b = eqb T.count (occupied T.level1 + (occupied T.level2 + length T.base)) in
        let c = level_test rows (row1 rows solutions mix_of unmix_of T) 0 T.level1 in
        let d = level_test rows (row2 rows solutions mix_of unmix_of T) 0 T.level2 in
        let e = all_of (pair_test t) T.base in
        let f = ascends T.base in
        let z = all_of (λ x. eqb x 0) (unused_in rows solutions t) in
        let es = T.base ++ (R1 ++ R2) in
        let desk = eqb (get_or T.totals desk_plan 0) 0 in
        order a b desk c d e f (totals_test total_numbers T.totals (R1 ++ (R2 ++ T.base))) z
        ∙ ap₂ (λ (x y : Bool). x && y)
        (ap₂ (λ (n o : ℕ). leb n base_limit && (desk && eqb (get_or t live_count_at 0) o)) (header_read rows solutions t).2 all-rows
        ∙ ap (λ (x : ℕ). leb (get_or t base_count_at 0) base_limit && (eqb x 0 && eqb (get_or t live_count_at 0) (occupied (level_from rows solutions (b1 + b2) (drop header t)) + get_or t base_count_at 0))) (total_read rows solutions t desk_plan (omega arith)))
        (ap (λ (x : Bool). f && (z && x)) (and_under e (λ h. ap (λ (x : Bool). c && (d && x))
        (sym (counted_off total_numbers es T.totals totals_many (plans_fit h) ∙ same_test total_numbers T.totals es _ moved))))
        ∙ sym (tests_first (all_of (λ x. eqb x 0))))

    -- what the code finds, step by step
    module _ (h : counts_sound t ≡ true) (ts : List ℕ) (z : ts ≡ take total_numbers (drop totals_at t)) where
      whole-left : sound t ≡ none_left left
      whole-left = whole ∙ holding h refl

      begun : {o : Counted} → base_left t ts ≡ o → left ≡ next o (λ us. next (level_left t First b1 header us) (level_left t Second b2 (bucket_place rows solutions b1)))
      unfolding table_from
      begun e = ap (λ (x : List ℕ). next (base_left t x) (λ us. next (level_left t First b1 header us) (level_left t Second b2 (bucket_place rows solutions b1)))) (sym z)
          ∙ ap (λ (o : Counted). next o (λ us. next (level_left t First b1 header us) (level_left t Second b2 (bucket_place rows solutions b1)))) e

      pub base_fails : (d : Bool) (us : List ℕ) → Leaves (base_left t ts) d us → d ≡ false → false ≡ sound t
      base_fails d us l f = sym (whole-left ∙ ap none_left (begun (left_is (base_left t ts) l f)))

      module _ (d : Bool) (us : List ℕ) (l : Leaves (base_left t ts) d us) (on : d ≡ true) where
        past-base : left ≡ next (level_left t First b1 header us) (level_left t Second b2 (bucket_place rows solutions b1))
        past-base = begun (left_is (base_left t ts) l on)

        pub first_fails : (d1 : Bool) (vs : List ℕ) → Leaves (level_left t First b1 header us) d1 vs → d1 ≡ false → false ≡ sound t
        first_fails d1 vs l1 f =
            sym (whole-left ∙ ap none_left (past-base ∙ ap (λ (o : Counted). next o (level_left t Second b2 (bucket_place rows solutions b1))) (left_is (level_left t First b1 header us) l1 f)))

        module _ (d1 : Bool) (vs : List ℕ) (l1 : Leaves (level_left t First b1 header us) d1 vs) (on1 : d1 ≡ true) (p : ℕ) (e : p ≡ bucket_place rows solutions b1) where
          past_first : left ≡ level_left t Second b2 p vs
          past_first =
              past-base ∙ ap (λ (o : Counted). next o (level_left t Second b2 (bucket_place rows solutions b1))) (left_is (level_left t First b1 header us) l1 on1)
              ∙ ap (λ (q : ℕ). level_left t Second b2 q vs) (sym e)

          pub second_fails : (d2 : Bool) (ws : List ℕ) → Leaves (level_left t Second b2 p vs) d2 ws → d2 ≡ false → false ≡ sound t
          second_fails d2 ws l2 f = sym (whole-left ∙ ap none_left (past_first ∙ left_is (level_left t Second b2 p vs) l2 f))

          pub all-counted : (d2 : Bool) (ws : List ℕ) → Leaves (level_left t Second b2 p vs) d2 ws → d2 ≡ true → all_of (λ x. eqb x 0) ws ≡ sound t
          all-counted d2 ws l2 on2 = sym (whole-left ∙ ap none_left (past_first ∙ left_is (level_left t Second b2 p vs) l2 on2))

-- ---- the occupied rows of the buckets of a level, from number i of m on

module _ (n r : ℕ) (xs : List ℕ) where
  pub occupied-next : (at m i : ℕ) → i < m
      → occupied (level_from n r (m - i) (drop at xs)) ≡ ones (get_or xs (at + n) 0) + occupied (level_from n r (m - (i + 1)) (drop (at + bucket_words n r) xs))
  unfolding bucket_from
  occupied-next at m i h = ap occupied (level_next n r xs at m i h) ∙ ap (λ (x : ℕ). ones x + occupied (level_from n r (m - (i + 1)) (drop (at + bucket_words n r) xs))) (get_or-drop at xs n 0)

level_taken : (n r m : ℕ) (xs : List ℕ) → level_from n r m (take (m * bucket_words n r) xs) ≡ level_from n r m xs
level_taken n r zero xs = refl
level_taken n r (suc m) xs =
    let w : ℕ = bucket_words n r in
    let e : suc m * w ≡ w + m * w = omega arith in
    ap (λ (k : ℕ). level_from n r (suc m) (take k xs)) e
    ∙ ap₂ {C = List Bucket} ◌∷◌ (sym (from-part n r (take (w + m * w) xs)) ∙ ap (bucket_from n r) (take-take w (w + m * w) xs (omega arith)) ∙ from-part n r xs)
    (ap (level_from n r m) (drop-take w (m * w) xs) ∙ level_taken n r m (drop w xs))

-- those of the stretch of the m buckets of a table, as the code lends it
pub levels_lent : (m p : ℕ) (t : List ℕ) → p ≡ bucket_place rows solutions m → p ≤ length t
    → let s : List ℕ = take (p - header) (drop header t) in level_from rows solutions (length s / bucket_words rows solutions) s ≡ level_from rows solutions m (drop header t)
levels_lent m p t e h =
    let k : ℕ = m * bucket_words rows solutions in
    let lent : take (p - header) (drop header t) ≡ take k (drop header t) = ap (λ (q : ℕ). take (q - header) (drop header t)) e ∙ stretch header k t in
    let many : length (take k (drop header t)) / bucket_words rows solutions ≡ m = omega (arith, length-take-le k (drop header t) (omega (arith, length-drop header t))) in
    ap (λ (s : List ℕ). level_from rows solutions (length s / bucket_words rows solutions) s) lent
    ∙ ap (λ (j : ℕ). level_from rows solutions j (take k (drop header t))) many ∙ level_taken rows solutions m (drop header t)

-- ---- pairs

pairs_taken : (c : ℕ) (xs : List ℕ) → 2 * c ≤ length xs → pairs_from c (take (2 * c) xs) ≡ pairs_from c xs
pairs_taken zero xs h = refl
pairs_taken (suc c) [] h = absurd (omega arith)
pairs_taken (suc c) (x ∷ []) h = absurd (omega arith)
pairs_taken (suc c) (x ∷ y ∷ xs) h =
    let e : 2 * suc c ≡ suc (suc (2 * c)) = omega arith in
    ap (λ (k : ℕ). pairs_from (suc c) (take k (x ∷ y ∷ xs))) e ∙ ap {B = List Entry} (λ l. record { word = x; plan = y } ∷ l) (pairs_taken c xs (omega arith))

-- those of a stretch of c pairs, as the code lends it
pub pairs_lent : (at c : ℕ) (xs : List ℕ) → at + 2 * c ≤ length xs → let s : List ℕ = take (at + 2 * c - at) (drop at xs) in pairs_from (length s / 2) s ≡ pairs_from c (drop at xs)
pairs_lent at c xs h =
    let l : 2 * c ≤ length (drop at xs) = omega (arith, length-drop at xs) in
    let k : length (take (2 * c) (drop at xs)) / 2 ≡ c = omega (arith, length-take-le (2 * c) (drop at xs) l) in
    ap (λ (s : List ℕ). pairs_from (length s / 2) s) (stretch at (2 * c) xs) ∙ ap (λ (n : ℕ). pairs_from n (take (2 * c) (drop at xs))) k ∙ pairs_taken c (drop at xs) l

module _ (xs : List ℕ) where
  pairs_next : (i n : ℕ) → i < n → pairs_from (n - i) (drop (2 * i) xs) ≡ record { word = get_or xs (2 * i) 0; plan = get_or xs (2 * i + 1) 0 } ∷ pairs_from (n - (i + 1)) (drop (2 * (i + 1)) xs)
  pairs_next i n h =
      let e : n - i ≡ suc (n - (i + 1)) = omega arith in
      let f : 2 * i + 2 ≡ 2 * (i + 1) = omega arith in
      ap (λ (k : ℕ). pairs_from k (drop (2 * i) xs)) e
      ∙ ap₂ {C = List Entry} ◌∷◌ (ap₂ {C = Entry} (λ u v. record { word = u; plan = v }) (get_or-drop (2 * i) xs 0 0 ∙ ap (λ (j : ℕ). get_or xs j 0) (add-zero (2 * i))) (get_or-drop (2 * i) xs 1 0))
      (ap (pairs_from (n - (i + 1))) (drop-drop 2 (2 * i) xs ∙ ap (λ (j : ℕ). drop j xs) f))

  module _ (p : Entry → Bool) (i n : ℕ) (ts : List ℕ) (h : i < n) {x : Counted} (all : count_off p (pairs_from (n - i) (drop (2 * i) xs)) ts ≡ x) where
    abbrev pair : Counted
    pair = one_off p (record { word = get_or xs (2 * i) 0; plan = get_or xs (2 * i + 1) 0 }) ts

    abbrev later : List ℕ → Counted
    later = count_off p (pairs_from (n - (i + 1)) (drop (2 * (i + 1)) xs))

    next-pair : count_off p (pairs_from (n - i) (drop (2 * i) xs)) ts ≡ next pair later
    next-pair = ap (λ (es : List Entry). count_off p es ts) (pairs_next i n h)

    pub pairs_on : {done : Bool} (us : List ℕ) → Leaves pair done us → done ≡ true → later us ≡ x
    pairs_on us = count_on pair later next-pair all

    pub pairs_out : {done : Bool} (us : List ℕ) → Leaves pair done us → done ≡ false → Leaves x false us
    pairs_out us = count_out pair later us next-pair all

  -- the pairs from the one before i on
  pub ascends-next : (i n : ℕ) → 1 ≤ i → i < n
      → ascends (pairs_from (n - (i - 1)) (drop (2 * (i - 1)) xs)) ≡ (ltb (get_or xs (2 * (i - 1)) 0) (get_or xs (2 * i) 0) && ascends (pairs_from (n - (i + 1 - 1)) (drop (2 * (i + 1 - 1)) xs)))
  ascends-next i n l h =
      let e : i - 1 + 1 ≡ i = omega arith in
      let f : i ≡ i + 1 - 1 = omega arith in
      let first : Entry = record { word = get_or xs (2 * (i - 1)) 0; plan = get_or xs (2 * (i - 1) + 1) 0 } in
      ap ascends (pairs_next (i - 1) n (omega arith))
      ∙ ap (λ (j : ℕ). ascends (first ∷ pairs_from (n - j) (drop (2 * j) xs))) e
      ∙ ap (λ (l : List Entry). ascends (first ∷ l)) (pairs_next i n h)
      ∙ ap (λ (l : List Entry). ltb first.word (get_or xs (2 * i) 0) && ascends l) (sym (pairs_next i n h))
      ∙ ap (λ (j : ℕ). ltb first.word (get_or xs (2 * i) 0) && ascends (pairs_from (n - j) (drop (2 * j) xs))) f

  -- ---- numbers that are all 0

  -- the bits of the numbers so far, seen, and the numbers from a place on
  pub seen_next : (seen at : ℕ) → at < length xs
      → (eqb (bit_or seen (get_or xs at 0)) 0 && all_of (λ x. eqb x 0) (drop (at + 1) xs)) ≡ (eqb seen 0 && all_of (λ x. eqb x 0) (drop at xs))
  seen_next seen at h =
      ap (λ (c : Bool). c && all_of (λ x. eqb x 0) (drop (at + 1) xs)) (or_none seen (get_or xs at 0))
      ∙ and_assoc (eqb seen 0) (eqb (get_or xs at 0) 0) (all_of (λ x. eqb x 0) (drop (at + 1) xs))
      ∙ ap (λ (c : Bool). eqb seen 0 && c) (sym (all-next xs (λ x. eqb x 0) at h))
