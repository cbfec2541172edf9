-- A table that stands for a state holds the state's live words, and no others, and counts them.
-- Assumes nothing.
use Prim.Native.Nat.{ℕ, zero, suc, ◌+◌, ◌/◌, ◌%◌, ◌^◌, ◌<◌, zero-le}
use native.Mathlib.Nat.{le_trans, mod-lt, pow-suc, add-zero, zero-add, ℕ_set}
use native.Mathlib.Omega.{arith}
use mathlib.Core.Path.{◌≡◌, refl, sym, ap, ap₂, ◌∙◌, subst, subst⁻¹, subst₂}
use mathlib.Core.Bool.{Bool, not, ◌&&◌, and-true, and-false}
use mathlib.Core.Logic.{∥∥₁_elim}
use mathlib.Core.List.Memᴰ
use mathlib.Core.List.Permᴰ
use mathlib.Core.List.{List, [], ◌∷◌, ◌++◌, map, Permᴰ}
use lib.Arith.{lt_of_le-ne}
use lib.Count.{ones, ones_step}
use lib.Dec.{eqb, ltb}
use lib.ListN.{length, get_or, length-append, length-map}
use borrow.Author.Tests.{eqb-true, eqb-false, ltb-true, ltb-false, lt-ltb, le-ltb}
use Rattle.lists.specs.Lists.{keep}
use Rattle.lists.specs.Entries.{Entry, words}
use Rattle.lists.proofs.Tests.{cases}
use Rattle.lists.proofs.Keep.{keep-keep, keep_ext, keep_out, keep-part, keep_none, perm_length}
use Rattle.lists.proofs.Sorts.{sort_perm, sort-same, sort_order, distinct_perm, ascending_distinct}
use Rattle.gf2.specs.Select.{put_if, chosen}
use Rattle.identifier.specs.Place.{thresholds}
use Rattle.bucket.specs.declared.Bucket.{Bucket}
use Rattle.bucket_settle.specs.Settle.{contents}
use Rattle.bucket_settle.proofs.Hold.{Holds}
use Rattle.bucket_settle.proofs.Settling.{held, rows_of}
use Rattle.model.specs.Model.{State}
use Rattle.table.specs.Table.{Table, bounds, thr, index, on_second, nth}
use Rattle.table.specs.Content.{occupied, all_rows, back_of, entries_of, live_of}
use Rattle.table.proofs.Level.{Small, at_one, bound_at, within, due_in, pass, LevelHolds}
use Rattle.table.proofs.Stand.{passes, later, last, Stands}

-- ---- bucket numbers from i on, and from the next on

above_rest : (k i : ℕ) (h : Bool) → ((not (ltb k i) && h) && not (eqb k i)) ≡ (not (ltb k (suc i)) && h)
above_rest k i h =
    cases (ltb k i)
    (λ t. let l = ltb-true k i t in ap (λ (a : Bool). (not a && h) && not (eqb k i)) t ∙ sym (ap (λ (a : Bool). not a && h) (lt-ltb k (suc i) (omega arith))))
    (λ f. let l = ltb-false k i f in
    ap (λ (a : Bool). (not a && h) && not (eqb k i)) f
    ∙ cases (eqb k i)
    (λ t. let e = eqb-true k i t in ap (λ (b : Bool). h && not b) t ∙ and-false h ∙ sym (ap (λ (a : Bool). not a && h) (lt-ltb k (suc i) (omega arith))))
    (λ q. ap (λ (b : Bool). h && not b) q ∙ and-true h ∙ sym (ap (λ (a : Bool). not a && h) (le-ltb k (suc i) (lt_of_le-ne l (λ z. eqb-false k i q (sym z)))))))

-- ---- a level's rows

module _ (n r : ℕ) (S : ℕ → ℕ) (m : ℕ) (pos : 0 < m) (B : List ℕ) (es : List Entry) where
  abbrev at : Entry → ℕ
  at e = index S m e.word

  abbrev ok : Entry → Bool
  ok e = within S m B e.word

  -- the entries held in the buckets from i on
  abbrev from : ℕ → List Entry
  from i = keep (λ e. not (ltb (at e) i) && ok e) es

  from_split : (i : ℕ) → Permᴰ (from i) (held (thr S) (get_or B i 0) (due_in S m i es) ++ from (suc i))
  from_split i =
      subst₂ (λ (a b : List Entry). Permᴰ (from i) (a ++ b))
      (keep-keep (λ e. eqb (at e) i) (λ e. not (ltb (at e) i) && ok e) es
      ∙ keep_ext _ (λ e. eqb (at e) i && ltb (thr S e.word) (get_or B i 0)) es (λ e.
      at_one (λ k. not (ltb k i) && ltb (thr S e.word) (get_or B k 0)) (at e) i
      ∙ ap (λ (a : Bool). eqb (at e) i && (not a && ltb (thr S e.word) (get_or B i 0))) (le-ltb i i (omega arith)))
      ∙ sym (keep-keep (λ e. ltb (thr S e.word) (get_or B i 0)) (λ e. eqb (at e) i) es))
      (keep-keep (λ e. not (eqb (at e) i)) (λ e. not (ltb (at e) i) && ok e) es ∙ keep_ext _ (λ e. not (ltb (at e) (suc i)) && ok e) es (λ e. above_rest (at e) i (ok e)))
      (keep-part (λ e. eqb (at e) i) (from i))

  rows-from : (i : ℕ) (bs : List Bucket) → i + length bs ≡ m
      → ((j : ℕ) → j < length bs → Holds n r (nth n r bs j) (held (thr S) (get_or B (i + j) 0) (due_in S m (i + j) es)))
      → Permᴰ (all_rows n bs) (from i)
  rows-from i [] e h =
      subst⁻¹ (Permᴰ [])
      (keep_none (λ x. not (ltb (at x) i) && ok x) es (λ x. ap (λ (b : Bool). not b && ok x) (lt-ltb (at x) i (le_trans (mod-lt (S x.word / thresholds) pos) (omega arith))))) Permᴰ.nil
  rows-from i (b ∷ bs) e h =
      Permᴰ.trans
      (Permᴰ.trans (Permᴰ.append_right (all_rows n bs) (rows_of (subst (λ (k : ℕ). Holds n r b (held (thr S) (get_or B k 0) (due_in S m k es))) (add-zero i) (h 0 (omega arith)))))
      (Permᴰ.append_left (held (thr S) (get_or B i 0) (due_in S m i es))
      (rows-from (suc i) bs (omega arith) (λ j l.
      let q : i + suc j ≡ suc i + j = omega arith in
      subst (λ (k : ℕ). Holds n r (nth n r bs j) (held (thr S) (get_or B k 0) (due_in S m k es))) q (h (suc j) (omega arith))))))
      (Permᴰ.symm (from_split i))

  whole : Permᴰ es (from 0 ++ pass S m B es)
  whole =
      subst (λ (a : List Entry). Permᴰ es (a ++ pass S m B es))
      (keep_ext ok (λ e. not (ltb (at e) 0) && ok e) es (λ e. sym (ap (λ (b : Bool). not b && ok e) (le-ltb (at e) 0 zero-le))))
      (keep-part ok es)

-- the rows of a level, and what it passes on, are the words due there
level_rows : (n r : ℕ) (S : ℕ → ℕ) (m : ℕ) → 0 < m → (bs : List Bucket) (es : List Entry) → LevelHolds n r S m bs es → Permᴰ (all_rows n bs ++ pass S m (bounds bs) es) es
level_rows n r S m pos bs es l =
    Permᴰ.trans (Permᴰ.append_right (pass S m (bounds bs) es)
    (rows-from n r S m pos (bounds bs) es 0 bs (zero-add (length bs) ∙ l.count) (λ j h.
    subst⁻¹ (λ (k : ℕ). Holds n r (nth n r bs j) (held (thr S) (get_or (bounds bs) k 0) (due_in S m k es))) (zero-add j)
    (subst⁻¹ (λ (t : ℕ). Holds n r (nth n r bs j) (held (thr S) t (due_in S m j es))) (bound_at n r bs j h)
    (l.each j (subst (λ (k : ℕ). j < k) l.count h))))))
    (Permᴰ.symm (whole n r S m pos (bounds bs) es))

-- ---- the number of rows

chosen-length : (m : ℕ) (rs : List ℕ) → m < 2 ^ length rs → length (chosen m rs) ≡ ones m
unfolding ones
chosen-length m [] h = let e : m ≡ 0 = omega arith in sym (ap ones e)
chosen-length m (x ∷ xs) h =
    go (m % 2) (mod-lt m (omega arith)) ∙ ap (λ (k : ℕ). m % 2 + k) (chosen-length (m / 2) xs (omega (arith, pow-suc 2 (length xs)))) ∙ sym (ones_step m)
  where
    go : (d : ℕ) → d < 2 → length (put_if d x (chosen (m / 2) xs)) ≡ d + length (chosen (m / 2) xs)
    go zero l = omega arith
    go (suc zero) l = omega arith
    go (suc (suc d)) l = absurd (omega arith)

rows-length : {n r : ℕ} {b : Bucket} {rows : List Entry} → Holds n r b rows → length (contents n b) ≡ ones b.mark
rows-length {n} {r} {b} {rows} h =
    perm_length (rows_of h) ∙ sym (length-map rows (λ (e : Entry). e.word))
    ∙ sym (∥∥₁_elim h.lives (ℕ_set (length (chosen b.mark h.matrix)) (length (words rows))) perm_length)
    ∙ chosen-length b.mark h.matrix (subst⁻¹ (λ (k : ℕ). b.mark < 2 ^ k) h.sound.inverse.rows h.sound.mark_lt)

pub all-length : (n r : ℕ) (bs : List Bucket) → ((j : ℕ) → j < length bs → (rows : List Entry) × Holds n r (nth n r bs j) rows) → length (all_rows n bs) ≡ occupied bs
all-length n r [] h = refl
all-length n r (b ∷ bs) h =
    length-append (contents n b) (all_rows n bs) ∙ ap₂ (λ (x y : ℕ). x + y) (rows-length (h 0 (omega arith)).1) (all-length n r bs (λ j l. h (suc j) (omega arith)))

level_length : (n r : ℕ) (S : ℕ → ℕ) (m : ℕ) (bs : List Bucket) (es : List Entry) → LevelHolds n r S m bs es → length (all_rows n bs) ≡ occupied bs
level_length n r S m bs es l = all-length n r bs (λ j h. (_, l.each j (subst (λ (k : ℕ). j < k) l.count h)))

-- ---- the whole table

pub entries_length : (n : ℕ) (U : ℕ → ℕ) (T : Table) → length (all_rows n T.level1) ≡ occupied T.level1 → length (all_rows n T.level2) ≡ occupied T.level2
    → length (entries_of n U T) ≡ occupied T.level1 + (occupied T.level2 + length T.base)
entries_length n U T one two =
    length-append (all_rows n T.level1) (map (back_of U) (all_rows n T.level2 ++ T.base))
    ∙ ap₂ (λ (x y : ℕ). x + y) one
    (length-map (all_rows n T.level2 ++ T.base) (back_of U) ∙ length-append (all_rows n T.level2) T.base ∙ ap (λ (x : ℕ). x + length T.base) two)

module _ (n r : ℕ) (S U : ℕ → ℕ) (keeps : (x : ℕ) → x < 2 ^ n → S x < 2 ^ n) (undo : (x : ℕ) → x < 2 ^ n → U (S x) ≡ x) where
  back_second : (es : List Entry) → Small n r es → map (back_of U) (map (on_second S) es) ≡ es
  back_second [] h = refl
  back_second (e ∷ es) h =
      ap₂ {C = List Entry} (λ w l. record { word = w; plan = e.plan } ∷ l)
      (ap U (undo (S e.word) (keeps e.word (h e (Memᴰ.head refl)).0)) ∙ undo e.word (h e (Memᴰ.head refl)).0)
      (back_second es (λ x m. h x (Memᴰ.tail m)))

  module _ (T : Table) (s : State) (st : Stands n r S T s) where
    -- its occupied rows and base entries are the live words
    pub table_entries : Permᴰ (entries_of n U T) s.live
    table_entries =
        Permᴰ.trans (Permᴰ.append_left (all_rows n T.level1)
        (Permᴰ.trans (Permᴰ.map (back_of U)
        (subst⁻¹ (λ (b : List Entry). Permᴰ (all_rows n T.level2 ++ b) (later S s)) st.based
        (Permᴰ.trans (Permᴰ.append_left (all_rows n T.level2) (sort_perm (last S s)))
        (subst (λ (B : List ℕ). Permᴰ (all_rows n T.level2 ++ pass S s.size.buckets2 B (later S s)) (later S s)) st.bounds2
        (level_rows n r S s.size.buckets2 st.pos2 T.level2 (later S s) st.level2)))))
        (subst⁻¹ (λ (l : List Entry). Permᴰ l (passes S s)) (back_second (passes S s) (λ e m. st.small e (keep_out _ s.live e m).0)) (Permᴰ.refl _))))
        (subst (λ (B : List ℕ). Permᴰ (all_rows n T.level1 ++ pass S s.size.buckets1 B s.live) s.live) st.bounds1
        (level_rows n r S s.size.buckets1 st.pos1 T.level1 s.live st.level1))

    pub table_live : live_of n U T ≡ s.live
    unfolding live_of
    table_live =
        let d = ascending_distinct s.live st.valid.ascending in
        sort_order table_entries (distinct_perm (Permᴰ.symm table_entries) d) ∙ sort-same s.live st.valid.ascending d

    -- the live count is the number of occupied rows and base entries
    pub table_count : T.count ≡ occupied T.level1 + (occupied T.level2 + length T.base)
    table_count =
        st.counted ∙ sym (perm_length table_entries)
        ∙ entries_length n U T (level_length n r S s.size.buckets1 T.level1 s.live st.level1) (level_length n r S s.size.buckets2 T.level2 (later S s) st.level2)
