-- What a bucket holds: a list of entries, in any order, by vector and plan. The bucket's steps on that list, at every width.
-- Assumes nothing.
use Prim.Native.Nat.{ℕ, ◌^◌, ◌<◌}
use native.Mathlib.Omega.{arith}
use mathlib.Core.Path.{◌≡◌, refl, sym, ap, ap₂, ◌∙◌, subst, subst⁻¹}
use mathlib.Core.Bool.{Bool, true, false, ◌||◌, true≢false, Bool-set}
use mathlib.Core.Logic.{⊎_elim, ∥∥₁_elim}
use mathlib.Core.Option.{Option, none, some}
use Rattle.std.specs.Prelude.{Option as Optional, Some, None, option_map, unwrap_or}
use mathlib.Core.List.Memᴰ
use mathlib.Core.List.Perm
use mathlib.Core.List.Permᴰ
use mathlib.Core.List.{List, [], ◌∷◌, Perm, Permᴰ, Memᴰ}
use lib.Bits.{bit_xor, xor_self}
use lib.Count.{count_trailing_zeros}
use lib.Dec.{T, eqb, eqb→eq}
use lib.ListN.{length, get_or, set, length-replicate}
use borrow.Author.Tests.{eq-eqb}
use Rattle.lists.specs.Entries.{Entry, words, find, update, remove, Distinct}
use Rattle.lists.proofs.Tests.{cases, cond_true, cond_false, T→true, true→T, false→T, or_l, or_r, or_cases}
use Rattle.lists.proofs.Entries.{find_mem, find_none, none_find, none≢some, remove_perm, update_perm}
use Rattle.lists.proofs.Sorts.{distinct_perm, mem_perm}
use Rattle.gf2.specs.Vectors.{bit, product, sol_step, units}
use Rattle.gf2.specs.Select.{elem, sums, chosen}
use Rattle.gf2.proofs.Select.{sums_cons, zero_in, sums_perm}
use Rattle.gf2.proofs.Chosen.{Row, chosen_none, elem→row}
use Rattle.gf2.proofs.Lowest.{tz_pow}
use Rattle.gf2.proofs.Loops.{length-sol_step}
use Rattle.gf2.proofs.Solutions.{plan-set, plan-kept}
use Rattle.gf2.proofs.Clear.{clear_step}
use Rattle.bucket.specs.declared.Bucket.{Bucket}
use Rattle.bucket.specs.Bucket.{Sound, empty_bucket, lookup, live, row_of, add_at, add, change_at, change, changed, withdraw_at, withdraw, without}
use Rattle.bucket.proofs.Steps.{live_test, empty_sound, add-sound, add-live, add-plan, add-others, left-rows, withdraw-sound, withdraw-live, withdraw-others, Goes, add_goes, add-depends}
use Rattle.bucket_settle.specs.Settle.{plan_of}

-- ---- members

elem_permᴰ : (k : ℕ) {xs ys : List ℕ} → Permᴰ xs ys → elem k xs ≡ elem k ys
elem_permᴰ k Permᴰ.nil = refl
elem_permᴰ k (Permᴰ.cons {a = x} {b = y} {l₁ = xs} {l₂ = ys} e s) = ap₂ (λ (a : ℕ) (b : Bool). eqb k a || b) e (elem_permᴰ k s)
elem_permᴰ k (Permᴰ.swap {a = x} {b = y} {a' = x'} {b' = y'} {l = l} e f) =
    swap (eqb k x) (eqb k y) (elem k l) ∙ ap₂ (λ (u v : ℕ). eqb k u || (eqb k v || elem k l)) f e
  where
    swap : (a b c : Bool) → (a || (b || c)) ≡ (b || (a || c))
    swap true true c = refl
    swap true false c = refl
    swap false b c = refl
elem_permᴰ k (Permᴰ.trans s t) = elem_permᴰ k s ∙ elem_permᴰ k t

pub elem_perm : (k : ℕ) {xs ys : List ℕ} → Perm xs ys → elem k xs ≡ elem k ys
elem_perm k {xs} {ys} s = ∥∥₁_elim s (Bool-set (elem k xs) (elem k ys)) (elem_permᴰ k)

pub mem_elem : (x : Entry) (rows : List Entry) → Memᴰ x rows → T (elem x.word (words rows))
mem_elem x [] m = absurd (Memᴰ.not-nil m)
mem_elem x (y ∷ ys) m =
    ⊎_elim (λ (e : x ≡ y). or_l (eqb x.word y.word) _ (true→T (eq-eqb x.word y.word (ap (λ (z : Entry). z.word) e))))
    (λ n. or_r (eqb x.word y.word) _ (mem_elem x ys n)) (Memᴰ.cases_cons m)

find-elem : (k p : ℕ) (rows : List Entry) → find k rows ≡ some p → T (elem k (words rows))
find-elem k p rows f = mem_elem (record { word = k; plan = p }) rows (find_mem k p rows f)

find_out : (k : ℕ) (rows : List Entry) → find k rows ≡ none → elem k (words rows) ≡ false
find_out k [] f = refl
find_out k (y ∷ ys) f =
    cases (eqb k y.word) (λ t. absurd (none≢some (sym f ∙ cond_true _ _ t))) (λ q. rw q (find_out k ys (sym (cond_false _ _ q) ∙ f)))

-- a member is a selection
pub elem-sums : (k : ℕ) (xs : List ℕ) → T (elem k xs) → T (elem k (sums xs))
elem-sums k [] t = absurd t
elem-sums k (x ∷ xs) t =
    subst⁻¹ T (sums_cons k x xs)
    (⊎_elim (λ a. or_r (elem k (sums xs)) _ (subst⁻¹ (λ (y : ℕ). T (elem y (sums xs))) (ap (bit_xor x) (eqb→eq k x a) ∙ xor_self x) (zero_in xs)))
    (λ b. or_l (elem k (sums xs)) _ (elem-sums k xs b)) (or_cases (eqb k x) (elem k xs) t))

-- a word that is no sum of the entries' words has no entry
pub fresh : (k : ℕ) (rows : List Entry) → elem k (sums (words rows)) ≡ false → find k rows ≡ none
fresh k rows f =
    none_find k rows (λ x m e. true≢false (sym (T→true _ (elem-sums k (words rows) (subst⁻¹ (λ (w : ℕ). T (elem w (words rows))) e (mem_elem x rows m)))) ∙ f))

-- ---- the relation

pub record Holds (n r : ℕ) (b : Bucket) (rows : List Entry) : Type 0 where
  pub matrix : List ℕ
  pub sound : Sound n matrix b
  pub lives : Perm (chosen b.mark matrix) (words rows)
  pub plans : (e : Entry) → Memᴰ e rows → lookup b e.word ≡ e.plan
  pub wide : length b.sols ≡ r
  pub distinct : Distinct rows

pub holds_empty : (n r : ℕ) → Holds n r (empty_bucket n r) []
unfolding empty_bucket
holds_empty n r = record {
  matrix = units n;
  sound = empty_sound n r;
  lives = subst⁻¹ (λ (l : List ℕ). Perm l []) (chosen_none (units n)) ∣ Permᴰ.nil ∣₁;
  plans = λ e m. absurd (Memᴰ.not-nil m);
  wide = length-replicate r 0;
  distinct = tt;
}

pub holds_perm : {n r : ℕ} {b : Bucket} {rows qs : List Entry} → Holds n r b rows → Permᴰ rows qs → Holds n r b qs
holds_perm h s = record {
  matrix = h.matrix;
  sound = h.sound;
  lives = Perm.trans h.lives ∣ Permᴰ.map (λ (e : Entry). e.word) s ∣₁;
  plans = λ e m. h.plans e (mem_perm s e m);
  wide = h.wide;
  distinct = distinct_perm s h.distinct;
}

module _ {n r : ℕ} {b : Bucket} {rows : List Entry} (h : Holds n r b rows) where
  pub live-elem : (k : ℕ) → k < 2 ^ n → live n k b ≡ elem k (words rows)
  live-elem k l = live_test n h.matrix b h.sound k l ∙ elem_perm k h.lives

  pub holds-find : (k : ℕ) → k < 2 ^ n → plan_of n k b ≡ find k rows
  holds-find k l = go (find k rows) refl
    where
      go : (o : Option ℕ) → find k rows ≡ o → plan_of n k b ≡ o
      go none f = cond_false (some (lookup b k)) none (live-elem k l ∙ find_out k rows f)
      go (some p) f =
          cond_true (some (lookup b k)) none (live-elem k l ∙ T→true _ (find-elem k p rows f))
          ∙ ap some (h.plans (record { word = k; plan = p }) (find_mem k p rows f))

  -- the row of an entry
  pub row-of : (x : Entry) → Memᴰ x rows → (i : ℕ) × (i < n) × (bit i b.mark ≡ 1) × (get_or h.matrix i 0 ≡ x.word)
  unfolding Row
  row-of x m =
      let r = elem→row x.word b.mark h.matrix (subst⁻¹ T (elem_perm x.word h.lives) (mem_elem x rows m)) in
      (r.0, subst (λ (z : ℕ). r.0 < z) h.sound.inverse.rows r.1, r.2, r.3)

  depends : (k : ℕ) → elem k (sums (words rows)) ≡ elem k (sums (chosen b.mark h.matrix))
  depends k = sym (sums_perm h.lives k)

  pub holds_none : (e : Entry) → e.word < 2 ^ n → elem e.word (sums (words rows)) ≡ true → add n e.word e.plan b ≡ None
  holds_none e l t = add-depends n h.matrix b h.sound e.word e.plan l (true→T (sym (depends e.word) ∙ t))

  -- a word that does not depend
  pub holds-add : (e : Entry) → e.word < 2 ^ n → e.plan < 2 ^ r → elem e.word (sums (words rows)) ≡ false
      → (c : Bucket) × (add n e.word e.plan b ≡ Some c) × Holds n r c (e ∷ rows) × (c.bound ≡ b.bound)
  unfolding add_at
  holds-add e l q f = (add_at i k e.plan b, g.result, held, refl)
    where
      k : ℕ
      k = e.word

      g : Goes n k e.plan b
      g = add_goes n h.matrix b h.sound k e.plan l (false→T (sym (depends k) ∙ f))

      i : ℕ
      i = g.row

      fits : e.plan < 2 ^ length b.sols
      fits = subst⁻¹ (λ (m : ℕ). e.plan < 2 ^ m) h.wide q

      others : (x : Entry) → Memᴰ x rows → lookup (add_at i k e.plan b) x.word ≡ x.plan
      others x m =
          let r = row-of x m in
          let ne : i ≡ r.0 → ⊥ = (λ z. let y : bit i b.mark ≡ 1 = ap (λ (j : ℕ). bit j b.mark) z ∙ r.2 in let y0 = g.was_free in omega arith) in
          subst (λ (v : ℕ). lookup (add_at i k e.plan b) v ≡ lookup b v) r.3
          (add-others n h.matrix b i k e.plan h.sound g.row_lt l g.was_free g.has-bit fits r.0 r.1 ne)
          ∙ h.plans x m

      held : Holds n r (add_at i k e.plan b) (e ∷ rows)
      held = record {
        matrix = set h.matrix i k;
        sound = add-sound n h.matrix b i k e.plan h.sound g.row_lt l g.was_free g.has-bit;
        lives = Perm.trans ∣ add-live n h.matrix b i k e.plan h.sound g.row_lt l g.was_free g.has-bit ∣₁ (Perm.cons k h.lives);
        plans = λ x m. ⊎_elim
            (λ (z : x ≡ e). subst⁻¹ (λ (y : Entry). lookup (add_at i k e.plan b) y.word ≡ y.plan) z (add-plan n h.matrix b i k e.plan h.sound g.row_lt l g.was_free g.has-bit fits))
            (others x) (Memᴰ.cases_cons m);
        wide = length-sol_step _ _ b.sols ∙ h.wide;
        distinct = (fresh k rows f, h.distinct);
      }

  module _ (k p : ℕ) (l : k < 2 ^ n) (f : find k rows ≡ some p) where
    abbrev row : (i : ℕ) × (i < n) × (bit i b.mark ≡ 1) × (get_or h.matrix i 0 ≡ k)
    row = row-of (record { word = k; plan = p }) (find_mem k p rows f)

    abbrev at : ℕ
    at = row.0

    found-row : count_trailing_zeros n (product b.cols k) ≡ at
    found-row = ap (count_trailing_zeros n) (ap (product b.cols) (sym row.3) ∙ h.sound.inverse.unit at row.1) ∙ tz_pow n at row.1

    parts : Permᴰ rows (record { word = k; plan = p } ∷ remove k rows)
    parts = remove_perm k p rows f

    rest : (x : Entry) → Memᴰ x (remove k rows) → Memᴰ x rows
    rest x m = mem_perm parts x (Memᴰ.tail m)

    is_live : live n k b ≡ true
    is_live = live-elem k l ∙ T→true _ (find-elem k p rows f)

    row_is : row_of n k b ≡ Some at
    unfolding live row_of
    row_is = cond_true (Some (count_trailing_zeros n (product b.cols k))) None is_live ∙ ap Some found-row

    withdraw_is : withdraw n k b ≡ Some (withdraw_at n at k b)
    unfolding withdraw
    withdraw_is = ap (option_map (λ i. withdraw_at n i k b)) row_is

    withdraw-at : Holds n r (withdraw_at n at k b) (remove k rows)
    unfolding withdraw_at Row
    withdraw-at = record {
      matrix = left;
      sound = withdraw-sound n h.matrix b at k h.sound row.1 row.3 row.2;
      lives = lives_on;
      plans = λ x m.
          let r = elem→row x.word (withdraw_at n at k b).mark left (subst⁻¹ T (elem_perm x.word lives_on) (mem_elem x (remove k rows) m)) in
          subst (λ (v : ℕ). lookup (withdraw_at n at k b) v ≡ lookup b v) r.3 (withdraw-others n h.matrix b at k h.sound row.1 row.3 row.2 r.0 r.2) ∙ h.plans x (rest x m);
      wide = length-sol_step _ _ b.sols ∙ h.wide;
      distinct = (distinct_perm parts h.distinct).1;
    }
      where
        left : List ℕ
        left = left-rows n h.matrix b at k h.sound row.1 row.3 row.2

        lives_on : Perm (chosen (withdraw_at n at k b).mark left) (words (remove k rows))
        lives_on = Perm.cons_inv (Perm.trans (Perm.symm (withdraw-live n h.matrix b at k h.sound row.1 row.3 row.2))
            (Perm.trans h.lives ∣ Permᴰ.map (λ (e : Entry). e.word) parts ∣₁))

    pub holds-withdraw : Holds n r (without n k b) (remove k rows)
    holds-withdraw = subst⁻¹ (λ (c : Optional Bucket). Holds n r (unwrap_or c b) (remove k rows)) withdraw_is withdraw-at

    pub withdraw-bound : (without n k b).bound ≡ b.bound
    unfolding withdraw_at
    withdraw-bound = ap (λ (c : Optional Bucket). (unwrap_or c b).bound) withdraw_is

    module _ (q : ℕ) (hq : q < 2 ^ r) where
      change-at : Holds n r (change_at at k q b) (record { word = k; plan = q } ∷ remove k rows)
      unfolding change_at
      change-at = record {
        matrix = h.matrix;
        sound = record {
          inverse = h.sound.inverse;
          free = h.sound.free;
          mark_lt = h.sound.mark_lt;
          clear = clear_step n b.mark h.matrix b.cols b.sols h.sound.inverse h.sound.free at _ row.1 row.2 h.sound.clear;
        };
        lives = Perm.trans h.lives ∣ Permᴰ.map (λ (e : Entry). e.word) parts ∣₁;
        plans = λ x m. ⊎_elim
            (λ (z : x ≡ record { word = k; plan = q }). subst⁻¹ (λ (y : Entry). product (sol_step (get_or b.cols at 0) (bit_xor (lookup b k) q) b.sols) y.word ≡ y.plan) z
            (subst (λ (v : ℕ). product (sol_step (get_or b.cols at 0) (bit_xor (lookup b v) q) b.sols) v ≡ q) row.3
            (plan-set n h.matrix b.cols b.sols h.sound.inverse at row.1 q fits)))
            (λ r. other x r) (Memᴰ.cases_cons m);
        wide = length-sol_step _ _ b.sols ∙ h.wide;
        distinct = distinct_perm parts h.distinct;
      }
        where
          fits : q < 2 ^ length b.sols
          fits = subst⁻¹ (λ (m : ℕ). q < 2 ^ m) h.wide hq

          other : (x : Entry) → Memᴰ x (remove k rows) → product (sol_step (get_or b.cols at 0) (bit_xor (lookup b k) q) b.sols) x.word ≡ x.plan
          other x m =
              let r = row-of x (rest x m) in
              let ne : at ≡ r.0 → ⊥ = (λ z. find_none k (remove k rows) (distinct_perm parts h.distinct).0 x m (sym row.3 ∙ ap (λ (j : ℕ). get_or h.matrix j 0) z ∙ r.3)) in
              subst (λ (u : ℕ). product (sol_step (get_or b.cols at 0) (bit_xor (lookup b k) q) b.sols) u ≡ product b.sols u) r.3
              (plan-kept n h.matrix b.cols b.sols h.sound.inverse at row.1 _ r.0 r.1 ne)
              ∙ h.plans x (rest x m)

      change_is : change n k q b ≡ Some (change_at at k q b)
      unfolding change
      change_is = ap (option_map (λ i. change_at i k q b)) row_is

      pub holds-change : Holds n r (changed n k q b) (update (record { word = k; plan = q }) rows)
      holds-change =
          subst⁻¹ (λ (c : Optional Bucket). Holds n r (unwrap_or c b) (update (record { word = k; plan = q }) rows)) change_is
          (holds_perm change-at (Permᴰ.symm (update_perm (record { word = k; plan = q }) p rows f)))

      pub change-bound : (changed n k q b).bound ≡ b.bound
      unfolding change_at
      change-bound = ap (λ (c : Optional Bucket). (unwrap_or c b).bound) change_is
