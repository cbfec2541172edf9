-- What the buckets of a sound table answer to any vector: the XOR of plans of live words; and that a word that was withdrawn leaves nothing
-- of its plan. Document 02, order 6, at every number of rows and of solution words; S is the mix, U its inverse.
-- Assumes nothing.
use Prim.Native.Nat.{ℕ, ◌-◌, ◌/◌, ◌^◌, ◌<◌}
use native.Mathlib.Nat.{mod-lt}
use mathlib.Core.Path.{◌≡◌, refl, sym, ap, ap₂, ◌∙◌, subst⁻¹}
use mathlib.Core.Bool.{true}
use mathlib.Core.Option.{Option, none, some}
use mathlib.Core.List.{List}
use lib.Dec.{ltb}
use lib.ListN.{length, get_or, set, length-set}
use lib.Seq.{get_or-set_same, set-set}
use borrow.Author.Tests.{lt-ltb}
use Rattle.lists.specs.Entries.{Entry}
use Rattle.lists.specs.Totals.{one_more, one_less}
use Rattle.lists.proofs.Tests.{cases, cond_true, cond_false}
use Rattle.lists.proofs.Entries.{none≢some, remove-update}
use Rattle.lists.proofs.Totals.{less_more}
use Rattle.gf2.specs.Vectors.{Clear}
use Rattle.identifier.specs.Place.{thresholds}
use Rattle.bucket.specs.declared.Bucket.{Bucket}
use Rattle.bucket.specs.Bucket.{empty_bucket, lookup, live, row_of, change_at, change, changed as with_plan, without}
use Rattle.std.specs.Prelude.{Option as Optional, Some, None, option_map, unwrap_or}
use Rattle.bucket.proofs.Answers.{answers-combined, row-live, plan_forgotten}
use Rattle.bucket_settle.specs.Settle.{plan_of}
use Rattle.table.specs.Table.{Table, with_first, with_second, with_base, with_count, with_totals, thr, index, second, put, nth, bucket_of, holds, plan_in, changed_in, withdrawn_from}
use Rattle.table.specs.Sound.{Row, SoundLevel, SoundTable}
use Rattle.table.specs.Answers.{Answered}

module _ (n r : ℕ) (S : ℕ → ℕ) (bs : List Bucket) (h : SoundLevel n r S bs) where
  -- "row j of Z is 0 for each free row j"
  pub rows-clear : (i : ℕ) → i < length bs → Clear (nth n r bs i).mark (nth n r bs i).sols
  rows-clear i l = (h.buckets i l).sound.clear

  index_lt : (v : ℕ) → index S (length bs) v < length bs
  index_lt v = mod-lt (S v / thresholds) h.some

  -- an occupied row is held by its level, and the bucket gives its plan
  module _ (i v : ℕ) (q : Row n r bs i v) where
    row_here : bucket_of n r S bs v ≡ nth n r bs i
    row_here = ap (nth n r bs) (h.here i v q)

    row-held : holds n r S bs v ≡ true
    row-held = lt-ltb _ _ (subst⁻¹ (λ (b : Bucket). thr S v < b.bound) row_here (h.low i v q))

    row-plan : plan_of n v (bucket_of n r S bs v) ≡ some (lookup (nth n r bs i) v)
    row-plan = ap (plan_of n v) row_here ∙ cond_true (some (lookup (nth n r bs i) v)) none q.is_live

  -- so a bucket's answer is the XOR of plans, where `plan` gives those of its rows
  level_answered : (plan : ℕ → Option ℕ) → ((i v : ℕ) → Row n r bs i v → plan v ≡ some (lookup (nth n r bs i) v))
      → (v : ℕ) → v < 2 ^ n → Answered n plan (bucket_of n r S bs v) v (lookup (bucket_of n r S bs v) v)
  level_answered plan f v l =
      let i : ℕ = index S (length bs) v in
      let s = (h.buckets i (index_lt v)).sound in
      let K : List ℕ = (h.buckets i (index_lt v)).matrix in
      record {
        matrix = K;
        sound = s;
        answer = answers-combined n K (nth n r bs i) s v l;
        plans = λ a m. f i (get_or K a 0) (record { bucket_lt = index_lt v; vector_lt = s.inverse.rows_lt a; is_live = row-live n K (nth n r bs i) s a m });
      }

-- the same, where the plans are told in another way
pub answered_as : (n : ℕ) (f g : ℕ → Option ℕ) → ((v : ℕ) → v < 2 ^ n → g v ≡ f v) → {b : Bucket} {v x : ℕ} → Answered n f b v x → Answered n g b v x
answered_as n f g e a = record { matrix = a.matrix; sound = a.sound; answer = a.answer; plans = λ i m. e (get_or a.matrix i 0) (a.sound.inverse.rows_lt i) ∙ a.plans i m }

module _ (n r : ℕ) (S U : ℕ → ℕ) (T : Table) (h : SoundTable n r S U T) where
  -- level 1: a vector is a word
  pub answered_first : (v : ℕ) → v < 2 ^ n → Answered n (plan_in n r S T) (bucket_of n r S T.level1 v) v (lookup (bucket_of n r S T.level1 v) v)
  answered_first =
      level_answered n r S T.level1 h.level1 (plan_in n r S T)
      (λ i v q. cond_true _ _ (row-held n r S T.level1 h.level1 i v q) ∙ row-plan n r S T.level1 h.level1 i v q)

  -- level 2: the word of the vector v is U (U v)
  pub answered_second : ((v : ℕ) → v < 2 ^ n → second S (U (U v)) ≡ v) → (v : ℕ) → v < 2 ^ n
      → Answered n (λ v. plan_in n r S T (U (U v))) (bucket_of n r S T.level2 v) v (lookup (bucket_of n r S T.level2 v) v)
  answered_second back =
      level_answered n r S T.level2 h.level2 (λ v. plan_in n r S T (U (U v)))
      (λ i v q.
      let e = back v q.vector_lt in
      cond_false _ _ (h.passed i v q) ∙ cond_true _ _ (ap (holds n r S T.level2) e ∙ row-held n r S T.level2 h.level2 i v q)
      ∙ ap (λ (x : ℕ). plan_of n x (bucket_of n r S T.level2 x)) e ∙ row-plan n r S T.level2 h.level2 i v q)

-- ---- a word that was withdrawn: the plan that it had makes no difference

live_of : (n v q : ℕ) (b : Bucket) → plan_of n v b ≡ some q → live n v b ≡ true
live_of n v q b e = cases (live n v b) (λ t. t) (λ f. absurd (none≢some (sym (cond_false (some (lookup b v)) none f) ∙ e)))

module _ (n r : ℕ) (S : ℕ → ℕ) (bs : List Bucket) (h : SoundLevel n r S bs) (v p q : ℕ) (hp : p < 2 ^ r) (e : plan_of n v (bucket_of n r S bs v) ≡ some q) where
  abbrev here : Bucket
  here = bucket_of n r S bs v

  -- the level with another plan for v
  abbrev changed : List Bucket
  changed = put S bs v (with_plan n v p here)

  same_index : index S (length changed) v ≡ index S (length bs) v
  same_index = ap (λ (m : ℕ). index S m v) (length-set bs (index S (length bs) v) (with_plan n v p here))

  changed-here : bucket_of n r S changed v ≡ (with_plan n v p here)
  changed-here =
      ap (nth n r changed) same_index ∙ get_or-set_same bs (index S (length bs) v) (with_plan n v p here) (empty_bucket n r) (index_lt n r S bs h v)

  same-bound : (with_plan n v p here).bound ≡ here.bound
  unfolding change change_at
  same-bound = go (row_of n v here)
    where
      go : (o : Optional ℕ) → (unwrap_or (option_map (λ i. change_at i v p here) o) here).bound ≡ here.bound
      go None = refl
      go (Some i) = refl

  still_held : holds n r S changed v ≡ holds n r S bs v
  still_held = ap (λ (b : Bucket). ltb (thr S v) b.bound) changed-here ∙ ap (ltb (thr S v)) same-bound

  level_forgotten : put S changed v (without n v (bucket_of n r S changed v)) ≡ put S bs v (without n v here)
  level_forgotten =
      let s = h.buckets (index S (length bs) v) (index_lt n r S bs h v) in
      let same : (without n v (bucket_of n r S changed v)) ≡ (without n v here) =
      ap (λ (b : Bucket). without n v b) changed-here
      ∙ plan_forgotten n here v p s.sound.inverse.cols s.sound.inverse.cols_lt (live_of n v q here e) (subst⁻¹ (λ (m : ℕ). p < 2 ^ m) s.wide hp) in
      ap₂ (λ (i : ℕ) (b : Bucket). set changed i b) same_index same
      ∙ set-set bs (index S (length bs) v) (with_plan n v p here) (without n v here)

module _ (n r : ℕ) (S U : ℕ → ℕ) (T : Table) (h : SoundTable n r S U T) (w p q : ℕ) (hp : p < 2 ^ r) (e : plan_in n r S T w ≡ some q) where
  abbrev v : ℕ
  v = second S w

  -- the totals of the table with another plan for w, and of both without w
  abbrev moved : List ℕ
  moved = one_more p (one_less q T.totals)

  pub table_forgotten : withdrawn_from n r S (changed_in n r S T w p q) w p ≡ withdrawn_from n r S T w q
  table_forgotten =
      cases (holds n r S T.level1 w)
      (λ a.
      let f = sym (cond_true _ _ a) ∙ e in
      ap (λ (X : Table). withdrawn_from n r S (with_totals X moved) w p) (cond_true _ _ a)
      ∙ ap finished (cond_true _ _ (still_held n r S T.level1 h.level1 w p q hp f ∙ a))
      ∙ ap₂ (λ (bs : List Bucket) (ts : List ℕ). with_totals (with_count (with_first T bs) (T.count - 1)) ts) (level_forgotten n r S T.level1 h.level1 w p q hp f) totals_back
      ∙ ap gone (sym (cond_true _ _ a)))
      (λ a.
      let g = sym (cond_false _ _ a) ∙ e in
      cases (holds n r S T.level2 v)
      (λ c.
      let f = sym (cond_true _ _ c) ∙ g in
      ap (λ (X : Table). withdrawn_from n r S (with_totals X moved) w p) (cond_false _ _ a ∙ cond_true _ _ c)
      ∙ ap finished (cond_false _ _ a ∙ cond_true _ _ (still_held n r S T.level2 h.level2 v p q hp f ∙ c))
      ∙ ap₂ (λ (bs : List Bucket) (ts : List ℕ). with_totals (with_count (with_second T bs) (T.count - 1)) ts) (level_forgotten n r S T.level2 h.level2 v p q hp f) totals_back
      ∙ ap gone (sym (cond_false _ _ a ∙ cond_true _ _ c)))
      (λ c.
      ap (λ (X : Table). withdrawn_from n r S (with_totals X moved) w p) (cond_false _ _ a ∙ cond_false _ _ c)
      ∙ ap finished (cond_false _ _ a ∙ cond_false _ _ c)
      ∙ ap₂ (λ (es : List Entry) (ts : List ℕ). with_totals (with_count (with_base T es) (T.count - 1)) ts) (remove-update (record { word = v; plan = p }) T.base) totals_back
      ∙ ap gone (sym (cond_false _ _ a ∙ cond_false _ _ c))))
    where
      totals_back : one_less p moved ≡ one_less q T.totals
      totals_back = less_more p (one_less q T.totals)

      finished : Table → Table
      finished X = with_totals (with_count X (T.count - 1)) (one_less p moved)

      gone : Table → Table
      gone X = with_totals (with_count X (T.count - 1)) (one_less q T.totals)
