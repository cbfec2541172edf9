-- One bucket, or the base list, of a table is read or written where it lies: what that does to the numbers. At every number n of rows and r of
-- solution words and for any mix S; then of a table that is sound, at 64 and 8.
-- Assumes nothing.
use Prim.Native.Nat.{ℕ, suc, ◌+◌, ◌-◌, ◌*◌, ◌^◌, ◌≤◌, ◌<◌}
use native.Mathlib.Omega.{arith}
use mathlib.Core.Path.{◌≡◌, sym, ap, ap₂, ◌∙◌, subst}
use mathlib.Core.Bool.{true, false, cond}
use mathlib.Core.List.{List, [], ◌∷◌, ◌++◌}
use mathlib.Core.Option.{Option, none, some}
use lib.Count.{ones-le}
use lib.ListN.{length, get_or, set, take, drop}
use borrow.Rule.Slice.PartMut.{put_mid, Post-is}
use Rattle.lists.specs.Entries.{Entry, find}
use Rattle.lists.proofs.Tests.{cond_true, cond_false}
use Rattle.bucket.specs.declared.Bucket.{Bucket}
use Rattle.std.specs.Prelude.{is_some}
use Rattle.bucket.specs.Bucket.{row_of, lookup}
use Rattle.bucket.proofs.Laws.{live-row}
use Rattle.bucket_words.specs.Words.{bucket_words, words_of, bucket_from}
use Rattle.bucket_settle.specs.Settle.{SoundBucket, plan_of}
use Rattle.model.specs.Model.{base_limit}
use Rattle.table.specs.Table.{Table, with_second, with_base, second, index, put, nth, bucket_of, holds, plan_in, touch}
use Rattle.table.specs.Layout.{buckets1_at, buckets2_at, base_count_at, header, base_pairs, pairs_from, numbers_of, table_from, bucket_place}
use Rattle.table.specs.Content.{occupied}
use Rattle.table.specs.Calls.{rows, solutions, table_of}
use Rattle.table.proofs.Numbers.{header_read, forth}
use Rattle.table.proofs.Calls.{sound-shaped, sound_laid}
use Rattle.table_layout.proofs.Shape.{Flat, shape, part-bucket, first-here, second-here, first_stored, second_stored, last_is, last_read, last-put}
use Rattle.table_base.specs.Base.{Pairs}
use Rattle.table_edit.specs.Ready.{Ready}

module _ (n r : ℕ) (S : ℕ → ℕ) (xs : List ℕ) (h : Flat n r xs) where
  abbrev T : Table
  T = table_from n r xs

  abbrev b1 : ℕ
  b1 = get_or xs buckets1_at 0

  abbrev b2 : ℕ
  b2 = get_or xs buckets2_at 0

  abbrev k : ℕ
  k = get_or xs base_count_at 0

  abbrev W : ℕ
  W = bucket_words n r

  -- from the base list on
  abbrev tail_at : ℕ → List ℕ
  tail_at p = take (length xs - p) (drop p xs)

  pub base-pairs : (p : ℕ) → p ≡ bucket_place n r (b1 + b2) → Pairs base_limit k (tail_at p)
  base-pairs p e = record { fits = subst (λ (c : ℕ). c ≤ base_limit) (header_read n r xs).2 h.whole.fits; rest = last_is n r xs h p e ∙ ap base_pairs (sym (last_read n r xs h p e)) }

  -- ---- the plan of a word

  -- where level 1 does not hold it
  abbrev passed : ℕ → Option ℕ
  passed v = cond (holds n r S T.level2 v) (plan_of n v (bucket_of n r S T.level2 v)) (find v T.base)

  module _ (w : ℕ) where
    pub plan-first : holds n r S T.level1 w ≡ true → (p : ℕ) → p ≡ bucket_place n r (index S b1 w) → plan_of n w (bucket_from n r (drop p xs)) ≡ plan_in n r S T w
    plan-first on p q = ap (plan_of n w) (first-here n r xs h.shape S w p q) ∙ sym (cond_true _ _ on)

    module _ (off : holds n r S T.level1 w ≡ false) (v : ℕ) (e : v ≡ second S w) where
      past_first : passed v ≡ plan_in n r S T w
      past_first = ap passed e ∙ sym (cond_false _ _ off)

      pub plan-second : holds n r S T.level2 v ≡ true → (p : ℕ) → p ≡ bucket_place n r (b1 + index S b2 v) → plan_of n v (bucket_from n r (drop p xs)) ≡ plan_in n r S T w
      plan-second on p q = ap (plan_of n v) (second-here n r xs h.shape S v p q) ∙ sym (cond_true _ _ on) ∙ past_first

      pub plan-base : holds n r S T.level2 v ≡ false → (p : ℕ) → p ≡ bucket_place n r (b1 + b2) → find v (pairs_from k (tail_at p)) ≡ plan_in n r S T w
      plan-base out p q = ap (find v) (last_read n r xs h p q) ∙ sym (cond_false _ _ out) ∙ past_first

  -- ---- the numbers

  module _ (w : ℕ) (f : ℕ → Bucket → Bucket) (g : ℕ → List Entry → List Entry) where
    abbrev touched : Table
    touched = touch n r S T w f g

    -- a stretch that is v's bucket b is written
    written : (v p : ℕ) (b : Bucket) (ys : List ℕ) → bucket_from n r (drop p xs) ≡ b → ys ≡ words_of (f v (bucket_from n r (take (p + W - p) (drop p xs))))
        → put_mid p (p + W - p) xs ys ≡ take p xs ++ (words_of (f v b) ++ drop (p + W) xs)
    written v p b ys e q = ap₂ (λ (l m : List ℕ). take p xs ++ (l ++ m)) (q ∙ ap (λ (c : Bucket). words_of (f v c)) (part-bucket n r xs p ∙ e)) (Post-is p (p + W) xs (omega arith))

    -- where level 1 does not hold it
    abbrev passing : ℕ → Table
    passing v =
        cond (holds n r S T.level2 v) (with_second T (put S T.level2 v (f v (bucket_of n r S T.level2 v)))) (with_base T (g v T.base))

    pub touched-first : holds n r S T.level1 w ≡ true → (p : ℕ) → p ≡ bucket_place n r (index S b1 w)
        → (ys : List ℕ) → ys ≡ words_of (f w (bucket_from n r (take (p + W - p) (drop p xs)))) → put_mid p (p + W - p) xs ys ≡ numbers_of touched
    touched-first on p e ys q = written w p _ ys (first-here n r xs h.shape S w p e) q ∙ first_stored n r xs h S w p e _ ∙ sym (ap numbers_of (cond_true _ _ on))

    module _ (off : holds n r S T.level1 w ≡ false) (v : ℕ) (d : v ≡ second S w) where
      passing_is : touched ≡ passing v
      passing_is = cond_false _ _ off ∙ ap passing (sym d)

      pub touched-second : holds n r S T.level2 v ≡ true → (p : ℕ) → p ≡ bucket_place n r (b1 + index S b2 v)
          → (ys : List ℕ) → ys ≡ words_of (f v (bucket_from n r (take (p + W - p) (drop p xs)))) → put_mid p (p + W - p) xs ys ≡ numbers_of touched
      touched-second on p e ys q = written v p _ ys (second-here n r xs h.shape S v p e) q ∙ second_stored n r xs h S v p e _ ∙ sym (ap numbers_of (passing_is ∙ cond_true _ _ on))

      -- the base list and its count
      pub touched-base : holds n r S T.level2 v ≡ false → (p : ℕ) → p ≡ bucket_place n r (b1 + b2) → (ys : List ℕ) (c : ℕ)
          → ys ≡ base_pairs (g v (pairs_from k (tail_at p))) → c ≡ length (g v (pairs_from k (tail_at p))) → set (put_mid p (length xs - p) xs ys) base_count_at c ≡ numbers_of touched
      touched-base out p e ys c q m =
          let own = ap (g v) (last_read n r xs h p e) in
          last-put n r xs h p e (g v T.base) ys c (q ∙ ap base_pairs own) (m ∙ ap (λ (es : List Entry). length es) own) ∙ sym (ap numbers_of (passing_is ∙ cond_false _ _ out))

-- ---- a table that is sound

occupied_few : (n r : ℕ) (bs : List Bucket) → ((i : ℕ) → i < length bs → SoundBucket n r (nth n r bs i)) → occupied bs ≤ length bs * n
occupied_few n r [] h = omega arith
occupied_few n r (b ∷ bs) h =
    omega (arith, ones-le n b.mark (h 0 (omega arith)).sound.mark_lt, occupied_few n r bs (λ i l. h (suc i) (omega arith)))

module _ {t : List ℕ} (h : Ready t) where
  pub flat_of : Flat rows solutions t
  flat_of = record { shape = shape h.shape; whole = sound-shaped (table_of t) h.sound.table; numbers = forth rows solutions t (sound_laid t h.shape h.sound) }

  pub long : header ≤ length t
  long = omega (arith, flat_of.shape.size)

  -- there is room for one more in the live count
  pub live_room : (table_of t).count + 1 < 2 ^ 64
  live_room =
      let k = h.sound.table in
      let s = flat_of.shape.range in
      omega (
        arith,
        k.counts,
        occupied_few rows solutions (table_of t).level1 k.level1.buckets,
        occupied_few rows solutions (table_of t).level2 k.level2.buckets,
        k.fits,
        (header_read rows solutions t).0,
        (header_read rows solutions t).1,
      )

-- ---- one bucket

module _ (v : ℕ) (b : Bucket) where
  pub plan-live : is_some (row_of rows v b) ≡ true → plan_of rows v b ≡ some (lookup b v)
  plan-live h = cond_true _ _ (live-row rows v b ∙ h)

  pub plan-gone : is_some (row_of rows v b) ≡ false → plan_of rows v b ≡ none
  plan-gone h = cond_false _ _ (live-row rows v b ∙ h)
