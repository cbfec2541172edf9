-- Statement 2's half of the plane: a plane that was written from a table and is read again gives, for every identifier, the answer of
-- the table's own solution words or base list; so a live word's plan.
-- Assumes nothing.
use mathlib.Core.Path.{◌≡◌, refl, ap, ◌∙◌}
use mathlib.Core.Bool.{Bool, true, false, cond}
use mathlib.Core.List.{List, [], ◌∷◌, map}
use mathlib.Core.Option.{Option, none, some}
use Prim.Native.Nat.{ℕ, suc, suc-le-suc, ◌/◌, ◌^◌, ◌≤◌, ◌<◌}
use native.Mathlib.Nat.{mod-lt, zero-lt-suc, lt_of_lt_of_le}
use native.Mathlib.Omega.{arith}
use lib.ListN.{length, get_or, length-map}
use Rattle.std.specs.Prelude.{Some, None}
use Rattle.std.specs.Option.{unwrap_or}
use Rattle.lists.proofs.Keep.{get_d_map_in}
use Rattle.lists.proofs.Entries.{none≢some}
use Rattle.lists.specs.Lists.{Every}
use Rattle.lists.proofs.Every.{every_append, mem_every, all-every}
use Rattle.gf2.proofs.Clear.{clear_le}
use Rattle.hash.specs.Mix.{mix_of}
use Rattle.identifier.specs.Place.{thresholds, second_of, bucket_at}
use Rattle.bucket.specs.declared.Bucket.{Bucket}
use Rattle.bucket.specs.Bucket.{live, lookup}
use Rattle.bucket_settle.specs.Settle.{SoundBucket, plan_of}
use Rattle.table.specs.Table as C
use Rattle.table.specs.Table.{Table}
use Rattle.table.specs.Layout.{buckets1_at, buckets2_at, in_range, table_from}
use Rattle.table.specs.Sound.{SoundTable}
use Rattle.table.proofs.Numbers.{header_read}
use Rattle.table.proofs.Sound.{base_given}
use Rattle.plane.specs.Record.{Format, word_bytes}
use Rattle.plane.specs.Lookup.{bucket_of, level_plan, or_desk, second_plan, plan_from}
use Rattle.plane.specs.Fits.{Below, FitsBucket, FitsEntry, Fits}
use Rattle.plane_write.specs.Write.{seen_of, plane_of, shown_plan}

-- ---- the plan of a word

or_held : (b : Bool) (p q : ℕ) → unwrap_or (cond b (Some p) None) q ≡ cond b p q
or_held true p q = refl
or_held false p q = refl

-- a choice that is some p
picked : (b : Bool) (x y : Option ℕ) (u v p : ℕ) → (x ≡ some p → u ≡ p) → (y ≡ some p → v ≡ p) → cond b x y ≡ some p → cond b u v ≡ p
picked true x y u v p f g = f
picked false x y u v p f g = g

pub live-plan : (l : Bool) (a p : ℕ) → cond l (some a) none ≡ some p → a ≡ p
live-plan true a p e = cc
live-plan false a p e = absurd (none≢some e)

module _ (n r : ℕ) where
  -- the bucket of v in the plane is that of the table
  seen-bucket : (bs : List Bucket) (v : ℕ) → 0 < length bs → bucket_of (map seen_of bs) v ≡ seen_of (C.bucket_of n r mix_of bs v)
  seen-bucket bs v h = rw (length-map bs seen_of) (get_d_map_in seen_of bs (bucket_at (length bs) (mix_of v)) _ _ (mod-lt (mix_of v / thresholds) h))

  seen-plan : (bs : List Bucket) (v q : ℕ) → 0 < length bs → unwrap_or (level_plan (map seen_of bs) v) q ≡ cond (C.holds n r mix_of bs v) (lookup (C.bucket_of n r mix_of bs v) v) q
  unfolding level_plan
  seen-plan bs v q h = rw (seen-bucket bs v h) (or_held (C.holds n r mix_of bs v) (lookup (C.bucket_of n r mix_of bs v) v) q)

  pub shown : (T : Table) (w : ℕ) → 0 < length T.level1 → 0 < length T.level2 → plan_from (plane_of T) w ≡ shown_plan n r T w
  unfolding plan_from second_plan
  shown T w h1 h2 = seen-plan T.level1 w _ h1 ∙ ap (λ (q : ℕ). cond (C.holds n r mix_of T.level1 w) (lookup (C.bucket_of n r mix_of T.level1 w) w) q) (seen-plan T.level2 (second_of w) _ h2)

  -- a live word's plan is the one that is shown
  pub live_shown : (T : Table) (w p : ℕ) → C.plan_in n r mix_of T w ≡ some p → shown_plan n r T w ≡ p
  live_shown T w p =
      let plan : (bs : List Bucket) (v : ℕ) → plan_of n v (C.bucket_of n r mix_of bs v) ≡ some p → lookup (C.bucket_of n r mix_of bs v) v ≡ p =
      λ bs v. live-plan (live n v (C.bucket_of n r mix_of bs v)) (lookup (C.bucket_of n r mix_of bs v) v) p in
      picked (C.holds n r mix_of T.level1 w) _ _ _ _ p (plan T.level1 w)
      (picked (C.holds n r mix_of T.level2 (second_of w)) _ _ _ _ p (plan T.level2 (second_of w)) (ap or_desk))

-- ---- the plane of a sound table fits

module _ (n : ℕ) (F : Format) where
  abbrev r : ℕ
  r = F.words

  module _ (hn : 2 ^ n ≤ 256 ^ word_bytes) where
    -- the solution words are not above the mark
    level_fits : (bs : List Bucket) → ((i : ℕ) → i < length bs → SoundBucket n r (C.nth n r bs i)) → Every (FitsBucket F) (map seen_of bs)
    level_fits [] s = tt
    level_fits (b ∷ bs) s =
        let b0 = s 0 (zero-lt-suc (length bs)) in
        let low : (c : ℕ) → get_or b.sols c 0 < 256 ^ word_bytes = (λ c. omega (arith, hn, clear_le b.mark b.sols b0.sound.clear c, b0.sound.mark_lt)) in
        (record { low = b0.low; wide = b0.wide; words = all-every (Below word_bytes) 0 b.sols low }, level_fits bs (λ i l. s (suc i) (suc-le-suc l)))

    pub plane-fits : (xs : List ℕ) (U : ℕ → ℕ) → in_range (get_or xs buckets1_at 0) (get_or xs buckets2_at 0) ≡ true → SoundTable n r mix_of U (table_from n r xs) → Fits F (plane_of (table_from n r xs))
    plane-fits xs U g h =
        let t : Table = table_from n r xs in
        record {
          range = rw (length-map t.level1 seen_of, length-map t.level2 seen_of, (header_read n r xs).0, (header_read n r xs).1) g;
          few = h.fits;
          buckets = every_append (FitsBucket F) (map seen_of t.level1) (map seen_of t.level2) (level_fits t.level1 h.level1.buckets) (level_fits t.level2 h.level2.buckets);
          entries = mem_every FitsEntry t.base (λ e m. record { word = lt_of_lt_of_le (h.base-words e m).0 hn; plan = base_given n r mix_of U t h e m });
          ascending = h.ascending;
        }
