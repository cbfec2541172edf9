-- A sound bucket: what it holds and which words leave it when its bound falls, by the rows of K. What an add under the bound means.
-- Assumes nothing.
use Prim.Native.Nat.{ℕ, zero, suc, ◌+◌, ◌^◌, ◌≤◌, ◌<◌}
use native.Mathlib.Omega.{arith}
use mathlib.Core.Path.{◌≡◌, refl, sym, ap, ◌∙◌, subst, subst⁻¹}
use mathlib.Core.Bool.{false, not, ◌&&◌}
use mathlib.Core.List.Memᴰ
use mathlib.Core.List.Perm
use mathlib.Core.List.Permᴰ
use mathlib.Core.List.{List, [], ◌∷◌, ◌++◌, map, Perm, Permᴰ}
use lib.Dec.{T, T_not, eqb, ltb}
use lib.ListN.{length, set, length-append, length-map}
use Rattle.lists.specs.Lists.{keep}
use Rattle.lists.specs.Entries.{Entry, words, Distinct, Ascending}
use Rattle.lists.proofs.Tests.{cases, by_test, and_l, and_r, T→true, n_t→false, true→T, false→T}
use Rattle.lists.proofs.Keep.{keep_perm, keep-part, perm_length}
use Rattle.lists.proofs.Entries.{keep_ascending}
use Rattle.lists.proofs.Sorts.{sort_order, sort-same, ascending_distinct}
use Rattle.gf2.specs.Select.{elem, sums, indep, chosen}
use Rattle.gf2.specs.Bound.{Free, bound_of}
use Rattle.gf2.proofs.Select.{indep_cons, indep_perm}
use Rattle.gf2.proofs.Chosen.{chosen-length}
use Rattle.gf2.proofs.Depend.{occupied-indep}
use Rattle.gf2.proofs.Bound.{fall-bound}
use Rattle.gf2.proofs.Loops.{length-sol_step}
use Rattle.bucket.specs.declared.Bucket.{Bucket}
use Rattle.std.specs.Prelude.{Option as Optional, Some, None, unwrap_or}
use Rattle.bucket.specs.Bucket.{largest_bound, lookup, add_at, add}
use Rattle.bucket.proofs.Steps.{add-sound, add_goes, add-depends}
use Rattle.std.specs.Prelude.{Option, Some}
use Rattle.std.proofs.lemmas.Option.{same_Some}
use Rattle.bucket_rows.specs.Elimination.{sound_rows}
use Rattle.bucket_rows.proofs.Exact.{found_is}
use Rattle.bucket_settle.specs.Settle.{SoundBucket, listed, contents, leaving, lowered, Settlement, ahead, or_else, settle}
use Rattle.bucket_settle.specs.Steps.{leaving_of}
use Rattle.bucket_settle.proofs.Hold.{Holds, holds_perm, fresh}
use Rattle.bucket_settle.proofs.Settling.{rows_of, rows_ascending, holds-lowered, held, over, seen, under-held, settle_law}

-- ---- a sound bucket holds its rows

words-listed : (b : Bucket) (ks : List ℕ) → words (listed b ks) ≡ ks
words-listed b [] = refl
words-listed b (k ∷ ks) = ap (λ (l : List ℕ). k ∷ l) (words-listed b ks)

-- independent vectors are distinct
indep_distinct : (b : Bucket) (ks : List ℕ) → T (indep ks) → Distinct (listed b ks)
indep_distinct b [] t = tt
indep_distinct b (k ∷ ks) t =
    let u : T (indep ks && not (elem k (sums ks))) = subst T (indep_cons k ks) t in
    let out : elem k (sums ks) ≡ false = n_t→false (elem k (sums ks)) (T_not (elem k (sums ks)) (and_r (indep ks) _ u)) in
    (fresh k (listed b ks) (rw (words-listed b ks) out), indep_distinct b ks (and_l (indep ks) _ u))

module _ {n r : ℕ} {b : Bucket} where
  pub sound-listed : (h : SoundBucket n r b) → Holds n r b (listed b (chosen b.mark h.matrix))
  sound-listed h = record {
    matrix = h.matrix;
    sound = h.sound;
    lives = subst⁻¹ (Perm (chosen b.mark h.matrix)) (words-listed b (chosen b.mark h.matrix)) (Perm.refl (chosen b.mark h.matrix));
    plans = λ e m. let r = Memᴰ.of_map (λ k. record { word = k; plan = lookup b k }) (chosen b.mark h.matrix) m in subst (λ (x : Entry). lookup b x.word ≡ x.plan) r.2 refl;
    wide = h.wide;
    distinct = indep_distinct b (chosen b.mark h.matrix) (occupied-indep n h.matrix b.cols h.sound.inverse b.mark);
  }

  pub sound-holds : SoundBucket n r b → Holds n r b (contents n b)
  sound-holds h = holds_perm (sound-listed h) (Permᴰ.symm (rows_of (sound-listed h)))

  pub holds-sound : {rows : List Entry} → Holds n r b rows → b.bound ≤ largest_bound → SoundBucket n r b
  holds-sound h l = record { matrix = h.matrix; sound = h.sound; wide = h.wide; low = l }

pub contents_few : {n r : ℕ} {b : Bucket} → SoundBucket n r b → length (contents n b) ≤ n
contents_few {n} {r} {b} h =
    let f : ℕ → Entry = (λ k. record { word = k; plan = lookup b k }) in
    omega (arith, perm_length (rows_of (sound-listed h)), length-map (chosen b.mark h.matrix) f, chosen-length b.mark h.matrix, h.sound.inverse.rows)

-- ---- the bound falls

module _ {n r : ℕ} {b : Bucket} (thr : ℕ → ℕ) (t : ℕ) (h : SoundBucket n r b) where
  -- the words of threshold t, found among the rows of K
  leaving-rows : leaving_of thr t b (chosen b.mark h.matrix) ≡ leaving n thr t b
  unfolding leaving_of
  leaving-rows =
      let up : Ascending (leaving n thr t b) = keep_ascending (λ e. eqb (thr e.word) t) (contents n b) (rows_ascending n b) in
      let apart : Distinct (leaving n thr t b) = ascending_distinct (leaving n thr t b) up in
      sym (sort_order (keep_perm (λ e. eqb (thr e.word) t) (rows_of (sound-listed h))) apart) ∙ sort-same (leaving n thr t b) up apart

  -- and the elimination gives these rows
  pub rows-found : {x : Option (List ℕ)} → x ≡ sound_rows n b.mark b.cols → x ≡ Some h.matrix
  rows-found e = e ∙ found_is n b.mark b.cols h.matrix (record { inverse = h.sound.inverse; free = h.sound.free })

  pub leaving-found : (rows : List ℕ) → Some rows ≡ sound_rows n b.mark b.cols → leaving_of thr t b (chosen b.mark rows) ≡ leaving n thr t b
  leaving-found rows e =
      ap (λ (ks : List ℕ). leaving_of thr t b (chosen b.mark ks)) (same_Some rows h.matrix (rows-found e)) ∙ leaving-rows

  -- the words that stay
  abbrev staying : List Entry
  staying = keep (λ e. not (eqb (thr e.word) t)) (contents n b)

  parts : Permᴰ (contents n b) (leaving n thr t b ++ staying)
  parts = keep-part (λ e. eqb (thr e.word) t) (contents n b)

  lower : Holds n r (lowered n thr t b) staying
  lower = holds-lowered thr t (sound-holds h) parts

  pub lowered-sound : t ≤ largest_bound → SoundBucket n r (lowered n thr t b)
  lowered-sound = holds-sound lower

  pub lowered-length : length (leaving n thr t b) + length (contents n (lowered n thr t b)) ≡ length (contents n b)
  lowered-length = omega (arith, perm_length parts, length-append (leaving n thr t b) staying, perm_length (rows_of lower))

-- ---- an add keeps a bucket sound

module _ (n r : ℕ) (thr : ℕ → ℕ) (e : Entry) (small : e.word < 2 ^ n) where
  added-sound : {b : Bucket} → SoundBucket n r b → SoundBucket n r (unwrap_or (add n e.word e.plan b) b)
  unfolding add_at
  added-sound {b} h =
      cases (elem e.word (sums (chosen b.mark h.matrix)))
      (λ t. subst⁻¹ (λ (a : Optional Bucket). SoundBucket n r (unwrap_or a b)) (add-depends n h.matrix b h.sound e.word e.plan small (true→T t)) h)
      (λ f.
      let g = add_goes n h.matrix b h.sound e.word e.plan small (false→T f) in
      subst⁻¹ (λ (a : Optional Bucket). SoundBucket n r (unwrap_or a b)) g.result (record {
        matrix = set h.matrix g.row e.word;
        sound = add-sound n h.matrix b g.row e.word e.plan h.sound g.row_lt small g.was_free g.has-bit;
        wide = length-sol_step _ _ b.sols ∙ h.wide;
        low = h.low;
      }))

  -- the bucket afterwards is sound, and at most its words and e leave
  abbrev Kept : Bucket → Settlement → Type 0
  Kept b s = SoundBucket n r s.bucket × (length s.out ≤ suc (length (contents n b)))

  keeps : (t : ℕ) (b : Bucket) → b.bound ≡ t → SoundBucket n r b → Kept b (settle n thr e t b)
  keeps zero b q h = (h, omega arith)
  keeps (suc t) b q h =
      by_test (Kept b) (ltb (thr e.word) (suc t))
      (λ l. by_add (fallen (keeps t (lowered n thr t b) refl (lowered-sound thr t h low))) (add n e.word e.plan b) (added-sound h))
      (λ f. (h, omega arith))
    where
      low : t ≤ largest_bound
      low = omega (arith, h.low)

      next : Settlement
      next = ahead (leaving n thr t b) (settle n thr e t (lowered n thr t b))

      fallen : Kept (lowered n thr t b) (settle n thr e t (lowered n thr t b)) → Kept b (ahead (leaving n thr t b) (settle n thr e t (lowered n thr t b)))
      fallen k = (k.0, omega (arith, k.1, lowered-length thr t h, length-append (leaving n thr t b) (settle n thr e t (lowered n thr t b)).out))

      by_add : Kept b next → (o : Optional Bucket) → SoundBucket n r (unwrap_or o b) → Kept b (or_else o next)
      by_add f None k = f
      by_add f (Some c) k = (k, omega arith)

  pub settle-sound : (b : Bucket) → SoundBucket n r b → SoundBucket n r (settle n thr e b.bound b).bucket
  settle-sound b h = (keeps b.bound b refl h).0

  pub settle_few : (b : Bucket) → SoundBucket n r b → length (settle n thr e b.bound b).out ≤ suc n
  settle_few b h = omega (arith, (keeps b.bound b refl h).1, contents_few h)

-- ---- the meaning of an add under the bound

-- a bucket that holds its due words keeps the rule of the bound
pub holds_free : {n r : ℕ} {b : Bucket} (thr : ℕ → ℕ) (t : ℕ) (fs : List Entry) → Holds n r b (held thr t fs) → Free t (map (seen thr) fs)
holds_free {n} {r} {b} thr t fs h =
    ap indep (under-held thr t fs) ∙ sym (indep_perm h.lives) ∙ T→true _ (occupied-indep n h.matrix b.cols h.sound.inverse b.mark)

module _ (n r : ℕ) (thr : ℕ → ℕ) where
  -- The words fs are due in the bucket, which holds those under its bound t; e comes to it, and s is what is left. The new bound is
  -- the largest number not above t under which no non-empty selection of e and fs XORs to zero; the bucket holds those under it, with
  -- their plans; of the others those leave, with their plans, that had not left before.
  pub record Meaning (e : Entry) (fs : List Entry) (t : ℕ) (s : Settlement) : Type 0 where
    pub bound : s.bucket.bound ≡ bound_of t (map (seen thr) (e ∷ fs))
    pub stay : Holds n r s.bucket (held thr s.bucket.bound (e ∷ fs))
    pub leave : Permᴰ (s.out ++ over thr t fs) (over thr s.bucket.bound (e ∷ fs))

  pub settle_meaning : (e : Entry) (fs : List Entry) → e.word < 2 ^ n → e.plan < 2 ^ r → (b : Bucket) → Holds n r b (held thr b.bound fs)
      → Meaning e fs b.bound (settle n thr e b.bound b)
  settle_meaning e fs l p b h =
      let s = settle_law n r thr e fs l p b.bound b refl h in
      record { bound = s.falls ∙ fall-bound b.bound (seen thr e) (map (seen thr) fs) (holds_free thr b.bound fs h); stay = s.holds; leave = s.leaves }
