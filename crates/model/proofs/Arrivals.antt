-- Words that arrive at a level one after the other. One arrival lowers one bound, which falls by one while the word depends; arrivals
-- in any order leave the bounds that one look at all the words leaves.
-- Assumes nothing.
use Prim.Native.Nat.{ℕ, ◌<◌, ◌/◌}
use native.Mathlib.Nat.{mod-lt}
use native.Mathlib.Omega.{arith}
use mathlib.Core.Path.{◌≡◌, refl, sym, ap, ◌∙◌, subst}
use mathlib.Core.Bool.{false}
use mathlib.Core.List.Permᴰ
use mathlib.Core.List.{List, [], ◌∷◌, map, ◌++◌, Permᴰ}
use lib.Dec.{eqb}
use lib.ListN.{length, get_or, set, length-set}
use lib.Seq.{ext_get_or, get_or-set_same, get_or-set_other}
use borrow.Author.Tests.{eqb-true, eqb-false, eq-eqb}
use Rattle.lists.specs.Lists.{keep, joined}
use Rattle.lists.specs.Entries.{Entry, words, insert}
use Rattle.lists.proofs.Keep.{joined-sub, joined_perm}
use Rattle.lists.proofs.Entries.{insert_perm}
use Rattle.lists.proofs.Tests.{cases, cond_true, cond_false}
use Rattle.gf2.specs.Bound.{bound_of}
use Rattle.gf2.proofs.Bound.{bound-keep, fall, fall-bound}
use Rattle.identifier.specs.Place.{thresholds}
use Rattle.model.specs.Levels.{Level, bucket, due_as, due, lower, passed}
use Rattle.model.specs.Model.{State, would_leave}
use Rattle.model.proofs.Levels.{AllFree, lower-at, lower-length, lower_free, lower_again, lower_perm, passed_perm}
use Rattle.model.proofs.Valid.{Valid}

module _ (L : Level) (n : ℕ) where
  -- the word w arrives where the words ws are due: the bound of its bucket falls by one while w depends there
  abbrev pub arrive : List ℕ → List ℕ → ℕ → List ℕ
  arrive bounds ws w = set bounds (bucket L n w) (fall (get_or bounds (bucket L n w) 0) (due_as L w) (due L n ws (bucket L n w)))

  -- the words new arrive one after the other
  abbrev pub arrives : List ℕ → List ℕ → List ℕ → List ℕ
  arrives bounds ws [] = bounds
  arrives bounds ws (w ∷ new) = arrives (arrive bounds ws w) (w ∷ ws) new

  -- bounds that are right already stay
  lower-keep : (bounds ws : List ℕ) → length bounds ≡ n → AllFree L n bounds ws → lower L n bounds ws ≡ bounds
  lower-keep bounds ws len h =
      ext_get_or 0 (lower L n bounds ws) bounds (lower-length L n bounds ws ∙ sym len)
      (λ i l. let l' : i < n = subst (λ (m : ℕ). i < m) (lower-length L n bounds ws) l in
      lower-at L n bounds ws i l' ∙ bound-keep (get_or bounds i 0) (due L n ws i) (h i l'))

  -- an arrival lowers the bounds for one word more
  pub arrive-lower : (bounds ws : List ℕ) (w : ℕ) → bucket L n w < n → length bounds ≡ n → AllFree L n bounds ws
      → arrive bounds ws w ≡ lower L n bounds (w ∷ ws)
  arrive-lower bounds ws w b len h =
      ap (set bounds k) (fall-bound (get_or bounds k 0) (due_as L w) (due L n ws k) (h k b) ∙ ap (bound_of (get_or bounds k 0)) (sym here))
      ∙ sym (ext_get_or 0 (lower L n bounds (w ∷ ws)) (set bounds k v) (lower-length L n bounds (w ∷ ws) ∙ sym len ∙ sym (length-set bounds k v))
      (λ i l. let l' : i < n = subst (λ (m : ℕ). i < m) (lower-length L n bounds (w ∷ ws)) l in
      lower-at L n bounds (w ∷ ws) i l'
      ∙ cases (eqb k i)
      (λ t. subst (λ (j : ℕ). bound_of (get_or bounds j 0) (due L n (w ∷ ws) j) ≡ get_or (set bounds k v) j 0) (eqb-true k i t) (sym (get_or-set_same bounds k v 0 (omega arith))))
      (λ f. ap (bound_of (get_or bounds i 0)) (due-other i f) ∙ bound-keep (get_or bounds i 0) (due L n ws i) (h i l') ∙ sym (get_or-set_other bounds k i v 0 (λ e. eqb-false k i f (sym e))))))
    where
      k : ℕ
      k = bucket L n w

      v : ℕ
      v = bound_of (get_or bounds k 0) (due L n (w ∷ ws) k)

      here : due L n (w ∷ ws) k ≡ due_as L w ∷ due L n ws k
      here = ap (map (due_as L)) (cond_true (w ∷ keep (λ u. eqb (bucket L n u) k) ws) (keep (λ u. eqb (bucket L n u) k) ws) (eq-eqb k k refl))

      due-other : (i : ℕ) → eqb k i ≡ false → due L n (w ∷ ws) i ≡ due L n ws i
      due-other i f = ap (map (due_as L)) (cond_false (w ∷ keep (λ u. eqb (bucket L n u) i) ws) (keep (λ u. eqb (bucket L n u) i) ws) f)

  -- words that arrive one after the other, in any order, leave the bounds that all of them at once leave
  pub arrives-all : 0 < n → (bounds ws new vs : List ℕ) → length bounds ≡ n → AllFree L n bounds ws → Permᴰ (new ++ ws) vs
      → arrives bounds ws new ≡ lower L n bounds vs
  arrives-all pos bounds ws new vs len h s =
      go bounds ws new len h ∙ lower_perm L n bounds (Permᴰ.trans (joined_perm ws new) s)
    where
      go : (bs us xs : List ℕ) → length bs ≡ n → AllFree L n bs us → arrives bs us xs ≡ lower L n bs (joined us xs)
      go bs us [] q f = sym (lower-keep bs us q f)
      go bs us (w ∷ xs) q f =
          ap (λ (b : List ℕ). arrives b (w ∷ us) xs) (arrive-lower bs us w (mod-lt (L.place w / thresholds) pos) q f)
          ∙ go (lower L n bs (w ∷ us)) (w ∷ us) xs (lower-length L n bs (w ∷ us)) (lower_free L n bs (w ∷ us))
          ∙ lower_again L n bs (joined-sub (w ∷ us) xs)

-- ---- an add done word by word, as a table does it, sets the bounds of `would_leave`: first the bound of the word's bucket at the first
-- level falls, then, one after the other and in any order, those of the second level's buckets to which the words go on

module _ (L1 L2 : Level) (s : State) (v : Valid L1 L2 s) (pos1 : 0 < s.size.buckets1) (pos2 : 0 < s.size.buckets2) (e : Entry) where
  words-insert : Permᴰ (words (insert e s.live)) (e.word ∷ words s.live)
  words-insert = Permᴰ.map (λ (x : Entry). x.word) (insert_perm e s.live)

  -- the first level's bounds once the word has arrived there
  abbrev pub first : List ℕ
  first = arrive L1 s.size.buckets1 s.bounds1 (words s.live) e.word

  pub first-settled : first ≡ (would_leave L1 L2 s e).bounds1
  first-settled =
      arrive-lower L1 s.size.buckets1 s.bounds1 (words s.live) e.word (mod-lt (L1.place e.word / thresholds) pos1) v.length1 v.free1
      ∙ sym (lower_perm L1 s.size.buckets1 s.bounds1 words-insert)

  -- the second level's once the words `new` have arrived there: with those that the first level did not hold before, they are those
  -- that it does not hold now
  pub second-settled : (new : List ℕ)
      → Permᴰ (new ++ passed L1 s.size.buckets1 s.bounds1 (words s.live)) (passed L1 s.size.buckets1 first (e.word ∷ words s.live))
      → arrives L2 s.size.buckets2 s.bounds2 (passed L1 s.size.buckets1 s.bounds1 (words s.live)) new ≡ (would_leave L1 L2 s e).bounds2
  second-settled new q =
      arrives-all L2 s.size.buckets2 pos2 s.bounds2 (passed L1 s.size.buckets1 s.bounds1 (words s.live)) new
      (passed L1 s.size.buckets1 first (words (insert e s.live))) v.length2 v.free2
      (Permᴰ.trans q (Permᴰ.symm (passed_perm L1 s.size.buckets1 first words-insert)))
      ∙ ap (λ (b : List ℕ). lower L2 s.size.buckets2 s.bounds2 (passed L1 s.size.buckets1 b (words (insert e s.live)))) first-settled
