-- A plane with a patch that it allows is a plane within the limits, with the same bucket numbers.
-- Assumes nothing.
use Prim.Native.Nat.{ℕ, zero, suc, ◌+◌, ◌≤◌}
use native.Mathlib.Omega.{arith}
use mathlib.Core.Path.{◌≡◌, refl, ◌∙◌}
use mathlib.Core.Bool.{true, not}
use mathlib.Core.List.{List, [], ◌∷◌}
use lib.ListN.{length, set, length-append, length-drop, length-set, take-append-drop}
use lib.Seq.{length-take-le}
use borrow.Author.Tests.{leb-true}
use Rattle.lists.specs.Entries.{Entry}
use Rattle.model.specs.Model.{base_limit}
use Rattle.lists.specs.Lists.{Every}
use Rattle.plane.specs.Record.{Format, PlaneBucket}
use Rattle.plane.specs.Plane.{Plane, all_allowed, entry_allowed}
use Rattle.plane.specs.Fits.{FitsBucket, FitsEntry, Fits}
use Rattle.plane.proofs.Scan.{both}
use Rattle.patch.specs.Base.{among, remove_all, enter, enter_all}
use Rattle.patch.specs.Record.{Change}
use Rattle.patch.specs.Patch.{Patch, buckets_of, set_all, patched}
use Rattle.patch.specs.Wrong.{change_allowed, next_index, gone_allowed, next_word, Filled, new_allowed, filled, unfilled, allowed}
use Rattle.patch.specs.Fits.{FitsChange, FitsPatch}
use Rattle.patch.proofs.Base.{remove-all_ascending, enter-all_ascending, remove-all-length, every-remove-all, every-enter-all}

pub every_set : {A : Type 0} (F : A → Type 0) (xs : List A) (i : ℕ) (x : A) → Every F xs → F x → Every F (set xs i x)
every_set F [] i x h f = tt
every_set F (y ∷ ys) zero x h f = (f, h.1)
every_set F (y ∷ ys) (suc i) x h f = (h.0, every_set F ys i x h.1 f)

pub set-all_fit : (F : Format) (cs : List Change) (bs : List PlaneBucket) → Every (FitsChange F) cs → Every (FitsBucket F) bs → Every (FitsBucket F) (set_all cs bs)
set-all_fit F [] bs h f = f
set-all_fit F (c ∷ cs) bs h f = set-all_fit F cs (set bs c.index c.bucket) h.1 (every_set (FitsBucket F) bs c.index c.bucket f h.0)

pub set-all-length : (cs : List Change) (bs : List PlaneBucket) → length (set_all cs bs) ≡ length bs
set-all-length [] bs = refl
set-all-length (c ∷ cs) bs = set-all-length cs (set bs c.index c.bucket) ∙ length-set bs c.index c.bucket

-- no 65 entries
news_few : (gone : List ℕ) (es : List Entry) (s : Filled) → length s.base ≤ base_limit → all_allowed (new_allowed gone) filled s es ≡ true → length (enter_all es s.base) ≤ base_limit
news_few gone [] s h a = h
news_few gone (e ∷ es) s h a =
    let c = both (new_allowed gone s e) _ a in
    let d = both (not (among e.word gone)) _ (both (entry_allowed s.least e) _ c.0).1 in
    news_few gone es (filled s e) (leb-true (length (enter e s.base)) base_limit d.1) c.1

module _ (P : Plane) (D : Patch) where
  -- what a plane that allows the patch allows of each kind
  pub allowed_each : allowed P D ≡ true → (all_allowed (change_allowed (length (buckets_of P))) next_index 0 D.changes ≡ true)
      × ((all_allowed (gone_allowed P.base) next_word 0 D.gone ≡ true) × (all_allowed (new_allowed D.gone) filled (unfilled P.base D.gone) D.news ≡ true))
  unfolding allowed
  allowed_each a =
      let c = both (all_allowed (change_allowed (length (buckets_of P))) next_index 0 D.changes) _ a in
      (c.0, both (all_allowed (gone_allowed P.base) next_word 0 D.gone) _ c.1)

  all-length : length (set_all D.changes (buckets_of P)) ≡ length P.level1 + length P.level2
  all-length = set-all-length D.changes (buckets_of P) ∙ length-append P.level1 P.level2

  pub patched_length1 : length (patched P D).level1 ≡ length P.level1
  unfolding patched
  patched_length1 = length-take-le (length P.level1) (set_all D.changes (buckets_of P)) (rw all-length (omega arith))

  pub patched_length2 : length (patched P D).level2 ≡ length P.level2
  unfolding patched
  patched_length2 = length-drop (length P.level1) (set_all D.changes (buckets_of P)) ∙ rw all-length (omega arith)

  module _ (F : Format) (f : Fits F P) (h : FitsPatch F P D) where
    few : length (patched P D).base ≤ base_limit
    unfolding patched
    few =
        let l : length P.base ≤ base_limit = f.few in
        news_few D.gone D.news (unfilled P.base D.gone) (omega (arith, remove-all-length D.gone P.base)) (allowed_each h.allows).1.1

    pub patched-fits : Fits F (patched P D)
    unfolding patched
    patched-fits = record {
      range = rw (patched_length1, patched_length2) f.range;
      few = few;
      buckets = rw (take-append-drop (length P.level1) (set_all D.changes (buckets_of P))) (set-all_fit F D.changes (buckets_of P) h.sized.changes f.buckets);
      entries = every-enter-all FitsEntry D.news (remove_all D.gone P.base) h.sized.news (every-remove-all FitsEntry D.gone P.base f.entries);
      ascending = enter-all_ascending D.news (remove_all D.gone P.base) (remove-all_ascending D.gone P.base f.ascending);
    }
