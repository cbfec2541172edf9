-- How long a patch can be: that a plane allows no more records than it has buckets and the limit of base entries twice.
-- Assumes nothing.
use Prim.Native.Nat.{ℕ, suc, ◌+◌, ◌-◌, ◌≤◌}
use native.Mathlib.Omega.{arith}
use mathlib.Core.Path.{◌≡◌, refl, sym, ap, ◌∙◌}
use mathlib.Core.Bool.{true, ◌&&◌, true≢false}
use mathlib.Core.Option.{none}
use mathlib.Core.List.{List, [], ◌∷◌, map}
use lib.Dec.{eqb, leb, ltb}
use lib.ListN.{length, length-append, length-map}
use borrow.Author.Tests.{leb-true, ltb-true, eqb-true}
use Rattle.std.specs.Prelude.{Ok}
use Rattle.lists.specs.Entries.{Entry, find, Ascending, Distinct}
use Rattle.lists.proofs.Tests.{cases}
use Rattle.lists.proofs.Entries.{none≢some}
use Rattle.lists.proofs.Sorts.{ascending_distinct}
use Rattle.model.specs.Model.{base_limit}
use Rattle.table.specs.Layout.{most_buckets1, most_buckets2}
use Rattle.plane.specs.Record.{format1}
use Rattle.plane.specs.Plane.{Plane, plane_from, wrong_at, all_allowed, entry_allowed, exceeding}
use Rattle.plane.specs.Fits.{Fits}
use Rattle.plane.proofs.Scan.{both}
use Rattle.plane.proofs.Exact.{AllBytes, ascending_of, read_fits}
use Rattle.patch.specs.Base.{is_there, among, enter_all}
use Rattle.patch.specs.Record.{Change}
use Rattle.patch.specs.Patch.{Patch, patch_bytes, patch_of, buckets_of, patched}
use Rattle.patch.specs.Wrong.{change_allowed, next_index, gone_allowed, next_word, Filled, new_allowed, filled, unfilled, patch_from, patch_wrong_at}
use Rattle.patch.specs.Fits.{FitsPatch}
use Rattle.patch.proofs.Base.{by_find, remove-all_ascending, enter-all-found, fewer}
use Rattle.patch.proofs.Applied.{allowed_each, patched-fits}
use Rattle.patch.proofs.Exact.{patch_fits, patch_written}
use Rattle.patch.proofs.Statements.{format1_own, patch_length, made-fits}

-- ascending indexes below n
changes_few : (n least : ℕ) (cs : List Change) → all_allowed (change_allowed n) next_index least cs ≡ true → length cs ≤ n - least
changes_few n least [] a = omega arith
changes_few n least (c ∷ cs) a =
    let k = both (change_allowed n least c) (all_allowed (change_allowed n) next_index (suc c.index) cs) a in
    let l = both (leb least c.index) _ k.0 in
    omega (arith, leb-true least c.index l.0, ltb-true c.index n (both (ltb c.index n) _ l.1).0, changes_few n (suc c.index) cs k.1)

-- a word as an entry
abbrev entry_of : ℕ → Entry
entry_of w = record { word = w; plan = 0 }

among-map : (v : ℕ) (ws : List ℕ) → among v ws ≡ is_there (find v (map entry_of ws))
among-map v [] = refl
among-map v (w ∷ ws) = cases (eqb v w) (λ t. rw t) (λ f. rw f (among-map v ws))

module _ (base : List Entry) where
  gone_rising : (least : ℕ) (ws : List ℕ) → all_allowed (gone_allowed base) next_word least ws ≡ true → all_allowed entry_allowed exceeding least (map entry_of ws) ≡ true
  gone_rising least [] a = refl
  gone_rising least (w ∷ ws) a =
      let k = both (gone_allowed base least w) (all_allowed (gone_allowed base) next_word (suc w) ws) a in
      rw (both (leb least w) _ k.0).0 (gone_rising (suc w) ws k.1)

  -- each word gone was there
  pub gone-there : (least : ℕ) (ws : List ℕ) → all_allowed (gone_allowed base) next_word least ws ≡ true → (w : ℕ) → among w ws ≡ true → is_there (find w base) ≡ true
  gone-there least [] h w m = absurd (true≢false (sym m))
  gone-there least (v ∷ ws) h w m =
      let a = both (gone_allowed base least v) (all_allowed (gone_allowed base) next_word (suc v) ws) h in
      cases (eqb w v) (λ t. rw (eqb-true w v t) (both (leb least v) _ a.0).1) (λ f. gone-there (suc v) ws a.1 w (rw f at m))

  gone_few : (ws : List ℕ) → all_allowed (gone_allowed base) next_word 0 ws ≡ true → length ws ≤ length base
  gone_few ws a =
      let es : List Entry = map entry_of ws in
      let old : (v : ℕ) → find v base ≡ none → find v es ≡ none =
      λ v n. by_find (find v es) (λ m. m) (λ p s. absurd (true≢false (sym (gone-there 0 ws a v (among-map v ws ∙ ap is_there s)) ∙ ap is_there n))) in
      omega (arith, fewer es base (ascending_distinct es (ascending_of 0 es (gone_rising 0 ws a))) old, length-map ws entry_of)

news_rising : (gone : List ℕ) (s : Filled) (es : List Entry) → all_allowed (new_allowed gone) filled s es ≡ true → all_allowed entry_allowed exceeding s.least es ≡ true
news_rising gone s [] a = refl
news_rising gone s (e ∷ es) a =
    let k = both (new_allowed gone s e) (all_allowed (new_allowed gone) filled (filled s e) es) a in
    rw (both (entry_allowed s.least e) _ k.0).0 (news_rising gone (filled s e) es k.1)

-- each is in the new base list
news_few : (gone : List ℕ) (s : Filled) (es : List Entry) → Ascending s.base → all_allowed (new_allowed gone) filled s es ≡ true → length es ≤ length (enter_all es s.base)
news_few gone s es asc a =
    let d : Distinct es = ascending_distinct es (ascending_of s.least es (news_rising gone s es a)) in
    fewer es (enter_all es s.base) d
    (λ w n. by_find (find w es) (λ m. m) (λ p k. absurd (none≢some (sym n ∙ enter-all-found w p es s.base d asc k))))

module _ (P : Plane) (D : Patch) (f : Fits format1 P) (h : FitsPatch format1 P D) where
  most : length (buckets_of P) ≤ most_buckets1 + most_buckets2
  most =
      let d = both (leb 1 (length P.level1) && leb (length P.level1) most_buckets1) _ f.range in
      let l1 = leb-true (length P.level1) most_buckets1 (both (leb 1 (length P.level1)) _ d.0).1 in
      let l2 = leb-true (length P.level2) most_buckets2 (both (leb 1 (length P.level2)) _ d.1).1 in
      rw (length-append P.level1 P.level2) (omega arith)

  few_news : length D.news ≤ base_limit
  unfolding patched
  few_news =
      let l = news_few D.gone (unfilled P.base D.gone) D.news (remove-all_ascending D.gone P.base f.ascending) (allowed_each P D h.allows).1.1 in
      omega (arith, (patched-fits P D format1 f h).few)

  -- a patch has 22 to 6,598 bytes
  pub patch_most : length (patch_bytes format1 D) ≤ 6598
  patch_most =
      let t = allowed_each P D h.allows in
      rw (patch_length D h.sized) (omega (arith, changes_few (length (buckets_of P)) 0 D.changes t.0, gone_few P.base D.gone t.1.0, f.few, few_news, most))

-- so has one that is wrong nowhere
pub right_most : (p d : List ℕ) → AllBytes p → AllBytes d → wrong_at format1 p ≡ Ok tt → patch_wrong_at format1 (plane_from format1 p) d ≡ Ok tt → length d ≤ 6598
right_most p d bp bd ep ed =
    rw (patch_written format1 (plane_from format1 p) d ed bd)
    at (patch_most (plane_from format1 p) (patch_from format1 d) (read_fits format1 p ep bp) (patch_fits format1 (plane_from format1 p) d ed bd))

-- and one that is made
pub made_most : (p q : List ℕ) → AllBytes p → AllBytes q → wrong_at format1 p ≡ Ok tt → wrong_at format1 q ≡ Ok tt → length (patch_bytes format1 (patch_of format1 p q)) ≤ 6598
made_most p q bp bq ep eq = patch_most (plane_from format1 p) (patch_of format1 p q) (read_fits format1 p ep bp) (made-fits format1 format1_own p q bp bq ep eq)
