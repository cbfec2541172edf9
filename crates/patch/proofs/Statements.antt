-- The statements of order 1 about planes and patches, in every format F whose change kind can be told from those that follow, and about the two
-- calls.
-- Assumes nothing.
use mathlib.Core.Logic.{◌↔◌}
use mathlib.Core.Path.{◌≡◌, refl, sym, ap, ◌∙◌}
use mathlib.Core.Bool.{true}
use mathlib.Core.List.{List}
use Prim.Native.Nat.{ℕ, ◌+◌, ◌*◌}
use native.Mathlib.Omega.{arith}
use lib.Dec.{eqb}
use lib.ListN.{length}
use borrow.Author.Tests.{eqb-true, eq-eqb}
use Rattle.std.specs.Prelude.{Ok}
use Rattle.hash.specs.Fnv.{fnv_of}
use Rattle.hash.proofs.FnvLaws.{fnv_lt}
use Rattle.model.specs.Model.{base_limit}
use Rattle.table.specs.Layout.{most_buckets1, most_buckets2}
use Rattle.plane.specs.Record.{Format, format1}
use Rattle.plane.specs.Plane.{Plane, plane_bytes, plane_from, wrong_at, buckets1, buckets2}
use Rattle.plane.specs.Fits.{Fits}
use Rattle.plane.proofs.Scan.{both}
use Rattle.plane.proofs.Round.{written_right, written_read}
use Rattle.plane.proofs.Exact.{AllBytes, length1, length2, read_written, read_fits}
use Rattle.plane_write.specs.Write.{put_front}
use Rattle.patch.specs.Record.{OwnKind}
use Rattle.patch.specs.Patch.{Patch, patch_bytes, patch_of, between, patched}
use Rattle.patch.specs.Wrong.{patch_from, patch_wrong_at}
use Rattle.patch.specs.Calls.{alike, applied, sums_fit, make_call, apply_call}
use Rattle.patch.specs.Fits.{Sized, FitsPatch, OfPatch}
use Rattle.patch.proofs.Made.{between-sized, between-allowed, between_leads}
use Rattle.patch.proofs.Applied.{patched-fits}
use Rattle.patch.proofs.Round.{patch_bytes-length, patch_read, patch_right}
use Rattle.patch.proofs.Exact.{patch_written, patch_fits}

-- ---- patches

-- format 1 is such a format
pub format1_own : OwnKind format1
format1_own = (λ e. omega (arith, e), (λ e. omega (arith, e), λ e. omega (arith, e)))

-- wrong nowhere exactly if the bytes are those of a patch that fits the plane
pub patch_exactly : (F : Format) → OwnKind F → (P : Plane) (d : List ℕ) → AllBytes d → (patch_wrong_at F P d ≡ Ok tt) ↔ OfPatch F P d
patch_exactly F own P d b = (
  λ e. record { patch = patch_from F d; fits = patch_fits F P d e b; bytes = patch_written F P d e b },
  λ o. rw o.bytes at (patch_right F own o.patch o.fits.sized P o.fits.allows),
)

-- 22 bytes, 67 for each bucket that differs, 9 for each base word gone, 10 for each base entry new or changed
pub patch_length : (D : Patch) → Sized format1 D → length (patch_bytes format1 D) ≡ 22 + 67 * length D.changes + 9 * length D.gone + 10 * length D.news
patch_length D h = patch_bytes-length format1 format1_own D h ∙ omega arith

pub longest : 22 + 67 * (most_buckets1 + most_buckets2) + 9 * base_limit + 10 * base_limit ≡ 6598
longest = refl

-- ---- made and applied

-- two planes that are right
module _ (F : Format) (own : OwnKind F) (p q : List ℕ) (bp : AllBytes p) (bq : AllBytes q) (ep : wrong_at F p ≡ Ok tt) (eq : wrong_at F q ≡ Ok tt) where
  abbrev P : Plane
  P = plane_from F p

  abbrev Q : Plane
  Q = plane_from F q

  fp : Fits F P
  fp = read_fits F p ep bp

  fq : Fits F Q
  fq = read_fits F q eq bq

  pub made-sized : Sized F (patch_of F p q)
  made-sized = between-sized F P Q fp fq (fnv_of p) (fnv_of q) (fnv_lt p) (fnv_lt q)

  pub made-fits : FitsPatch F P (patch_of F p q)
  made-fits = record { sized = made-sized; allows = between-allowed F P Q fp fq (fnv_of p) (fnv_of q) }

  -- the patch is wrong nowhere for the old plane
  pub made-right : patch_wrong_at F P (patch_bytes F (patch_of F p q)) ≡ Ok tt
  made-right = patch_right F own (patch_of F p q) made-sized P made-fits.allows

  module _ (a : alike p q ≡ true) where
    same1 : length P.level1 ≡ length Q.level1
    same1 = length1 F p ep bp ∙ eqb-true (buckets1 p) (buckets1 q) (both (eqb (buckets1 p) (buckets1 q)) _ a).0 ∙ sym (length1 F q eq bq)

    same2 : length P.level2 ≡ length Q.level2
    same2 = length2 F p ep bp ∙ eqb-true (buckets2 p) (buckets2 q) (both (eqb (buckets1 p) (buckets1 q)) _ a).1 ∙ sym (length2 F q eq bq)

    -- "applied to the old plane it gives the new plane", byte for byte
    pub apply_make : applied F p (patch_bytes F (patch_of F p q)) ≡ q
    apply_make =
        ap (λ (D : Patch). plane_bytes F (patched P D)) (patch_read F own (patch_of F p q) made-sized)
        ∙ ap (plane_bytes F) (between_leads F P Q fp fq (fnv_of p) (fnv_of q) same1 same2) ∙ read_written F q eq bq

    -- both sums fit
    pub made-sums : sums_fit F p (patch_bytes F (patch_of F p q)) ≡ true
    unfolding between
    made-sums = rw (apply_make, patch_read F own (patch_of F p q) made-sized, eq-eqb (fnv_of p) (fnv_of p) refl, eq-eqb (fnv_of q) (fnv_of q) refl)

-- a patch that is wrong nowhere, made by anyone, leaves a plane that is right, with the old one's bucket numbers
module _ (F : Format) (p d : List ℕ) (bp : AllBytes p) (bd : AllBytes d) (ep : wrong_at F p ≡ Ok tt) (ed : patch_wrong_at F (plane_from F p) d ≡ Ok tt) where
  new_fits : Fits F (patched (plane_from F p) (patch_from F d))
  new_fits = patched-fits (plane_from F p) (patch_from F d) F (read_fits F p ep bp) (patch_fits F (plane_from F p) d ed bd)

  pub applied-right : wrong_at F (applied F p d) ≡ Ok tt
  applied-right = written_right F (patched (plane_from F p) (patch_from F d)) new_fits

  -- which says what the patch says
  pub applied_says : plane_from F (applied F p d) ≡ patched (plane_from F p) (patch_from F d)
  applied_says = written_read F (patched (plane_from F p) (patch_from F d)) new_fits

-- ---- the calls

module _ (p q : List ℕ) (bp : AllBytes p) (bq : AllBytes q) (ep : wrong_at format1 p ≡ Ok tt) (eq : wrong_at format1 q ≡ Ok tt) (a : alike p q ≡ true) where
  -- making meets no cause but 9
  pub make_made : (out : List ℕ) → make_call p q out ≡ put_front (patch_bytes format1 (patch_of format1 p q)) out
  unfolding make_call
  make_made out = rw (ep, eq, a)

  -- and applying what was made gives the new plane, if it fits the output
  pub made-accepted : (out : List ℕ) → apply_call p (patch_bytes format1 (patch_of format1 p q)) out ≡ put_front q out
  unfolding apply_call
  made-accepted out =
      rw (ep, made-right format1 format1_own p q bp bq ep eq, made-sums format1 format1_own p q bp bq ep eq a) (ap (λ (x : List ℕ). put_front x out) (apply_make format1 format1_own p q bp bq ep eq a))
