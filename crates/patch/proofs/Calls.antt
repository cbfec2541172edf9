-- The two calls: what one that is accepted has done, that one that is turned down leaves the output as it was, and that a patch that was made is applied.
-- Assumes nothing.
use mathlib.Core.Path.{◌≡◌, refl, sym, ap, ◌∙◌}
use mathlib.Core.Bool.{Bool, true, false, cond, true≢false}
use mathlib.Core.List.{List}
use Prim.Native.Nat.{ℕ}
use lib.Dec.{eqb, ltb}
use lib.ListN.{length, take}
use borrow.Author.Tests.{eqb-true}
use Rattle.std.specs.Prelude.{Result, Ok, Err}
use Rattle.lists.proofs.Tests.{by_test}
use Rattle.hash.specs.Fnv.{fnv_of}
use Rattle.answer.specs.declared.Cause.{Cause}
use Rattle.answer.specs.declared.Cause.TheVariants.{WrongPlane, UnlikePlanes, WrongPatch, WrongSum}
use Rattle.answer.proofs.Determined.{refused≢accepted}
use Rattle.model.specs.Machine.{accepted}
use Rattle.plane.specs.Record.{format1}
use Rattle.plane.specs.Plane.{plane_from, wrong_at}
use Rattle.plane.proofs.Scan.{both}
use Rattle.plane.proofs.Exact.{AllBytes}
use Rattle.plane_write.specs.Write.{Written, turned_down, put_front}
use Rattle.plane_write.proofs.Accepted.{InFront, in-front}
use Rattle.patch.specs.Patch.{patch_bytes, patch_of}
use Rattle.patch.specs.Wrong.{patch_from, patch_wrong_at}
use Rattle.patch.specs.Calls.{unless_wrong, alike, applied, sums_fit, make_call, apply_call}
use Rattle.patch.proofs.Statements.{made-accepted, applied-right}

-- ---- what both calls leave: a first plane that is wrong, then another scan's finding with its cause, then a test with its answer, then the bytes in front

abbrev pub left : List ℕ → (ℕ → Cause) → Cause → List ℕ → Result (Unit {0}) ℕ → Result (Unit {0}) ℕ → Bool → Written
left out cause a bytes x y b = unless_wrong WrongPlane out x (unless_wrong cause out y (cond b (put_front bytes out) (turned_down a out)))

module _ (n : ℕ) (out : List ℕ) where
  -- it has met none of the causes before
  past : (cause : ℕ → Cause) (a : Cause) (bytes : List ℕ) (x y : Result (Unit {0}) ℕ) (b : Bool)
      → (left out cause a bytes x y b).answer ≡ Ok n → (x ≡ Ok tt) × (y ≡ Ok tt) × (b ≡ true) × InFront n out bytes (left out cause a bytes x y b).output
  past cause a bytes (Ok u) (Ok v) true e = (refl, refl, refl, in-front n out bytes e)
  past cause a bytes (Ok u) (Ok v) false e = absurd (refused≢accepted a n e)
  past cause a bytes (Ok u) (Err at) b e = absurd (refused≢accepted (cause at) n e)
  past cause a bytes (Err at) y b e = absurd (refused≢accepted _ n e)

module _ (out : List ℕ) where
  -- one that is turned down leaves the output as it was
  abbrev Kept : Written → Type 0
  Kept o = accepted o.answer ≡ false → o.output ≡ out

  kept : (cause : ℕ → Cause) (a : Cause) (bytes : List ℕ) (x y : Result (Unit {0}) ℕ) (b : Bool) → Kept (left out cause a bytes x y b)
  kept cause a bytes (Ok u) (Ok v) true = by_test Kept (ltb (length out) (length bytes)) (λ t e. refl) (λ f e. absurd (true≢false e))
  kept cause a bytes (Ok u) (Ok v) false = λ e. refl
  kept cause a bytes (Ok u) (Err at) b = λ e. refl
  kept cause a bytes (Err at) y b = λ e. refl

  pub make_refused : (p q : List ℕ) → accepted (make_call p q out).answer ≡ false → (make_call p q out).output ≡ out
  unfolding make_call
  make_refused p q = kept WrongPlane UnlikePlanes (patch_bytes format1 (patch_of format1 p q)) (wrong_at format1 p) (wrong_at format1 q) (alike p q)

  pub apply_refused : (p d : List ℕ) → accepted (apply_call p d out).answer ≡ false → (apply_call p d out).output ≡ out
  unfolding apply_call
  apply_refused p d = kept WrongPatch WrongSum (applied format1 p d) (wrong_at format1 p) (patch_wrong_at format1 (plane_from format1 p) d) (sums_fit format1 p d)

-- ---- making

module _ (p q out : List ℕ) where
  -- accepted: causes 10 (old), 10 (new) and 11 were not met, and the patch stands in front of the output
  pub record Made (n : ℕ) : Type 0 where
    pub old : wrong_at format1 p ≡ Ok tt
    pub new : wrong_at format1 q ≡ Ok tt
    pub like : alike p q ≡ true
    pub patch : InFront n out (patch_bytes format1 (patch_of format1 p q)) (make_call p q out).output

  pub made : (n : ℕ) → (make_call p q out).answer ≡ Ok n → Made n
  unfolding make_call
  made n e =
      let h = past n out WrongPlane UnlikePlanes (patch_bytes format1 (patch_of format1 p q)) (wrong_at format1 p) (wrong_at format1 q) (alike p q) e in
      record { old = h.0; new = h.1; like = h.2; patch = h.3 }

-- a patch that was made is applied: the new plane, if it fits the output
pub make_apply : (p q out : List ℕ) (n : ℕ) → AllBytes p → AllBytes q → (make_call p q out).answer ≡ Ok n
    → (into : List ℕ) → apply_call p (take n (make_call p q out).output) into ≡ put_front q into
make_apply p q out n bp bq e into =
    let m = made p q out n e in
    ap (λ (d : List ℕ). apply_call p d into) m.patch.front ∙ made-accepted p q bp bq m.old m.new m.like into

-- ---- applying

module _ (p d out : List ℕ) where
  -- accepted: causes 10, 12 and 13 were not met, and the new plane stands in front of the output
  pub record Done (n : ℕ) : Type 0 where
    pub old : wrong_at format1 p ≡ Ok tt
    pub patch : patch_wrong_at format1 (plane_from format1 p) d ≡ Ok tt
    pub sums : sums_fit format1 p d ≡ true
    pub plane : InFront n out (applied format1 p d) (apply_call p d out).output

  pub done : (n : ℕ) → (apply_call p d out).answer ≡ Ok n → Done n
  unfolding apply_call
  done n e =
      let h = past n out WrongPatch WrongSum (applied format1 p d) (wrong_at format1 p) (patch_wrong_at format1 (plane_from format1 p) d) (sums_fit format1 p d) e in
      record { old = h.0; patch = h.1; sums = h.2; plane = h.3 }

  module _ (bp : AllBytes p) (bd : AllBytes d) (n : ℕ) (e : (apply_call p d out).answer ≡ Ok n) where
    -- whoever made the patch: what stands in the output is a plane that is wrong nowhere
    pub apply_right : wrong_at format1 (take n (apply_call p d out).output) ≡ Ok tt
    apply_right = let h = done n e in ap (wrong_at format1) h.plane.front ∙ applied-right format1 p d bp bd h.old h.patch

    -- and has the sum that the patch gives, as the old plane has
    pub apply_sums : (fnv_of p ≡ (patch_from format1 d).old_sum) × (fnv_of (take n (apply_call p d out).output) ≡ (patch_from format1 d).new_sum)
    apply_sums =
        let h = done n e in
        let s = both (eqb (patch_from format1 d).old_sum (fnv_of p)) _ h.sums in
        (sym (eqb-true (patch_from format1 d).old_sum (fnv_of p) s.0), ap fnv_of h.plane.front ∙ sym (eqb-true (patch_from format1 d).new_sum (fnv_of (applied format1 p d)) s.1))
