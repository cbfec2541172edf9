-- The call: what it answers, by the tests that lead there.
-- Assumes nothing.
use Prim.Native.Nat.{ℕ, ◌+◌, ◌≤◌}
use native.Mathlib.Omega.{arith}
use mathlib.Core.Path.{◌≡◌, refl, sym, ap, ◌∙◌}
use mathlib.Core.List.{List}
use lib.ListN.{length, take}
use borrow.Author.Tests.{eq-eqb, ne_eqb}
use Rattle.std.specs.Prelude.{Ok, Err}
use Rattle.answer.specs.Numbers.{Answer}
use Rattle.codec.specs.Bytes.{from_bytes}
use Rattle.codec.specs.Parts.{part_at, written}
use Rattle.codec.proofs.Part.{length-written, part_same}
use Rattle.hash.specs.Fnv.{fnv_of}
use Rattle.answer.specs.declared.Cause.TheVariants.{WrongSum}
use Rattle.plane.specs.Record.{Format, format1, word_bytes}
use Rattle.plane.specs.Plane.{plane_from, wrong_at}
use Rattle.patch.specs.Wrong.{patch_from, patch_wrong_at}
use Rattle.patch.specs.Calls.{applied, apply_call}
use Rattle.patch_apply.specs.Steps.{summed, applied_right}

-- ---- the sums

-- bytes that were written in front are read there
pub front-part : (x t new : List ℕ) (n : ℕ) → n ≡ length x → new ≡ written 0 x t → n ≤ length new → take n new ≡ x
front-part x t new n e f h =
    let l : length new ≡ length t = ap length f ∙ length-written 0 x t in
    rw (e, f) (part_same 0 x t (omega arith))

-- x is the old sum that the patch says, y that of the old plane
module _ (F : Format) (p d out : List ℕ) (x y : ℕ) (e : x ≡ from_bytes (part_at word_bytes 1 d)) (f : y ≡ fnv_of p) where
  pub old_wrong : (x ≡ y → ⊥) → (Err WrongSum ≡ (applied_right F p d out).answer) × (out ≡ (applied_right F p d out).output)
  unfolding patch_from
  old_wrong n = rw (ne_eqb (from_bytes (part_at word_bytes 1 d)) (fnv_of p) (λ q. n (e ∙ q ∙ sym f))) (refl, refl)

  pub old_right : x ≡ y → (bytes o : List ℕ) (z : ℕ) (a : Answer) → bytes ≡ applied F p d → z ≡ from_bytes (part_at word_bytes (1 + word_bytes) d)
      → (a ≡ (summed z bytes out).answer) × (o ≡ (summed z bytes out).output) → (a ≡ (applied_right F p d out).answer) × (o ≡ (applied_right F p d out).output)
  unfolding patch_from
  old_right q bytes o z a b s h = rw (eq-eqb (from_bytes (part_at word_bytes 1 d)) (fnv_of p) (sym e ∙ q ∙ f)) (rw (b, s) at h)

-- ---- the sums decide
pub right_answer : (p d out o : List ℕ) (a : Answer) → wrong_at format1 p ≡ Ok tt → patch_wrong_at format1 (plane_from format1 p) d ≡ Ok tt
    → (a ≡ (applied_right format1 p d out).answer) × (o ≡ (applied_right format1 p d out).output) → (a ≡ (apply_call p d out).answer) × (o ≡ (apply_call p d out).output)
unfolding apply_call
right_answer p d out o a e f h = rw (e, f) h
