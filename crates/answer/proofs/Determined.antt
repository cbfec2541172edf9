-- An answer's number and value determine it, so nothing is lost where only these two are handed on.
-- Assumes nothing.
use mathlib.Core.Path.{◌≡◌, refl, sym, ap₂, ◌∙◌}
use mathlib.Core.List.{[], ◌∷◌}
use Prim.Native.Nat.{ℕ, ◌<◌}
use native.Mathlib.Omega.{arith}
use lib.Dec.{eqb, lit<}
use lib.ListN.{get_or}
use borrow.Author.Tests.{ne_eqb}
use Rattle.std.specs.Prelude.{Ok, Err, is_ok}
use Rattle.answer.specs.Numbers.{Answer, cause_number, number_of, value_of}
use Rattle.answer.specs.declared.Cause.{Cause}
use Rattle.answer.specs.declared.Cause.TheVariants.{WrongLength, WrongByte, WrongBuckets, WrongTable, NotSound, Live, NotLive, Full, ShortOutput, WrongPlane, UnlikePlanes, WrongPatch, WrongSum, DeskPlanGiven, WrongKind}

-- the answer of a number and a value
abbrev pub answer_from : ℕ → ℕ → Answer
answer_from n v =
    get_or (Ok v ∷ Err (WrongLength v) ∷ Err (WrongByte v) ∷ Err WrongBuckets ∷ Err (WrongTable v) ∷ Err NotSound ∷ Err (Live v) ∷ Err NotLive ∷ Err Full ∷ Err (ShortOutput v) ∷ Err (WrongPlane v) ∷ Err UnlikePlanes ∷ Err (WrongPatch v) ∷ Err WrongSum ∷ Err DeskPlanGiven ∷ Err WrongKind ∷ []) n (Ok v)

pub answer_back : (a : Answer) → answer_from (number_of a) (value_of a) ≡ a
answer_back (Ok n) = refl
answer_back (Err (WrongLength n)) = refl
answer_back (Err (WrongByte i)) = refl
answer_back (Err WrongBuckets) = refl
answer_back (Err (WrongTable n)) = refl
answer_back (Err NotSound) = refl
answer_back (Err (Live p)) = refl
answer_back (Err NotLive) = refl
answer_back (Err Full) = refl
answer_back (Err (ShortOutput n)) = refl
answer_back (Err (WrongPlane i)) = refl
answer_back (Err UnlikePlanes) = refl
answer_back (Err (WrongPatch i)) = refl
answer_back (Err WrongSum) = refl
answer_back (Err DeskPlanGiven) = refl
answer_back (Err WrongKind) = refl

-- turned down, or accepted
pub refused≢accepted : (c : Cause) (v : ℕ) → ◌≡◌ {A = Answer} (Err c) (Ok v) → ⊥
refused≢accepted c v e = let z : ◌≡◌ {A = ℕ} 0 1 = cc in omega arith

-- no cause has the number 0
pub cause_above : (c : Cause) → 0 < cause_number c
cause_above (WrongLength n) = lit< tt
cause_above (WrongByte i) = lit< tt
cause_above WrongBuckets = lit< tt
cause_above (WrongTable n) = lit< tt
cause_above NotSound = lit< tt
cause_above (Live p) = lit< tt
cause_above NotLive = lit< tt
cause_above Full = lit< tt
cause_above (ShortOutput n) = lit< tt
cause_above (WrongPlane i) = lit< tt
cause_above UnlikePlanes = lit< tt
cause_above (WrongPatch i) = lit< tt
cause_above WrongSum = lit< tt
cause_above DeskPlanGiven = lit< tt
cause_above WrongKind = lit< tt

-- so an answer is accepted exactly if its number is 0
pub accepted-ok : (a : Answer) → is_ok a ≡ eqb (number_of a) 0
accepted-ok (Ok n) = refl
accepted-ok (Err c) = sym (ne_eqb (cause_number c) 0 (λ e. omega (arith, cause_above c)))

pub answer_determined : (a b : Answer) → number_of a ≡ number_of b → value_of a ≡ value_of b → a ≡ b
answer_determined a b n v = sym (answer_back a) ∙ ap₂ answer_from n v ∙ answer_back b
