-- Plan 255, document 02, order 3: a word due to the base list and absent gets it, and no entry of the base list has it.
-- Assumes nothing.
use Prim.Native.Nat.{ℕ}
use mathlib.Core.Path.{◌≡◌, ap, ◌∙◌}
use mathlib.Core.Bool.{true, false}
use mathlib.Core.List.{List, [], ◌∷◌}
use mathlib.Core.Option.{Option, none, some}
use lib.Dec.{eqb}
use Rattle.std.specs.Prelude.{Ok}
use Rattle.lists.specs.Lists.{Every}
use Rattle.lists.specs.Entries.{Entry, desk_plan, assignable, find}
use Rattle.lists.proofs.Tests.{by_test}
use Rattle.lists.proofs.Entries.{none≢some}
use Rattle.identifier.specs.Identifier.{Token, read_of}
use Rattle.identifier.specs.Place.{second_of}
use Rattle.plane.specs.Record.{Format, format1}
use Rattle.plane.specs.Plane.{Plane, wrong_at, plane_from}
use Rattle.plane.specs.Lookup.{holds, level_plan, second_plan, plan_from, lookup_call}
use Rattle.plane.specs.Fits.{FitsEntry, Fits}

-- a word that neither level holds and the base list lacks
pub stranger_desk : (P : Plane) (w : ℕ) → holds P.level1 w ≡ false → holds P.level2 (second_of w) ≡ false → find (second_of w) P.base ≡ none
    → plan_from P w ≡ desk_plan
unfolding plan_from second_plan level_plan
stranger_desk P w a b c = rw (a, b, c)

-- the same of the call, for bytes that are wrong nowhere
pub stranger_answer : (id : Token) (p : List ℕ) (w : ℕ) → wrong_at format1 p ≡ Ok tt → read_of id ≡ Ok w
    → holds (plane_from format1 p).level1 w ≡ false → holds (plane_from format1 p).level2 (second_of w) ≡ false → find (second_of w) (plane_from format1 p).base ≡ none
    → lookup_call id p ≡ Ok desk_plan
unfolding lookup_call
stranger_answer id p w n r a b c = rw (r, n) (ap Ok (stranger_desk (plane_from format1 p) w a b c))

-- what is found in entries that fit
found-assignable : (v q : ℕ) (es : List Entry) → Every FitsEntry es → find v es ≡ some q → assignable q ≡ true
found-assignable v q [] h = λ e. absurd (none≢some e)
found-assignable v q (x ∷ es) h =
    by_test (λ (o : Option ℕ). o ≡ some q → assignable q ≡ true) (eqb v x.word) (λ t e. let s : q ≡ x.plan = cc in ap assignable s ∙ h.0.plan) (λ t. found-assignable v q es h.1)

-- so the base list of a plane that fits never gives the desk's plan
pub base_not_desk : (F : Format) (P : Plane) → Fits F P → (v q : ℕ) → find v P.base ≡ some q → assignable q ≡ true
base_not_desk F P h v q = found-assignable v q P.base h.entries
