-- The causes of the lookup in document 01's words and order, with what is returned with each and what an accepted lookup returns.
-- p are any bytes as plane, id is anything as identifier; causes 15, 1 and 2 are those of the identifier crate.
-- Assumes nothing.
use Rattle.std.specs.Prelude.{ℕ, ◌≡◌, List, [], ◌∷◌, ◌++◌}
use Rattle.answer.specs.Causes.{Cause}
use Rattle.identifier.specs.Identifier.{Token, word_of}
use Rattle.identifier.specs.Causes.{id_causes}
use Rattle.plane.specs.Record.{Format, format1}
use Rattle.plane.specs.Plane.{plane_from}
use Rattle.plane.specs.Lookup.{plan_from}
use Rattle.plane.specs.Offset.{WrongOffset}

-- "plane wrong"; "offset of the first byte of the first record that is cut, of a wrong kind, or with a value not allowed; or of the first byte
-- after kind 4"
abbrev pub wrong_plane : Format → List ℕ → Cause
wrong_plane F p = record { number = 10; met = WrongOffset F p }

-- those that the lookup can meet
abbrev pub lookup_causes : Token → List ℕ → List Cause
lookup_causes id p = id_causes id ++ (wrong_plane format1 p ∷ [])

-- if it meets none it returns the plan that the plane gives for the identifier's word
abbrev pub lookup_returns : Token → List ℕ → ℕ → Type 0
lookup_returns id p v = v ≡ plan_from (plane_from format1 p) (word_of id)
