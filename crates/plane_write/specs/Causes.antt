-- The causes of the writer in document 01's words and order, with what is returned with each and what an accepted call returns. t are any
-- numbers as table, out any bytes as output; causes 4 and 5 are those of the crate table.
-- Assumes nothing.
use Rattle.std.specs.Prelude.{ℕ, ◌<◌, ◌≡◌, List, [], ◌∷◌, length}
use Rattle.answer.specs.Causes.{Cause, cause_if}
use Rattle.table.specs.Calls.{table_of}
use Rattle.table.specs.Causes.{wrong_table, not_sound}
use Rattle.plane.specs.Record.{format1}
use Rattle.plane.specs.Plane.{plane_bytes}
use Rattle.plane_write.specs.Write.{plane_of}

-- an output shorter than what is to be written, with the length needed
abbrev pub too_short : List ℕ → List ℕ → Cause
too_short bytes out = cause_if 9 (length out < length bytes) (length bytes)

-- the length of the table's plane
abbrev pub length_needed : List ℕ → ℕ
length_needed t = length (plane_bytes format1 (plane_of (table_of t)))

-- "output shorter than the plane"; "length needed"
abbrev pub short_output : List ℕ → List ℕ → Cause
short_output t out = too_short (plane_bytes format1 (plane_of (table_of t))) out

-- those that the writer can meet
abbrev pub write_causes : List ℕ → List ℕ → List Cause
write_causes t out = wrong_table t ∷ not_sound t ∷ short_output t out ∷ []

-- if it meets none: "writer the length"
abbrev pub write_returns : List ℕ → ℕ → Type 0
write_returns t v = v ≡ length_needed t
