-- The causes of the two calls in document 02's words and order, with what is returned with each and what an accepted call returns. p, q are any
-- bytes as planes, d as patch, out as output; cause 10 is that of the crate plane, 9 that of plane_write.
-- Assumes nothing.
use Rattle.std.specs.Prelude.{ℕ, ◌≡◌, ◌⊎◌, List, [], ◌∷◌, length}
use Rattle.hash.specs.Fnv.{fnv_of}
use Rattle.answer.specs.Causes.{Cause, cause_if}
use Rattle.plane.specs.Record.{Format, format1}
use Rattle.plane.specs.Plane.{plane_from, buckets1, buckets2}
use Rattle.plane.specs.Causes.{wrong_plane}
use Rattle.plane_write.specs.Causes.{too_short}
use Rattle.patch.specs.Patch.{patch_bytes, patch_of}
use Rattle.patch.specs.Wrong.{patch_from}
use Rattle.patch.specs.Calls.{applied}
use Rattle.patch.specs.Offset.{WrongPatchOffset}

-- "11: planes differ in bucket numbers"
abbrev pub unlike_planes : List ℕ → List ℕ → Cause
unlike_planes p q = cause_if 11 ((buckets1 p ≡ buckets1 q → ⊥) ⊎ (buckets2 p ≡ buckets2 q → ⊥)) 0

-- "12: a patch record cut, misplaced, of a wrong kind or with a value not allowed, or bytes after kind 4 .. with the offset in the patch as 10 gives it"
abbrev pub wrong_patch : Format → List ℕ → List ℕ → Cause
wrong_patch F p d = record { number = 12; met = WrongPatchOffset F (plane_from F p) d }

-- "13: a sum doesn't fit": that of the old plane's bytes, or that of the new one's
abbrev pub wrong_sum : Format → List ℕ → List ℕ → Cause
wrong_sum F p d = cause_if 13 (((patch_from F d).old_sum ≡ fnv_of p → ⊥) ⊎ ((patch_from F d).new_sum ≡ fnv_of (applied F p d) → ⊥)) 0

-- those that making can meet: "after both pass 10, old first; .. then 9 for a short output"
abbrev pub make_causes : List ℕ → List ℕ → List ℕ → List Cause
make_causes p q out = wrong_plane format1 p ∷ wrong_plane format1 q ∷ unlike_planes p q ∷ too_short (patch_bytes format1 (patch_of format1 p q)) out ∷ []

-- "both calls return the length"
abbrev pub make_returns : List ℕ → List ℕ → ℕ → Type 0
make_returns p q v = v ≡ length (patch_bytes format1 (patch_of format1 p q))

-- those that applying can meet
abbrev pub apply_causes : List ℕ → List ℕ → List ℕ → List Cause
apply_causes p d out = wrong_plane format1 p ∷ wrong_patch format1 p d ∷ wrong_sum format1 p d ∷ too_short (applied format1 p d) out ∷ []

-- the length of the new plane
abbrev pub apply_returns : List ℕ → List ℕ → ℕ → Type 0
apply_returns p d v = v ≡ length (applied format1 p d)
