-- The plane of a table, also after a list of calls, and the patch between two of them; the statements about patches cite them.
-- Assumes nothing.
use Rattle.std.specs.Prelude.{ℕ, List}
use Rattle.model.specs.Request.{Request}
use Rattle.model.specs.Machine.{after}
use Rattle.table.specs.Calls.{table_of}
use Rattle.table.specs.History.{tables}
use Rattle.plane.specs.Record.{format1}
use Rattle.plane.specs.Plane.{plane_bytes}
use Rattle.plane_write.specs.Write.{plane_of}
use Rattle.patch.specs.Patch.{patch_bytes, patch_of}

-- the bytes of the plane of the table t
abbrev pub plane_in : List ℕ → List ℕ
plane_in t = plane_bytes format1 (plane_of (table_of t))

-- of the table that the calls ps leave of t
abbrev pub plane_after : List ℕ → List Request → List ℕ
plane_after t ps = plane_in (after tables t ps)

-- the bytes of the patch from the plane of the table t to that of u
abbrev pub patch_between : List ℕ → List ℕ → List ℕ
patch_between t u = patch_bytes format1 (patch_of format1 (plane_in t) (plane_in u))
