-- `plane_write::write_sound` meets its contract.
-- Assumes nothing.
use Prim.Native.Nat.{ℕ}
use Rattle.std.proofs.Common.{Fits, w64}
use mathlib.Core.Path.{◌≡◌, sym, ◌∙◌}
use native.Mathlib.Omega.{arith}
use lib.ListN.{length, get_or}
use Rattle.table.specs.Calls.{table_of}
use Rattle.plane.specs.Record.{format1}
use Rattle.plane.specs.Plane.{plane_bytes}
use Rattle.plane_write.specs.Write.{plane_of}
use Rattle.plane_write.proofs.Accepted.{Known, known}
use Rattle.plane_write.proofs.Through.{put-short, put-fits}
use Rattle.plane_write.proofs.write_sound.Goals.{After-plane_len-needed, Start}
use Rattle.plane_write.proofs.write_sound.Goals as goal

facts : (c : Start) → ((i : ℕ) → Fits w64 (get_or c.args.t.now i 0)) → Known c.args.t.now
facts c a = known c.args.t.now (λ i. (a i).fits) c.requires.0 c.requires.1

-- the number that was computed is the length of the plane
needed : (c : After-plane_len-needed) → c.plane_len-needed.result ≡ length (plane_bytes format1 (plane_of (table_of c.args.t.now)))
needed c =
    c.plane_len-needed.ensures ∙ sym (known c.args.t.now (λ i. (c.type_inv.t i).fits) c.requires.0 c.requires.1).long

pub bounds-t-0 : goal.bounds-t-0
bounds-t-0 c = omega (arith, facts (goal.at.bounds-t-0 c).Start c.type_inv.t)

pub bounds-t-1 : goal.bounds-t-1
bounds-t-1 c = omega (arith, facts (goal.at.bounds-t-1 c).Start c.type_inv.t)

pub overflow_add-buckets : goal.overflow_add-buckets
overflow_add-buckets c = omega (arith, facts (goal.at.overflow_add-buckets c).Start c.type_inv.t)

pub bounds-t-2 : goal.bounds-t-2
bounds-t-2 c = omega (arith, facts (goal.at.bounds-t-2 c).Start c.type_inv.t)

pub plane_len-needed-requires : goal.plane_len-needed-requires
plane_len-needed-requires c = omega (arith, facts (goal.at.plane_len-needed-requires c).Start c.type_inv.t)

pub returns-then-out-needed : goal.returns-then-out-needed
returns-then-out-needed c =
    put-short (plane_bytes format1 (plane_of (table_of c.args.t.now))) c.args.out.now c.plane_len-needed.result (needed (goal.at.returns-then-out-needed c).After-plane_len-needed) (omega (arith, c.plane_len-needed.ensures))

pub write_plane-requires : goal.write_plane-requires
write_plane-requires c =
    (c.requires.0, c.requires.1, omega (arith, needed (goal.at.write_plane-requires c).After-plane_len-needed))

pub returns : goal.returns
returns c =
    put-fits (plane_bytes format1 (plane_of (table_of c.args.t.now))) c.args.out.now c.plane_len-needed.result (needed (goal.at.returns c).After-plane_len-needed) c.write_plane.new.out (omega arith) c.write_plane.ensures
