-- `plane_write::write_plane` meets its contract.
-- Assumes nothing.
use Prim.Native.Nat.{ℕ}
use Rattle.std.proofs.Common.{Fits, w64}
use mathlib.Core.Path.{ap, ◌∙◌}
use native.Mathlib.Omega.{arith}
use lib.ListN.{length, get_or}
use Rattle.codec.proofs.Part.{length-written}
use Rattle.table.specs.Calls.{rows}
use Rattle.plane.specs.Record.{format1}
use Rattle.plane_write.proofs.Accepted.{Known, known}
use Rattle.plane_write.proofs.Through.{bounds-low, plans-low, front-put}
use Rattle.plane_write.proofs.write_plane.Goals.{Start}
use Rattle.plane_write.proofs.write_plane.Goals as goal

facts : (c : Start) → ((i : ℕ) → Fits w64 (get_or c.args.t.now i 0)) → Known c.args.t.now
facts c a = known c.args.t.now (λ i. (a i).fits) c.requires.0 c.requires.1

pub bounds-t-0 : goal.bounds-t-0
bounds-t-0 c = omega (arith, facts (goal.at.bounds-t-0 c).Start c.type_inv.t)

pub bounds-t-1 : goal.bounds-t-1
bounds-t-1 c = omega (arith, facts (goal.at.bounds-t-1 c).Start c.type_inv.t)

pub bounds-t-2 : goal.bounds-t-2
bounds-t-2 c = omega (arith, facts (goal.at.bounds-t-2 c).Start c.type_inv.t)

pub put_header-requires : goal.put_header-requires
put_header-requires c = omega (arith, facts (goal.at.put_header-requires c).Start c.type_inv.t)

pub overflow_add-buckets1 : goal.overflow_add-buckets1
overflow_add-buckets1 c = omega (arith, facts (goal.at.overflow_add-buckets1 c).Start c.type_inv.t)

pub put_records-requires : goal.put_records-requires
put_records-requires c =
    let f = facts (goal.at.put_records-requires c).Start c.type_inv.t in
    let l = ap length c.put_header.ensures ∙ length-written 0 _ c.args.out.now in
    record {
      entries_in_bounds = (omega arith, omega (arith, l, c.requires.2));
      low = λ i k. omega (arith, bounds-low rows format1 c.args.t.now f.fits i k);
      plans = λ i k. plans-low rows format1 c.args.t.now f.fits i k;
    }

pub returns : goal.returns
returns c =
    let e = rw c.put_header.ensures at c.put_records.ensures in
    front-put rows format1 c.args.t.now c.args.out.now c.put_records.new.out c.requires.2 e
