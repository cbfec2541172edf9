-- `patch_apply::build` meets its contract.
-- Assumes nothing.
use lib.ListN.{length, get_or}
use Prim.Native.Nat.{ℕ}
use Rattle.std.proofs.Common.{Fits, w8}
use mathlib.Core.Path.{◌≡◌, refl, sym, ap}
use native.Mathlib.Omega.{arith}
use lib.Seq.{length-take-le}
use Rattle.plane.specs.Record.{format1}
use Rattle.patch.specs.Wrong.{changes_in}
use Rattle.patch_apply.proofs.New.{Known, known, built}
use Rattle.patch_apply.proofs.build.Goals.{After-run-changes, Start}
use Rattle.patch_apply.proofs.build.Goals as goal

-- what the planes and the patch say
facts : (c : Start) → ((i : ℕ) → Fits w8 (get_or c.args.d.now i 0)) → Known format1 c.args.plane.now.bytes.now c.args.d.now (length c.args.base.now)
facts c b =
    known format1 c.args.plane.now.bytes.now c.args.d.now c.args.plane.now.octets (λ i. (b i).fits) c.args.plane.now.right c.requires.plane_value.0 (length c.args.base.now) (ap length c.requires.plane_value.1)

-- the changes of the patch
all : (c : After-run-changes) → c.run-changes.result ≡ changes_in format1 c.args.d.now
unfolding changes_in
all c = c.run-changes.ensures

pub bounds-plane-2 : goal.bounds-plane-2
bounds-plane-2 c = omega (arith, facts (goal.at.bounds-plane-2 c).Start c.type_inv.d)

pub bounds-plane-3 : goal.bounds-plane-3
bounds-plane-3 c = omega (arith, facts (goal.at.bounds-plane-3 c).Start c.type_inv.d)

pub overflow_add-end_at : goal.overflow_add-end_at
overflow_add-end_at c = omega (arith, facts (goal.at.overflow_add-end_at c).Start c.type_inv.d)

pub slice_bounds-put_bytes-end : goal.slice_bounds-put_bytes-end
slice_bounds-put_bytes-end c = sym (length-take-le _ _ (omega (arith, facts (goal.at.slice_bounds-put_bytes-end c).Start c.type_inv.d)))

pub put_changes-requires : goal.put_changes-requires
put_changes-requires c =
    omega (arith, all (goal.at.put_changes-requires c).After-run-changes, facts (goal.at.put_changes-requires c).Start c.type_inv.d)

pub overflow_cast-buckets1 : goal.overflow_cast-buckets1
overflow_cast-buckets1 c = omega (arith, facts (goal.at.overflow_cast-buckets1 c).Start c.type_inv.d)

pub overflow_cast-buckets2 : goal.overflow_cast-buckets2
overflow_cast-buckets2 c = omega (arith, facts (goal.at.overflow_cast-buckets2 c).Start c.type_inv.d)

pub put_header-requires : goal.put_header-requires
put_header-requires c = omega (arith, facts (goal.at.put_header-requires c).Start c.type_inv.d)

pub put_entries-requires : goal.put_entries-requires
put_entries-requires c =
    omega (arith, facts (goal.at.put_entries-requires c).Start c.type_inv.d)

pub put_end-requires : goal.put_end-requires
put_end-requires c = omega (arith, facts (goal.at.put_end-requires c).Start c.type_inv.d)

pub overflow_add-result : goal.overflow_add-result
overflow_add-result c = omega (arith, facts (goal.at.overflow_add-result c).Start c.type_inv.d)

pub returns : goal.returns
returns c =
    let f = facts (goal.at.returns c).Start c.type_inv.d in (
      rw c.base_at-entries_at.ensures.at f.long,
      built format1 c.args.plane.now.bytes.now c.args.d.now c.args.plane.now.octets (λ i. (c.type_inv.d i).fits) c.args.plane.now.right c.requires.plane_value.0
          c.run-changes.result (length c.args.base.now) c.args.new.now _ _ _ (omega (arith, f)) (all (goal.at.returns c).After-run-changes) (rw c.base_at-entries_at.ensures.at at c.put_bytes.ensures) c.put_changes.ensures c.put_header.ensures
          c.args.base.now _ _ c.requires.plane_value.1 refl (rw c.base_at-entries_at.ensures.at at c.put_entries.ensures) (rw c.base_at-entries_at.ensures.at at c.put_end.ensures),
    )
