-- `patch_check::check` meets its contract: each kind is looked at where nothing before it is wrong.
-- Assumes nothing.
use mathlib.Core.Path.{◌≡◌, sym, ◌∙◌}
use mathlib.Core.Bool.{true}
use Prim.Native.Nat.{◌+◌, ◌*◌, ◌≤◌}
use native.Mathlib.Omega.{arith}
use lib.ListN.{length}
use Rattle.std.specs.Prelude.{Ok}
use Rattle.std.proofs.lemmas.Result.{err_from_is_err_and}
use Rattle.plane.specs.Record.{format1}
use Rattle.plane.specs.Plane.{whole, plane_from}
use Rattle.plane.proofs.Scan.{refused, passed, whole_length}
use Rattle.patch.specs.Record.{sums_kind, sums_body, change_length}
use Rattle.patch.specs.Wrong.{changes_at, changes_wrong}
use Rattle.patch_check.proofs.Checked.{sums-wrong, changes-wrong, base-wrong, gone_at_lem, changes_scan, gone-start}
use Rattle.patch_check.proofs.check.Goals.{Else-not-whole, In_ok-changes_wrong}
use Rattle.patch_check.proofs.check.Goals as goal

-- the sums are there
sums : (c : Else-not-whole) → whole sums_kind sums_body c.args.d.now ≡ true
sums c = passed c.whole.result c.whole.ensures c.if-not-whole.false

-- nothing is wrong in kind 6
changes_right : (c : In_ok-changes_wrong) → changes_wrong format1 (plane_from format1 c.args.plane.now.bytes.now) c.args.d.now ≡ Ok tt
changes_right c = sym (changes_scan format1 _ _ c.run-changes.result c.run-changes.ensures) ∙ sym (rw c.buckets.ensures.count at c.in_ok-changes_wrong.ensures)

gone_room : (c : In_ok-changes_wrong) → whole sums_kind sums_body c.args.d.now ≡ true → changes_at + c.run-changes.result * change_length format1 ≤ length c.args.d.now
gone_room c t =
    gone-start format1 c.args.plane.now.bytes.now c.args.d.now c.run-changes.result c.run-changes.ensures (omega (arith, whole_length sums_kind sums_body c.args.d.now t)) (changes_right c)

pub returns-then-not-whole : goal.returns-then-not-whole
returns-then-not-whole c = rw (sums-wrong format1 _ _ (refused c.whole.result c.whole.ensures c.if-not-whole.true))

pub returns-in_err-changes_wrong : goal.returns-in_err-changes_wrong
returns-in_err-changes_wrong c =
    let e = err_from_is_err_and c.from_residual.result c.from_residual.ensures.1 in
    let w = sym (changes_scan format1 c.args.plane.now.bytes.now c.args.d.now c.run-changes.result c.run-changes.ensures) ∙ sym (rw c.buckets.ensures.count at c.in_err-changes_wrong.ensures) in
    rw (e.1, e.2, changes-wrong format1 _ _ (sums (goal.at.returns-in_err-changes_wrong c).Else-not-whole) w)

pub overflow_mul-changes : goal.overflow_mul-changes
overflow_mul-changes c = let a = goal.at.overflow_mul-changes c in record { fits = omega (arith, gone_room a.In_ok-changes_wrong (sums a.Else-not-whole)) }

pub overflow_add-changes : goal.overflow_add-changes
overflow_add-changes c = let a = goal.at.overflow_add-changes c in record { fits = omega (arith, gone_room a.In_ok-changes_wrong (sums a.Else-not-whole)) }

pub check_base-requires : goal.check_base-requires
check_base-requires c =
    let a = goal.at.check_base-requires c in
    (gone_at_lem format1 c.args.plane.now.bytes.now c.args.d.now c.run-changes.result c.run-changes.ensures, gone_room a.In_ok-changes_wrong (sums a.Else-not-whole), c.new-new.ensures)

pub returns-in_err-check_base : goal.returns-in_err-check_base
returns-in_err-check_base c =
    let a = goal.at.returns-in_err-check_base c in
    let e = err_from_is_err_and c.from_residual-in_err-check_base.result c.from_residual-in_err-check_base.ensures.1 in
    rw (e.1, e.2) (c.in_err-check_base.ensures ∙ rw (base-wrong format1 _ _ (sums a.Else-not-whole) (changes_right a.In_ok-changes_wrong)))

pub returns : goal.returns
returns c =
    let a = goal.at.returns c in
    c.in_ok-check_base.ensures ∙ rw (base-wrong format1 _ _ (sums a.Else-not-whole) (changes_right a.In_ok-changes_wrong))
