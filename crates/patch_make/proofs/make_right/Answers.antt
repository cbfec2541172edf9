-- `patch_make::make_right` meets its contract.
-- Assumes nothing.
use mathlib.Core.Path.{◌≡◌, refl, sym, ap, ◌∙◌}
use mathlib.Core.Bool.{true}
use Prim.Native.Nat.{◌≤◌}
use native.Mathlib.Omega.{arith}
use lib.ListN.{length}
use lib.Seq.{length-take-le}
use borrow.Author.Tests.{eq-eqb, ne_eqb}
use Rattle.codec.proofs.Part.{length-written}
use Rattle.plane.specs.Record.{format1}
use Rattle.plane.proofs.Scan.{known}
use Rattle.patch.specs.Patch.{patch_bytes, patch_of}
use Rattle.patch.specs.Calls.{alike}
use Rattle.patch.proofs.Longest.{made_most}
use Rattle.patch_make.proofs.Whole.{made-front}
use Rattle.patch_make.proofs.make_right.Goals.{After-build-len, Else-old-new-2}
use Rattle.patch_make.proofs.make_right.Goals as goal

planes : (c : Else-old-new-2) → alike c.args.old.now.bytes.now c.args.new.now.bytes.now ≡ true
planes c = rw (eq-eqb _ _ c.if-old-new.false, eq-eqb _ _ c.if-old-new-2.false)

room : (c : Else-old-new-2) → length (patch_bytes format1 (patch_of format1 c.args.old.now.bytes.now c.args.new.now.bytes.now)) ≤ 6598
room c = made_most c.args.old.now.bytes.now c.args.new.now.bytes.now c.args.old.now.octets c.args.new.now.octets c.args.old.now.right c.args.new.now.right

within : (c : After-build-len) → c.build-len.result ≤ length c.build-len.new.out
within c =
    omega (arith, ap length c.build-len.ensures.1 ∙ length-written 0 _ _, c.build-len.ensures.0, made_most c.args.old.now.bytes.now c.args.new.now.bytes.now c.args.old.now.octets c.args.new.now.octets c.args.old.now.right c.args.new.now.right)

pub bounds-old-2 : goal.bounds-old-2
bounds-old-2 c = omega (arith, known format1 c.args.old.now.bytes.now c.args.old.now.right)

pub bounds-new-2 : goal.bounds-new-2
bounds-new-2 c = omega (arith, known format1 c.args.new.now.bytes.now c.args.new.now.right)

pub returns-then-old-new : goal.returns-then-old-new
returns-then-old-new c = rw (ne_eqb _ _ c.if-old-new.true) (refl, refl)

pub bounds-old-3 : goal.bounds-old-3
bounds-old-3 c = omega (arith, known format1 c.args.old.now.bytes.now c.args.old.now.right)

pub bounds-new-3 : goal.bounds-new-3
bounds-new-3 c = omega (arith, known format1 c.args.new.now.bytes.now c.args.new.now.right)

pub returns-then-old-new-2 : goal.returns-then-old-new-2
returns-then-old-new-2 c = rw (eq-eqb _ _ c.if-old-new.false, ne_eqb _ _ c.if-old-new-2.true) (refl, refl)

pub build-len-requires : goal.build-len-requires
build-len-requires c = record { value = planes (goal.at.build-len-requires c).Else-old-new-2; room = omega arith }

pub slice_bounds-made-end : goal.slice_bounds-made-end
slice_bounds-made-end c = within (goal.at.slice_bounds-made-end c).After-build-len

pub slice_bounds-put_front-end : goal.slice_bounds-put_front-end
slice_bounds-put_front-end c = sym (length-take-le c.build-len.result c.build-len.new.out (within (goal.at.slice_bounds-put_front-end c).After-build-len))

pub returns : goal.returns
returns c =
    let front = made-front (patch_bytes format1 (patch_of format1 c.args.old.now.bytes.now c.args.new.now.bytes.now)) c.build-len.new.out _ c.build-len.result (room (goal.at.returns c).Else-old-new-2) c.build-len.ensures in
    rw (planes (goal.at.returns c).Else-old-new-2) (rw front at c.put_front.ensures)
