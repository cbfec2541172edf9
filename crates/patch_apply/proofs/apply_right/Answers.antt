-- `patch_apply::apply_right` meets its contract.
-- Assumes nothing.
use mathlib.Core.Path.{sym, ap, ◌∙◌}
use Prim.Native.Nat.{◌≤◌}
use native.Mathlib.Omega.{arith}
use lib.ListN.{length}
use lib.Seq.{length-take-le}
use Rattle.codec.proofs.Part.{length-written}
use Rattle.plane.specs.Record.{format1}
use Rattle.patch_apply.proofs.New.{known}
use Rattle.patch_apply.proofs.Call.{front-part, old_wrong, old_right}
use Rattle.patch_apply.proofs.apply_right.Goals.{After-build-len}
use Rattle.patch_apply.proofs.apply_right.Goals as goal

-- the new plane is in `new`
room : (c : After-build-len) → c.build-len.result ≤ length c.build-len.new.new
room c =
    let f = known format1 c.args.plane.now.bytes.now c.args.d.now c.args.plane.now.octets (λ i. (c.type_inv.d i).fits) c.args.plane.now.right c.requires.0 (length c.args.base.now) (ap length c.requires.1) in
    let l = ap length c.build-len.ensures.1 ∙ length-written 0 _ _ in
    omega (arith, l, c.build-len.ensures.0, f)

pub returns-then-get_u64-fnv : goal.returns-then-get_u64-fnv
returns-then-get_u64-fnv c =
    old_wrong format1 c.args.plane.now.bytes.now c.args.d.now c.args.out.now c.get_u64.result c.fnv.result c.get_u64.ensures c.fnv.ensures c.if-get_u64-fnv.true

pub slice_bounds-new-end : goal.slice_bounds-new-end
slice_bounds-new-end c = room (goal.at.slice_bounds-new-end c).After-build-len

pub slice_bounds-put_summed-end : goal.slice_bounds-put_summed-end
slice_bounds-put_summed-end c = sym (length-take-le _ _ (room (goal.at.slice_bounds-put_summed-end c).After-build-len))

pub returns : goal.returns
returns c =
    let bytes = front-part _ _ _ c.build-len.result c.build-len.ensures.0 c.build-len.ensures.1 (room (goal.at.returns c).After-build-len) in
    old_right format1 c.args.plane.now.bytes.now c.args.d.now c.args.out.now c.get_u64.result c.fnv.result c.get_u64.ensures c.fnv.ensures c.if-get_u64-fnv.false _ _ c.get_u64-sum.result c.put_summed.result bytes c.get_u64-sum.ensures c.put_summed.ensures
