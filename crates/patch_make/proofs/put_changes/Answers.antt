-- `patch_make::put_changes` meets its contract. The records of the buckets from i on are still to come.
-- Assumes nothing.
use mathlib.Core.Path.{◌≡◌}
use Prim.Native.Nat.{◌+◌, ◌≤◌}
use native.Mathlib.Omega.{arith}
use borrow.Author.Rules.{rules}
use Rattle.plane.specs.Record.{format1}
use Rattle.plane.specs.Plane.{bucket_count}
use Rattle.patch_make.proofs.Put.{left-all, left_less, left_none, left-length, change_less, Alike, planes_alike, planes_next, lent_length, planes_none}
use Rattle.patch_make.proofs.put_changes.Goals.{Start}
use Rattle.patch_make.proofs.put_changes.Goals as goal

planes : (c : Start) → Alike format1 c.args.old.now.bytes.now c.args.new.now.bytes.now
planes c =
    planes_alike format1 c.args.old.now.bytes.now c.args.new.now.bytes.now c.args.old.now.right c.args.new.now.right c.requires.0 c.args.old.now.octets c.args.new.now.octets

pub loop-i-init : goal.loop-i-init
loop-i-init c = (left-all, omega arith)

pub overflow_cast-i : goal.overflow_cast-i
overflow_cast-i c = let h = planes (goal.at.overflow_cast-i c).Start in search rules

pub slice_bounds-put_change-count : goal.slice_bounds-put_change-count
slice_bounds-put_change-count c = let h = planes (goal.at.slice_bounds-put_change-count c).Start in search rules

pub slice_bounds-put_change-start : goal.slice_bounds-put_change-start
slice_bounds-put_change-start c = let h = planes (goal.at.slice_bounds-put_change-start c).Start in search rules

pub slice_bounds-put_change-end : goal.slice_bounds-put_change-end
slice_bounds-put_change-end c = let h = planes (goal.at.slice_bounds-put_change-end c).Start in search rules

pub slice_bounds-put_change-end-in-loop-i : goal.slice_bounds-put_change-end-in-loop-i
slice_bounds-put_change-end-in-loop-i c = let h = planes (goal.at.slice_bounds-put_change-end-in-loop-i c).Start in search rules

pub put_change-at-requires : goal.put_change-at-requires
put_change-at-requires c =
    let n : c.loop-i.i + 1 ≤ bucket_count c.args.old.now.bytes.now = search rules in
    (lent_length (planes (goal.at.put_change-at-requires c).Start) c.loop-i.i n, omega (arith, n, c.requires.1, left-length c.loop-i.invariant.0))

pub loop-i-preserved : goal.loop-i-preserved
loop-i-preserved c =
    let n : c.loop-i.i + 1 ≤ bucket_count c.args.old.now.bytes.now = search rules in (
      left_less c.loop-i.invariant.0 _ (planes_next (planes (goal.at.loop-i-preserved c).Start) c.loop-i.i n) c.put_change-at.ensures.0 c.put_change-at.ensures.1,
      omega (arith, change_less format1 c.loop-i.at c.loop-i.i c.put_change-at.result _ _ (lent_length (planes (goal.at.loop-i-preserved c).Start) c.loop-i.i n) c.put_change-at.ensures.0),
    )

pub shape_of-out : goal.shape_of-out
shape_of-out c = left-length c.loop-i.invariant.0

pub returns : goal.returns
returns c =
    let z : c.loop-i.i ≡ bucket_count c.args.old.now.bytes.now = omega arith in
    left_none c.loop-i.invariant.0 (rw z (planes_none (planes (goal.at.returns c).Start)))
