-- `patch_make::build` meets its contract.
-- Assumes nothing.
use mathlib.Core.List.{List}
use mathlib.Core.Path.{◌≡◌, sym, ap, ◌∙◌}
use Prim.Native.Nat.{◌+◌, ◌≤◌, ℕ}
use native.Mathlib.Omega.{arith}
use lib.ListN.{length}
use Rattle.codec.specs.Parts.{written}
use Rattle.codec.proofs.Part.{length-written}
use Rattle.plane.specs.Record.{format1, end_record, end_length}
use Rattle.patch.specs.Patch.{patch_bytes, patch_of}
use Rattle.patch.specs.Wrong.{changes_at}
use Rattle.patch.proofs.Longest.{made_most}
use Rattle.patch.proofs.Statements.{format1_own}
use Rattle.patch_make.proofs.Put.{Alike, planes_alike}
use Rattle.patch_make.proofs.Whole.{changes_most, patch_put}
use Rattle.patch_make.proofs.build.Goals.{After-put_base-end_at, Start}
use Rattle.patch_make.proofs.build.Goals as goal

planes : (c : Start) → Alike format1 c.args.old.now.bytes.now c.args.new.now.bytes.now
planes c =
    planes_alike format1 c.args.old.now.bytes.now c.args.new.now.bytes.now c.args.old.now.right c.args.new.now.right c.requires.value c.args.old.now.octets c.args.new.now.octets

made : (c : After-put_base-end_at) → (c.put_base-end_at.result + end_length ≡ length (patch_bytes format1 (patch_of format1 c.args.old.now.bytes.now c.args.new.now.bytes.now))) × (written c.put_base-end_at.result end_record c.put_base-end_at.new.out ≡ written 0 (patch_bytes format1 (patch_of format1 c.args.old.now.bytes.now c.args.new.now.bytes.now)) c.args.out.now)
made c =
    patch_put format1 c.args.old.now.bytes.now c.args.new.now.bytes.now _ _ c.put_changes-base_at.result c.put_base-end_at.result c.args.out.now c.put_sums.new.out c.put_changes-base_at.new.out c.put_base-end_at.new.out
    c.fnv.ensures c.fnv-2.ensures c.put_sums.ensures c.put_changes-base_at.ensures c.put_base-end_at.ensures

short : (p q : List ℕ) → Alike format1 p q → length (patch_bytes format1 (patch_of format1 p q)) ≤ 6598
short p q h = made_most p q h.old_bytes h.new_bytes h.old h.new

pub put_changes-base_at-requires : goal.put_changes-base_at-requires
put_changes-base_at-requires c =
    let l = ap length c.put_sums.ensures ∙ length-written 0 _ c.args.out.now in
    (c.requires.value, omega (arith, l, c.requires.room, (planes (goal.at.put_changes-base_at-requires c).Start).most))

pub put_base-end_at-requires : goal.put_base-end_at-requires
put_base-end_at-requires c =
    let l = ap length c.put_changes-base_at.ensures.1 ∙ length-written changes_at _ c.put_sums.new.out ∙ ap length c.put_sums.ensures ∙ length-written 0 _ c.args.out.now in
    (omega (arith, c.put_changes-base_at.ensures.0, changes_most format1_own (planes (goal.at.put_base-end_at-requires c).Start), (planes (goal.at.put_base-end_at-requires c).Start).most, l, c.requires.room))

pub put_end-requires : goal.put_end-requires
put_end-requires c =
    let l = sym (length-written c.put_base-end_at.result end_record c.put_base-end_at.new.out) ∙ ap length (made (goal.at.put_end-requires c).After-put_base-end_at).1 ∙ length-written 0 (patch_bytes format1 (patch_of format1 c.args.old.now.bytes.now c.args.new.now.bytes.now)) c.args.out.now in
    omega (arith, (made (goal.at.put_end-requires c).After-put_base-end_at).0, short _ _ (planes (goal.at.put_end-requires c).Start), l, c.requires.room)

pub overflow_add-result : goal.overflow_add-result
overflow_add-result c = record { fits = omega (arith, (made (goal.at.overflow_add-result c).After-put_base-end_at).0, short _ _ (planes (goal.at.overflow_add-result c).Start)) }

pub returns : goal.returns
returns c = let m = made (goal.at.returns c).After-put_base-end_at in (m.0, c.put_end.ensures ∙ m.1)
