-- `patch_apply::put_changes` meets its contract. The first i changes are written.
-- Assumes nothing.
use mathlib.Core.Path.{◌≡◌, ◌∙◌}
use Prim.Native.Nat.{◌+◌, ◌-◌, ◌*◌}
use native.Mathlib.Omega.{arith}
use lib.ListN.{drop}
use Rattle.plane.specs.Record.{format1}
use Rattle.patch.specs.Record.{change_length}
use Rattle.patch.specs.Wrong.{changes_at}
use Rattle.patch_apply.proofs.New.{changes_from, change-next, changes_done}
use Rattle.patch_apply.proofs.put_changes.Goals as goal

pub loop-i-preserved : goal.loop-i-preserved
loop-i-preserved c =
    let i = c.loop-i.i in
    let left = c.args.k - i in
    let at = changes_at + i * change_length format1 in
    let fewer : c.args.k - (i + 1) ≡ left - 1 = omega arith in
    let next : changes_at + (i + 1) * change_length format1 ≡ at + change_length format1 = omega arith in
    rw (fewer, next) (change-next format1 at c.args.d.now (omega arith) (λ j. (c.type_inv.d j).fits) left c.loop-i.new c.put_bytes.new.d (omega arith) c.put_bytes.ensures ∙ c.loop-i.invariant)

pub returns : goal.returns
returns c =
    changes_done format1 (changes_from format1 c.args.k (drop changes_at c.args.d.now)) (c.args.k - c.loop-i.i) (drop (changes_at + c.loop-i.i * change_length format1) c.args.d.now) c.loop-i.new c.args.new.now (omega arith) c.loop-i.invariant
