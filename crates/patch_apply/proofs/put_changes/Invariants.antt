-- `patch_apply::put_changes` meets its contract. The first i changes are written.
-- Assumes nothing.
use mathlib.Core.Path.{◌≡◌}
use Prim.Native.Nat.{◌+◌, ◌-◌, ◌*◌}
use lib.ListN.{drop}
use Rattle.plane.specs.Record.{format1}
use Rattle.patch.specs.Record.{change_length}
use Rattle.patch.specs.Wrong.{changes_at}
use Rattle.patch_apply.specs.Steps.{changed}
use Rattle.patch_apply.proofs.New.{changes_from}
use Rattle.patch_apply.proofs.put_changes.Given as goal

abbrev pub invariant-loop-i : goal.invariant-loop-i
invariant-loop-i l =
    changed format1 (changes_from format1 (l.k - l.i) (drop (changes_at + l.i * change_length format1) l.d)) l.new ≡ changed format1 (changes_from format1 l.k (drop changes_at l.d)) l.initial.new
