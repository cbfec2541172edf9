-- `patch_apply::put_entries` meets its contract. The first i entries are written.
-- Assumes nothing.
use mathlib.Core.Path.{ap, ◌∙◌}
use mathlib.Core.List.{List}
use Prim.Native.Nat.{ℕ, ◌+◌, ◌*◌}
use Rattle.codec.specs.Parts.{written}
use Rattle.plane.specs.Record.{entry_length, entry_record}
use Rattle.patch_apply.proofs.New.{entries_none, entries-next}
use Rattle.patch_apply.proofs.put_entries.Goals as goal

pub loop-i-init : goal.loop-i-init
loop-i-init c = entries_none c.args.at c.args.out.now

pub loop-i-preserved : goal.loop-i-preserved
loop-i-preserved c =
    let e = c.index-base-i.result in
    c.put.ensures ∙ ap (λ (o : List ℕ). written (c.args.at + c.loop-i.i * entry_length) (entry_record e) o) c.loop-i.invariant
    ∙ entries-next c.loop-i.i c.args.at c.args.base.now e c.args.out.now c.loop-i-test.true c.index-base-i.is
