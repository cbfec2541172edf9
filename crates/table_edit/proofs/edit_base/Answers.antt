-- `table_edit::edit_base` meets its contract.
-- Assumes nothing.
use Prim.Native.Nat.{ℕ}
use mathlib.Core.Path.{sym, ap, ◌∙◌}
use Rattle.lists.specs.Entries.{Entry, update, remove}
use Rattle.lists.proofs.Entries.{update-length}
use Rattle.table.specs.Layout.{pairs_from}
use Rattle.table.proofs.Numbers.{length-pairs_from}
use Rattle.table_base.specs.Base.{pairs_in}
use Rattle.table_base.proofs.Shift.{capacity_of, sized}
use Rattle.table_edit.proofs.edit_base.Goals as goal

pub update-requires : goal.update-requires
update-requires c = sized c.requires

pub remove-requires : goal.remove-requires
remove-requires c = sized c.requires

pub returns-in-Change : goal.returns-in-Change
returns-in-Change c =
    let e : Entry = record { word = c.args.v; plan = c.in-Change.plan } in
    let es = pairs_from c.args.count c.args.pairs.now in
    rw c.in-Change.is (
      sym (update-length e es ∙ length-pairs_from c.args.count c.args.pairs.now),
      c.update.ensures ∙ ap (λ (k : ℕ). pairs_in k (update e es)) (capacity_of c.requires),
    )

pub returns-in-Withdraw : goal.returns-in-Withdraw
returns-in-Withdraw c =
    rw c.in-Withdraw.is (c.remove.ensures.0, c.remove.ensures.1 ∙ ap (λ (k : ℕ). pairs_in k (remove c.args.v (pairs_from c.args.count c.args.pairs.now))) (capacity_of c.requires))
