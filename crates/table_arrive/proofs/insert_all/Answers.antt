-- `table_arrive::insert_all` meets its contract.
-- Assumes nothing.
use native.Mathlib.Omega.{arith}
use mathlib.Core.Path.{sym, ap, ◌∙◌}
use mathlib.Core.List.{◌∷◌}
use Prim.Native.Nat.{suc}
use lib.ListN.{drop}
use Rattle.lists.specs.Entries.{Entry}
use Rattle.table_base.proofs.Shift.{length-of, capacity_of, sized}
use lib.Seq.{drop-cons}
use Rattle.table_arrive.proofs.Tables.{inserting_starts, inserting_next, inserting_ends}
use Rattle.table_arrive.proofs.insert_all.Goals as goal

pub loop-i-init : goal.loop-i-init
loop-i-init c = inserting_starts _ _ _ c.requires.0

pub insert-requires : goal.insert-requires
insert-requires c =
    (sized c.loop-i.invariant.pairs, omega (arith, c.requires.1, capacity_of c.loop-i.invariant.pairs))

pub loop-i-preserved : goal.loop-i-preserved
loop-i-preserved c =
    inserting_next _ _ _ _ _ c.loop-i.invariant _ _ (drop-cons c.args.entries.now c.loop-i.i _ c.loop-i-test.true ∙ ap (λ (e : Entry). e ∷ drop (suc c.loop-i.i) c.args.entries.now) (sym (c.e.view_is ∙ c.index-entries-i.is))) (omega (arith, c.requires.1)) c.insert.ensures

pub shape_of-pairs : goal.shape_of-pairs
shape_of-pairs c = length-of c.loop-i.invariant.pairs ∙ sym (length-of c.requires.0)

pub returns : goal.returns
returns c =
    inserting_ends _ _ _ _ _ c.loop-i.invariant (omega (arith, c.loop-i-test.false))
