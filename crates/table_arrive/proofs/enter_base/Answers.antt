-- `table_arrive::enter_base` meets its contract.
-- Assumes nothing.
use Prim.Native.Nat.{◌≤◌}
use native.Mathlib.Omega.{arith}
use mathlib.Core.Path.{ap, ◌∙◌}
use mathlib.Core.List.{List}
use lib.ListN.{length}
use Rattle.lists.specs.Entries.{Entry, insert_all}
use Rattle.table.specs.Layout.{base_pairs}
use Rattle.table.specs.Calls.{rows, solutions, table_of}
use Rattle.table_layout.proofs.Shape.{place_le, last_read, last_room, last-put}
use Rattle.table_arrive.proofs.Tables.{count0, flat, shape, long, last_pairs}
use Rattle.table_arrive.proofs.Settled.{insert-all-length}
use borrow.Author.Rules.{rules}
use Rattle.table_arrive.proofs.enter_base.Goals.{After-slice_known-2-1}
use Rattle.table_arrive.proofs.enter_base.Goals as goal

-- the base list lies in the table
within : (c : After-slice_known-2-1) → c.base_place-a.result ≤ length c.args.t.now
within c = place_le rows solutions _ (flat rows solutions _ c.requires.0) _ c.base_place-a.ensures

pub base_place-a-requires : goal.base_place-a-requires
base_place-a-requires c = shape rows solutions _ c.requires.0

pub bounds-t-2 : goal.bounds-t-2
bounds-t-2 c = let h = long rows solutions _ c.requires.0 in omega arith

pub offset_bounds-t-a : goal.offset_bounds-t-a
offset_bounds-t-a c = let h = within (goal.at.offset_bounds-t-a c).After-slice_known-2-1 in search rules

pub slice_bounds-insert_all-count : goal.slice_bounds-insert_all-count
slice_bounds-insert_all-count c = within (goal.at.slice_bounds-insert_all-count c).After-slice_known-2-1

pub slice_bounds-insert_all-start : goal.slice_bounds-insert_all-start
slice_bounds-insert_all-start c = within (goal.at.slice_bounds-insert_all-start c).After-slice_known-2-1

pub insert_all-requires : goal.insert_all-requires
insert_all-requires c = (last_pairs rows solutions _ c.requires.0 _ c.base_place-a.ensures, c.requires.1)

pub overflow_add-t : goal.overflow_add-t
overflow_add-t c = omega arith

pub bounds-t-2-2 : goal.bounds-t-2-2
bounds-t-2-2 c =
    last_room rows solutions _ (flat rows solutions _ c.requires.0) _ c.base_place-a.ensures c.insert_all.new.pairs

pub returns : goal.returns
returns c =
    let es : List Entry = c.args.entries.now in
    last-put rows solutions _ (flat rows solutions _ c.requires.0) _ c.base_place-a.ensures _ _ _ (c.insert_all.ensures ∙ ap (λ (bs : List Entry). base_pairs (insert_all es bs)) (last_read rows solutions _ (flat rows solutions _ c.requires.0) _ c.base_place-a.ensures))
    (omega (arith, insert-all-length es (table_of c.args.t.now).base, count0 rows solutions _ c.requires.0))
