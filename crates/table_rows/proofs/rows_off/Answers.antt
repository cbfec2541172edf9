-- `table_rows::rows_off` meets its contract. The loop takes the bits of the mark one by one, lowest first; each is below n, so the plan of its row
-- is among those looked up.
-- Assumes nothing.
use Prim.Native.Nat.{ℕ, ◌^◌, ◌≤◌, ◌<◌}
use native.Mathlib.Nat.{lt_trans}
use native.Mathlib.Omega.{arith}
use mathlib.Core.Path.{◌≡◌, refl, sym, ap, ◌∙◌}
use mathlib.Core.List.{List}
use lib.Count.{count_trailing_zeros, count_leading_zeros, leading_le}
use lib.ListN.{length, get_or}
use Rattle.gf2.proofs.Chosen.{low_lt}
use Rattle.gf2.proofs.Lowest.{tz_lt}
use Rattle.table.specs.Calls.{rows}
use Rattle.table_rows.specs.Counting.{row_of}
use Rattle.table_rows.proofs.Counting.{left_ended, below_length, plan-at, rows_on, rows_out, rows_end}
use borrow.Author.Rules.{rules}
use Rattle.table_rows.proofs.rows_off.Goals.{After-struct_known-1, Start}
use Rattle.table_rows.proofs.rows_off.Goals as goal

-- what the types of the parameters tell
sized : (s : Start) → length s.args.vectors ≡ rows
sized s = search rules

marked : (s : Start) → s.args.b.mark < 2 ^ rows
marked s = search rules

leading : (c : After-struct_known-1) → count_leading_zeros rows c.args.b.mark ≤ rows
leading c = leading_le rows c.args.b.mark

pub overflow_cast-n : goal.overflow_cast-n
overflow_cast-n c = let l = leading (goal.at.overflow_cast-n c).After-struct_known-1 in omega arith

pub overflow_sub-n : goal.overflow_sub-n
overflow_sub-n c = let l = leading (goal.at.overflow_sub-n c).After-struct_known-1 in omega arith

pub plans_of-plans-requires : goal.plans_of-plans-requires
plans_of-plans-requires c = let l = leading (goal.at.plans_of-plans-requires c).After-struct_known-1 in omega arith

pub loop-rest-init : goal.loop-rest-init
loop-rest-init c = (marked (goal.at.loop-rest-init c).Start, refl, below_length rows c.args.b.mark (marked (goal.at.loop-rest-init c).Start))

pub overflow_cast-a : goal.overflow_cast-a
overflow_cast-a c = let l = tz_lt rows c.loop-rest.rest c.loop-rest.invariant.0 c.loop-rest-test.true in omega arith

pub offset_bounds-vectors-a : goal.offset_bounds-vectors-a
offset_bounds-vectors-a c = let l = tz_lt rows c.loop-rest.rest c.loop-rest.invariant.0 c.loop-rest-test.true in omega arith

pub bounds-vectors-a : goal.bounds-vectors-a
bounds-vectors-a c = tz_lt rows c.loop-rest.rest c.loop-rest.invariant.0 c.loop-rest-test.true

pub offset_bounds-plans-a : goal.offset_bounds-plans-a
offset_bounds-plans-a c = let l = tz_lt rows c.loop-rest.rest c.loop-rest.invariant.0 c.loop-rest-test.true in omega arith

pub bounds-plans-a : goal.bounds-plans-a
bounds-plans-a c = tz_lt rows c.loop-rest.rest c.loop-rest.invariant.0 c.loop-rest-test.true

pub row_off-requires : goal.row_off-requires
row_off-requires c =
    let a = count_trailing_zeros rows c.loop-rest.rest in
    let e = ap (λ (ps : List ℕ). get_or ps a 0) c.plans_of-plans.ensures ∙ plan-at c.args.b rows _ c.loop-rest.rest c.args.vectors (sized (goal.at.row_off-requires c).Start) c.loop-rest.invariant.0 c.loop-rest.invariant.2 c.loop-rest-test.true in
    (c.requires, e)

pub loop-rest-smaller : goal.loop-rest-smaller
loop-rest-smaller c = low_lt rows c.loop-rest.rest c.loop-rest.invariant.0 c.loop-rest-test.true

pub loop-rest-preserved : goal.loop-rest-preserved
loop-rest-preserved c =
    let less = low_lt rows c.loop-rest.rest c.loop-rest.invariant.0 c.loop-rest-test.true in
    (lt_trans less c.loop-rest.invariant.0, rows_on c.args.b (row_of c.args.t.now c.args.level c.args.m c.args.i c.args.b) rows c.loop-rest.rest c.args.vectors c.loop-rest.left (sized (goal.at.loop-rest-preserved c).Start) c.loop-rest.invariant.0 c.loop-rest-test.true c.loop-rest.invariant.1 c.row_off.new.left c.row_off.ensures c.if-not-row_off.false, lt_trans less c.loop-rest.invariant.2)

pub returns-then-not-row_off : goal.returns-then-not-row_off
returns-then-not-row_off c =
    rows_out c.args.b (row_of c.args.t.now c.args.level c.args.m c.args.i c.args.b) rows c.loop-rest.rest c.args.vectors c.loop-rest.left (sized (goal.at.returns-then-not-row_off c).Start) c.loop-rest.invariant.0 c.loop-rest-test.true c.loop-rest.invariant.1 c.row_off.new.left c.row_off.ensures c.if-not-row_off.true

pub returns : goal.returns
returns c =
    let z : c.loop-rest.rest ≡ 0 = c.loop-rest-test.false in
    left_ended (sym c.loop-rest.invariant.1 ∙ (rw (sym z) at (rows_end c.args.b (row_of c.args.t.now c.args.level c.args.m c.args.i c.args.b) c.args.vectors c.loop-rest.left)))
