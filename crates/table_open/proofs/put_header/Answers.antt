-- `table_open::put_header` meets its contract.
-- Assumes nothing.
use mathlib.Core.Path.{refl, ◌∙◌}
use native.Mathlib.Omega.{arith}
use lib.ListN.{length-set}
use borrow.Rule.Slice.PartMut.{same_len_mid}
use Rattle.table.specs.Table.{total_numbers}
use Rattle.table.specs.Layout.{totals_at}
use Rattle.table.specs.Calls.{rows, solutions}
use Rattle.table_open.proofs.Opened.{header-set}
use Rattle.table_open.proofs.put_header.Goals as goal

pub bounds-t-1 : goal.bounds-t-1
bounds-t-1 c = simp length-set (omega arith)

pub bounds-t-2 : goal.bounds-t-2
bounds-t-2 c = simp length-set (omega arith)

pub bounds-t-3 : goal.bounds-t-3
bounds-t-3 c = simp length-set (omega arith)

pub shape_of-t : goal.shape_of-t
shape_of-t c = same_len_mid totals_at total_numbers _ c.fill.new.self c.fill.auto.self ∙ simp length-set refl

pub returns : goal.returns
returns c = header-set rows solutions c.args.t.now c.args.b1 c.args.b2 c.requires _ c.fill.new.self refl (c.fill.ensures.after (λ _ e. e))
