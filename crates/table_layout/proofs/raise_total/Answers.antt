-- `table_layout::raise_total` meets its contract.
-- Assumes nothing.
use Prim.Native.Nat.{◌+◌}
use native.Mathlib.Numerals.{add-one}
use lib.ListN.{get_or}
use Rattle.table.specs.Layout.{totals_at}
use Rattle.table_layout.proofs.raise_total.Goals as goal

pub returns : goal.returns
returns c = rw (add-one (get_or c.args.t.now (totals_at + c.args.plan) 0))
