-- `table_layout::bucket_at` meets its contract.
-- Assumes nothing.
use mathlib.Core.Path.{◌∙◌}
use Rattle.table.specs.Calls.{rows, solutions}
use Rattle.table_layout.proofs.Shape.{part-bucket}
use Rattle.table_layout.proofs.bucket_at.Goals as goal

pub returns : goal.returns
returns c = c.load.ensures ∙ part-bucket rows solutions c.args.t.now c.args.place
