-- `bucket_settle::leaving` meets its contract: the elimination gives K's rows.
-- Assumes nothing.
use mathlib.Core.Path.{sym, ap, ◌∙◌}
use Rattle.std.specs.Option.{is_some}
use Rattle.bucket_settle.specs.Settle.{threshold_of}
use Rattle.bucket_settle.proofs.Sound.{rows-found, leaving-found}
use Rattle.bucket_settle.proofs.leaving.Goals as goal

pub unwrap-rows-requires : goal.unwrap-rows-requires
unwrap-rows-requires c = ap is_some (rows-found threshold_of c.args.t c.requires c.rows_of.ensures)

pub returns : goal.returns
returns c =
    c.leaving_of.ensures ∙ leaving-found threshold_of c.args.t c.requires c.unwrap-rows.result (sym c.unwrap-rows.ensures ∙ c.rows_of.ensures)
