-- `table_arrive::put_part_by` meets its contract.
-- Assumes nothing.
use borrow.Author.Tests.{le-ltb}
use Rattle.bucket_settle.specs.Settle.{threshold_of}
use Rattle.table.specs.Calls.{rows, solutions}
use Rattle.table_arrive.proofs.Settled.{step-held, step_past}
use Rattle.table_arrive.proofs.put_part_by.Goals as goal

pub returns-then-threshold-part : goal.returns-then-threshold-part
returns-then-threshold-part c =
    step-held rows solutions threshold_of ((record { word = c.args.v; plan = c.args.plan })) c.args.part.now _ c.threshold.ensures c.if-threshold-part.true c.add_by.ensures

pub returns-else-threshold-part : goal.returns-else-threshold-part
returns-else-threshold-part c =
    rw (le-ltb _ _ c.if-threshold-part.false) (step_past rows solutions threshold_of ((record { word = c.args.v; plan = c.args.plan })) c.args.part.now _ c.threshold.ensures c.if-threshold-part.false)
