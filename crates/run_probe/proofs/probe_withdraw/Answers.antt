-- `run_probe::probe_withdraw` meets its contract: the outcomes of the step.
-- Assumes nothing.
use Rattle.bucket.specs.Bucket.{withdraw}
use Rattle.run_probe.proofs.Steps.{wrong, not_done, was-done}
use Rattle.run_probe.proofs.probe_withdraw.Goals as goal

pub returns-then-part-ne-WORDS : goal.returns-then-part-ne-WORDS
returns-then-part-ne-WORDS c = wrong (withdraw 64 c.args.k) c.args.part.now c.if-part-ne-WORDS.true

pub returns-then-withdraw : goal.returns-then-withdraw
returns-then-withdraw c =
    was-done (withdraw 64 c.args.k) c.args.part.now c.if-part-ne-WORDS.false c.withdraw.ensures c.if-withdraw.true

pub returns : goal.returns
returns c =
    not_done (withdraw 64 c.args.k) c.args.part.now c.if-part-ne-WORDS.false c.withdraw.ensures c.if-withdraw.false
