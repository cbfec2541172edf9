-- `bucket_rows::pick_of` meets its contract.
-- Assumes nothing.
use Rattle.bucket_rows.proofs.Laws.{pick_set, pick_lowest, pick_nothing}
use Rattle.bucket_rows.proofs.pick_of.Goals as goal

pub returns-then-f-j-ne0 : goal.returns-then-f-j-ne0
returns-then-f-j-ne0 c = pick_set 64 c.args.j c.args.f c.requires c.if-f-j-ne0.true

pub returns-then-f-eq0 : goal.returns-then-f-eq0
returns-then-f-eq0 c = pick_nothing 64 c.args.j c.args.f c.if-f-eq0.true

pub returns : goal.returns
returns c = pick_lowest 64 c.args.j c.args.f c.ranges.f.fits c.if-f-j-ne0.false c.if-f-eq0.false
