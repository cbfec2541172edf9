-- `bucket_blocks::block` meets its contract.
-- Assumes nothing.
use Rattle.bucket_pairs.proofs.Tied.{swept_keeps}
use Rattle.bucket_blocks.proofs.block.Goals as goal

pub returns : goal.returns
returns c = λ f lf t.
    let p = c.make_tables-have.ensures.1 f lf t in
    let q = (c.join.ensures f lf (p.1.0, (p.1.1.0, tt))).0 in
    ((c.spread.ensures f lf (q, (p.1.1.0, (t.0, tt)))).0, ((swept_keeps _ _ _ _ _ c.sweep.ensures f lf (q, (p.1.1.0, (p.0, tt)))).0, (q, (p.1.1.0, tt))))
