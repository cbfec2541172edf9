-- `bucket_blocks::make_tables` meets its contract.
-- Assumes nothing.
use native.Mathlib.Omega.{arith}
use Rattle.bucket_pairs.proofs.Tied.{swept_keeps}
use Rattle.bucket_blocks.proofs.make_tables.Goals as goal

pub returns : goal.returns
returns c = (
  omega (arith, c.pick_four-four.ensures.0, c.pick_four-four-2.ensures.0),
  λ f lf t.
      let p = c.pick_four-four.ensures.2 f lf (t.0, (t.1.0, tt)) in
      let q = (c.file.ensures f lf (p.1.0, (t.1.1.0, tt))).0 in
      let r = c.pick_four-four-2.ensures.2 f lf (t.0, (p.0, tt)) in
      let s = (swept_keeps _ _ _ _ _ c.sweep.ensures f lf (q, (t.1.1.1.0, r.1))).0 in
      (r.0, (q, ((c.file-2.ensures f lf (s, (t.1.1.1.0, tt))).0, tt))),
)
