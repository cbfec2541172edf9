-- `bucket_blocks::file` meets its contract.
-- Assumes nothing.
use Rattle.bucket_pairs.proofs.Tied.{tied_zeros, tied_one}
use Rattle.bucket_blocks.proofs.file.Goals as goal

pub returns : goal.returns
returns c = λ f lf t.
    let o = c.double.ensures f lf (tied_one f c.args.four 0 lf t.0, (tied_zeros f 16 lf, (t.1.0, tt))) in
    let p = c.double-2.ensures f lf (tied_one f c.args.four 1 lf t.0, o) in
    let q = c.double-3.ensures f lf (tied_one f c.args.four 2 lf t.0, p) in
    (c.double-4.ensures f lf (tied_one f c.args.four 3 lf t.0, q)).1
