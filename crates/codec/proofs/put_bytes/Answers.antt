-- `codec::put_bytes` meets its contract: past the end nothing is written, near the end as many bytes as fit.
-- Assumes nothing.
use Rattle.std.proofs.Common.{length, ◌-◌, sym, ◌∙◌, arith}
use Rattle.codec.proofs.Part.{written-past, written_cut, put_written}
use Rattle.codec.proofs.put_bytes.Goals as goal

pub returns-then-d-at : goal.returns-then-d-at
returns-then-d-at c =
    sym (written-past c.args.at c.args.s.now c.args.d.now (omega arith))

pub returns-then-left-s : goal.returns-then-left-s
returns-then-left-s c =
    rw c.copy.ensures
    (put_written c.args.at _ c.args.d.now _ (grind arith) (grind arith)
    ∙ written_cut c.args.at (length c.args.d.now - c.args.at) c.args.s.now c.args.d.now (omega arith))

pub returns : goal.returns
returns c =
    rw c.copy-2.ensures (put_written c.args.at c.args.s.now c.args.d.now _ (omega arith) (omega arith))
