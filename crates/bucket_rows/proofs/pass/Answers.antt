-- `bucket_rows::pass` meets its contract.
-- Assumes nothing.
use Prim.Native.Nat.{◌-◌}
use native.Mathlib.Omega.{arith}
use Rattle.bucket_rows.proofs.Laws.{passed-set}
use Rattle.bucket_rows.proofs.pass.Goals as goal

pub returns-else-occupied-j-eq0 : goal.returns-else-occupied-j-eq0
returns-else-occupied-j-eq0 c =
    passed-set _ c.args.j c.args.p c.args.w c.args.y c.args.t.now _ (64 - c.args.j) c.if-occupied-j-eq0.false (omega arith) c.clear.ensures
