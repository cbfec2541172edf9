-- `patch::seek` meets its contract.
-- Assumes nothing.
use native.Mathlib.Omega.{arith}
use Rattle.patch.proofs.Cursor.{below_length}
use Rattle.patch.proofs.seek.Goals as goal

pub split_at-requires : goal.split_at-requires
split_at-requires c = omega (arith, below_length c.args.w c.args.entries.now)
