-- `bucket_pairs::only_bit` meets its contract.
-- Assumes nothing.
use mathlib.Core.Path.{sym, ◌∙◌}
use native.Mathlib.Omega.{arith}
use Rattle.bucket_pairs.proofs.Read.{only_one, only_other, only_none}
use Rattle.bucket_pairs.proofs.only_bit.Goals as goal
use Rattle.bucket_pairs.proofs.only_bit.Goals.{else-j-lt-WIDTH-via-then-j-lt-WIDTH+else-x-power, else-j-lt-WIDTH-via-else-j-lt-WIDTH}

pub returns-then-x-power : goal.returns-then-x-power
returns-then-x-power c = only_one 64 c.args.x c.if-j-lt-WIDTH.true (c.if-x-power.true ∙ c.power.ensures)

pub returns-else-j-lt-WIDTH : goal.returns-else-j-lt-WIDTH
returns-else-j-lt-WIDTH c =
    elim c.else-j-lt-WIDTH.branch [
      | else-j-lt-WIDTH-via-then-j-lt-WIDTH+else-x-power w ↦ only_other 64 c.args.x (λ e. w.if-x-power.false (e ∙ sym w.power.ensures))
      | else-j-lt-WIDTH-via-else-j-lt-WIDTH w ↦ only_none 64 c.args.x (omega arith)
    ]
