-- `bucket_rows::flip_all` meets its contract. The loop's invariant: the step by the bits that are left gives the step by all of them.
-- Assumes nothing.
use mathlib.Core.Path.{◌≡◌, sym, ◌∙◌}
use Prim.Native.Nat.{◌<◌}
use native.Mathlib.Omega.{arith}
use lib.Count.{count_trailing_zeros}
use lib.Bits.{xor_lt}
use lib.ListN.{length-set}
use lib.Pow.{pow-lt}
use Rattle.gf2.proofs.Lowest.{tz_lt, tz_bit}
use Rattle.gf2.proofs.Solutions.{sol_step_none}
use Rattle.gf2.proofs.Loops.{sol_step_one, without_lt, low_off}
use Rattle.bucket_rows.proofs.flip_all.Goals as goal

pub loop-left-preserved : goal.loop-left-preserved
loop-left-preserved c =
    let l : count_trailing_zeros 64 c.loop-left.left < 64 = tz_lt 64 c.loop-left.left c.loop-left.invariant.1 c.loop-left-test.true in
    let o = low_off 64 c.loop-left.left c.loop-left.invariant.1 c.loop-left-test.true in (
      simp length-set c.loop-left.invariant.0,
      rw o (xor_lt 64 c.loop-left.left _ c.loop-left.invariant.1 (pow-lt l)),
      rw o (sol_step_one c.args.u c.loop-left.left (count_trailing_zeros 64 c.loop-left.left) c.loop-left.t ∙ c.loop-left.invariant.2),
    )

pub returns : goal.returns
returns c =
    let z : c.loop-left.left ≡ 0 = c.loop-left-test.false in
    sym (sol_step_none c.args.u c.loop-left.t) ∙ (rw z at c.loop-left.invariant.2)
