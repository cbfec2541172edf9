-- `bucket_settle::put_into` meets its contract. The loop carries the entry that is to stand at `at`: it and what is to come are the result's.
-- Assumes nothing.
use Prim.Native.Nat.{◌≤◌}
use native.Mathlib.Omega.{arith}
use lib.ListN.{length}
use Rattle.bucket_settle.proofs.Insert.{carry_end}
use Rattle.bucket_settle.proofs.put_into.Goals as goal

pub returns : goal.returns
returns c =
    let h : length c.loop-at.entries ≤ c.loop-at.at = omega arith in
    carry_end _ _ _ _ _ _ h c.loop-at.auto.entries c.loop-at.invariant
