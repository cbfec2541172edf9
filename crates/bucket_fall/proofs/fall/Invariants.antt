-- `bucket_fall::fall` meets its contract. The words that have left so far, ahead of what is to come, are the whole settlement.
-- Assumes nothing.
use mathlib.Core.Path.{◌≡◌}
use Rattle.std.specs.Prelude.{None}
use Rattle.bucket.specs.Bucket.{add}
use Rattle.bucket_settle.specs.Settle.{threshold_of}
use Rattle.bucket_fall.proofs.Run.{Settling}
use Rattle.bucket_fall.proofs.fall.Given as goal

abbrev pub invariant-loop-t : goal.invariant-loop-t
invariant-loop-t l = record {
  falling : Settling 64 8 threshold_of (record { word = l.k; plan = l.plan }) l.initial.bucket l.bucket l.out;
  bound : l.bucket.bound ≡ l.t;
  depends : l.left ≡ 0 → add 64 l.k l.plan l.bucket ≡ None;
}
