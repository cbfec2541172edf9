-- `bucket_settle::Outgoing::push` meets its contract.
-- Assumes nothing.
use native.Mathlib.Omega.{arith}
use mathlib.Core.Path.{ap, ◌∙◌}
use Prim.Native.Nat.{◌<◌}
use lib.ListN.{length, length-set}
use lib.Seq.{length-take-le}
use Rattle.bucket_settle.specs.Outgoing.{most_outgoing}
use Rattle.bucket_settle.proofs.Padded.{padded_push}
use Rattle.bucket_settle.proofs.Outgoing.push.Goals as goal

pub invariant_of-self : goal.invariant_of-self
invariant_of-self c =
    let xs = c.self.inside.entries in
    let k = c.self.inside.count in
    let l = c.self.invariant.1 in
    let n = length-take-le k xs (omega arith) in
    let h : k < most_outgoing = omega (arith, c.requires, ap length c.self.view_is) in
    (omega arith, length-set xs k c.args.e ∙ l, padded_push most_outgoing k xs h l c.self.invariant.2 c.args.e)
