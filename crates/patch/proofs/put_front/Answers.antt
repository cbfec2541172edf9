-- `patch::put_front` meets its contract.
-- Assumes nothing.
use mathlib.Core.Path.{refl, ◌∙◌}
use Prim.Native.Nat.{◌≤◌}
use native.Mathlib.Nat.{zero-add}
use native.Mathlib.Omega.{arith}
use lib.ListN.{length}
use Rattle.codec.proofs.Part.{written-fits}
use Rattle.plane_write.proofs.Through.{put-short, put-fits}
use Rattle.patch.proofs.put_front.Goals as goal

pub returns-then-out-needed : goal.returns-then-out-needed
returns-then-out-needed c =
    put-short c.args.bytes.now c.args.out.now (length c.args.bytes.now) refl c.if-out-needed.true

pub returns : goal.returns
returns c =
    let fits : length c.args.bytes.now ≤ length c.args.out.now = omega arith in
    put-fits c.args.bytes.now c.args.out.now (length c.args.bytes.now) refl c.put_bytes.new.d fits
    (c.put_bytes.ensures ∙ written-fits 0 c.args.bytes.now c.args.out.now (omega arith) ∙ rw zero-add refl)
