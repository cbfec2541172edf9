-- `patch_make::put_sums` meets its contract.
-- Assumes nothing.
use mathlib.Core.Path.{refl}
use lib.ListN.{length-set}
use Rattle.codec.proofs.Part.{length-written}
use Rattle.patch_make.proofs.Whole.{sums-put}
use Rattle.patch_make.proofs.put_sums.Goals as goal

pub shape_of-out : goal.shape_of-out
shape_of-out c =
    rw c.put_u64-2.ensures (rw length-written (rw c.put_u64.ensures (simp (length-written, length-set) refl)))

pub returns : goal.returns
returns c =
    sums-put c.args.old c.args.new c.args.out.now c.put_u64.new.d c.put_u64-2.new.d c.put_u64.ensures c.put_u64-2.ensures
