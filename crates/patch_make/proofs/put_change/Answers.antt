-- `patch_make::put_change` meets its contract.
-- Assumes nothing.
use mathlib.Core.Path.{refl, sym, ◌∙◌}
use native.Mathlib.Omega.{arith}
use lib.ListN.{length-set}
use Rattle.codec.proofs.Part.{length-written, written_none, written_two}
use Rattle.patch_make.proofs.put_change.Goals as goal

pub returns-then-same : goal.returns-then-same
returns-then-same c = rw (sym c.same.ensures ∙ c.if-same.true) (omega arith, sym (written_none _ _))

pub bounds-out-at-2 : goal.bounds-out-at-2
bounds-out-at-2 c = rw length-set (omega arith)

pub shape_of-out : goal.shape_of-out
shape_of-out c = rw c.put_bytes.ensures (simp (length-written, length-set) refl)

pub returns : goal.returns
returns c =
    rw (sym c.same.ensures ∙ c.if-same.false) (omega arith, c.put_bytes.ensures ∙ written_two _ _ _ _ _)
