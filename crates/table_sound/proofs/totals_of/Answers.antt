-- `table_sound::totals_of` meets its contract.
-- Assumes nothing.
use native.Mathlib.Omega.{arith}
use Rattle.table_layout.proofs.Shape.{shape}
use Rattle.table_sound.proofs.totals_of.Goals as goal

pub slice_bounds-put-end-2 : goal.slice_bounds-put-end-2
slice_bounds-put-end-2 c = let s = shape c.requires in omega arith
