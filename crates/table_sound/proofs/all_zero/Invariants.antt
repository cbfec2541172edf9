-- `table_sound::all_zero` meets its contract: the bits seen so far are 0 and the numbers to come are, exactly where all of them are.
-- Assumes nothing.
use mathlib.Core.Path.{◌≡◌}
use mathlib.Core.Bool.{◌&&◌}
use lib.Dec.{eqb}
use lib.ListN.{drop}
use Rattle.table.specs.Test.{all_of}
use Rattle.table_sound.proofs.all_zero.Given as goal

abbrev pub invariant-loop-x : goal.invariant-loop-x
invariant-loop-x l = (eqb l.seen 0 && all_of (λ x. eqb x 0) (drop l.x-index l.words)) ≡ all_of (λ x. eqb x 0) l.words
