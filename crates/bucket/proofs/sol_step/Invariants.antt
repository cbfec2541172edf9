-- `bucket::sol_step` meets its contract. The loop rewrites the words from the front, and halves d: what is left of d is for the others.
-- Assumes nothing.
use mathlib.Core.Path.{◌≡◌}
use mathlib.Core.List.{◌++◌}
use lib.ListN.{take, drop}
use Rattle.gf2.specs.Vectors.{sol_step}
use Rattle.bucket.proofs.sol_step.Given as goal

abbrev pub invariant-loop-s : goal.invariant-loop-s
invariant-loop-s l = take l.s-index l.s-items ++ sol_step l.u l.left (drop l.s-index l.s-items) ≡ sol_step l.u l.d l.initial.s-items
