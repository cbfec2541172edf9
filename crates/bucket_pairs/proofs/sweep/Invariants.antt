-- `bucket_pairs::sweep` meets its contract. The loop's invariant: the pairs before `p` are swept.
-- Assumes nothing.
use mathlib.Core.Path.{◌≡◌}
use mathlib.Core.List.{◌++◌, map}
use lib.ListN.{take, drop}
use Rattle.bucket_pairs.specs.Pairs.{swept}
use Rattle.bucket_pairs.proofs.sweep.Given as goal

abbrev pub invariant-loop-p : goal.invariant-loop-p
invariant-loop-p l = l.p-items ≡ map (swept l.tables l.c l.have) (take l.p-index l.initial.p-items) ++ drop l.p-index l.initial.p-items
