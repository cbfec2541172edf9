-- `patch::BaseList::extend` meets its contract. The loop's invariant: the first entries of `more` are pushed.
-- Assumes nothing.
use Rattle.std.proofs.Common.{◌≡◌, ◌++◌, take}
use Rattle.patch.proofs.BaseList.extend.Given as goal

abbrev pub invariant-loop-e : goal.invariant-loop-e
invariant-loop-e l = l.self ≡ l.initial.self ++ take l.e-index l.more
