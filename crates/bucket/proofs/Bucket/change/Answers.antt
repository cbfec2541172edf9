-- `bucket::Bucket::change` meets its contract.
-- Assumes nothing.
use mathlib.Core.Path.{sym, ◌∙◌}
use Prim.Native.Nat.{◌<◌}
use borrow.Author.Rules.{rules}
use Rattle.bucket.specs.Bucket.{change_at, change}
use Rattle.bucket.proofs.Laws.{row_lt}
use Rattle.bucket.proofs.Bucket.change.Goals.{In_ok-i}
use Rattle.bucket.proofs.Bucket.change.Goals as goal

in_range : (c : In_ok-i) → c.in_ok-i.i < 64
in_range c = row_lt 64 c.args.k c.args.self (sym c.row_of.ensures ∙ c.in_ok-i.was) (search rules)

pub returns-in_err-i : goal.returns-in_err-i
unfolding change
returns-in_err-i c = rw (← c.row_of.ensures, c.in_err-i.was) (search rules)

pub offset_bounds-cols-i : goal.offset_bounds-cols-i
offset_bounds-cols-i c = let h = in_range (goal.at.offset_bounds-cols-i c).In_ok-i in search rules

pub bounds-cols-i : goal.bounds-cols-i
bounds-cols-i c = in_range (goal.at.bounds-cols-i c).In_ok-i

pub returns : goal.returns
unfolding change change_at
returns c = rw (← c.row_of.ensures, c.in_ok-i.was, c.sol_step-sols.ensures, c.lookup.ensures)
