-- `plane_lookup::lookup` meets its contract.
-- Assumes nothing.
use borrow.Author.Rules.{rules}
use mathlib.Core.Path.{sym, ◌∙◌}
use Rattle.plane.specs.Lookup.{lookup_call}
use Rattle.plane_lookup.proofs.lookup.Goals as goal

pub returns-in_err-word : goal.returns-in_err-word
unfolding lookup_call
returns-in_err-word c = rw (sym c.read.ensures ∙ c.in_err-word.was) (search rules)

pub returns : goal.returns
unfolding lookup_call
returns c = rw (sym c.read.ensures ∙ c.in_ok-word.was) c.lookup_word.ensures
