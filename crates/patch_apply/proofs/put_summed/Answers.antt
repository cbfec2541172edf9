-- `patch_apply::put_summed` meets its contract.
-- Assumes nothing.
use mathlib.Core.Path.{refl, sym, ◌∙◌}
use borrow.Author.Tests.{eq-eqb, ne_eqb}
use Rattle.patch_apply.proofs.put_summed.Goals as goal

pub returns-then-sum-fnv : goal.returns-then-sum-fnv
returns-then-sum-fnv c = rw (ne_eqb _ _ (λ e. c.if-sum-fnv.true (e ∙ sym c.fnv.ensures))) (refl, refl)

pub returns : goal.returns
returns c =
    rw (eq-eqb _ _ (c.if-sum-fnv.false ∙ c.fnv.ensures)) c.put_front.ensures
