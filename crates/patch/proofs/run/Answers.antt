-- `patch::run` meets its contract. The n records before the offset `at` are of the kind; none starts past the end, where the byte read is no kind.
-- Assumes nothing.
use mathlib.Core.Path.{◌≡◌, ◌∙◌}
use Prim.Native.Nat.{◌-◌, ◌<◌}
use native.Mathlib.Nat.{sub-zero, zero-add}
use native.Mathlib.Omega.{arith}
use borrow.Author.Rules.{rules}
use lib.Dec.{ltb}
use lib.ListN.{length, get_or, get_or-eq_default}
use borrow.Author.Tests.{ltb-true, ltb-false}
use Rattle.lists.proofs.Tests.{cases}
use Rattle.patch.proofs.Steps.{run-next, run-other}
use Rattle.patch.proofs.run.Goals as goal

pub loop-kind-init : goal.loop-kind-init
loop-kind-init c = (search rules, rw (sub-zero, zero-add))

pub loop-kind-preserved : goal.loop-kind-preserved
loop-kind-preserved c =
    let here : get_or c.args.d.now c.loop-kind.at 0 ≡ c.args.kind = search rules in
    let before : c.loop-kind.at < length c.args.d.now = search rules in
    (search rules, c.loop-kind.invariant.1 ∙ run-next c.args.kind c.args.size (length c.args.d.now) c.loop-kind.n c.loop-kind.at c.args.d.now (omega arith) here)

pub returns : goal.returns
returns c =
    let other : get_or c.args.d.now c.loop-kind.at 0 ≡ c.args.kind → ⊥ =
    λ e. (let l : c.loop-kind.at < length c.args.d.now = cases (ltb c.loop-kind.at (length c.args.d.now)) (λ t. ltb-true _ _ t) (λ f. absurd (omega (arith, e, get_or-eq_default c.args.d.now 0 {n = c.loop-kind.at} (ltb-false _ _ f)))) in search rules) in
    omega (arith, run-other c.args.kind c.args.size (length c.args.d.now - c.loop-kind.n) c.loop-kind.at c.args.d.now other)
