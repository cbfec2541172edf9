-- `patch_check::enter_news` meets its contract. The first i entries are entered: `new` has what comes of them and of the entries of `kept` before
-- those that are left.
-- Assumes nothing.
use mathlib.Core.Path.{◌≡◌, sym, ap, ap₂, ◌∙◌}
use mathlib.Core.List.{List, [], ◌∷◌, ◌++◌}
use native.Mathlib.Omega.{arith}
use Prim.Native.Nat.{◌+◌}
use lib.ListN.{length}
use Rattle.std.specs.Option.{is_some}
use Rattle.lists.specs.Entries.{Entry}
use Rattle.plane.proofs.Scan.{refused, passed}
use Rattle.patch_fits.specs.Steps.{taken}
use Rattle.patch_check.proofs.Enter.{entering_starts, entering-ends, new_low, new_unfit, entering-step}
use Rattle.patch_check.proofs.enter_news.Goals.{After-new_fits}
use Rattle.patch_check.proofs.enter_news.Goals as goal

-- whether the base list takes it
test : (c : After-new_fits) → c.new_fits.result ≡ taken (is_some c.seek-place.result.plan) (is_some c.seek-was.result.plan) (length c.loop-i.new + length c.loop-i.left.now)
test c =
    let n : length c.entries.result.now ≡ length c.loop-i.new = ap length c.entries.ensures.0 in
    c.new_fits.ensures ∙ rw (c.is_some.ensures, c.is_some-in-loop-i.ensures, n)

pub loop-i-init : goal.loop-i-init
loop-i-init c = rw c.requires.4 (entering_starts _ _ _ _ _ c.requires.0 c.requires.1 c.requires.2 c.requires.3)

pub returns-then-not-new_follows : goal.returns-then-not-new_follows
returns-then-not-new_follows c = new_low _ _ _ _ _ c.loop-i.invariant c.loop-i-test.true (refused _ c.new_follows.ensures c.if-not-new_follows.true)

pub returns-then-not-new_fits : goal.returns-then-not-new_fits
returns-then-not-new_fits c =
    new_unfit _ _ _ _ _ c.loop-i.invariant c.loop-i-test.true (passed _ c.new_follows.ensures c.if-not-new_follows.false) (c.e.view_is ∙ c.read-e.ensures) c.seek-place.ensures.plan c.seek-was.ensures.plan
    (refused _ (test (goal.at.returns-then-not-new_fits c).After-new_fits) c.if-not-new_fits.true)

pub loop-i-preserved : goal.loop-i-preserved
loop-i-preserved c =
    entering-step _ _ _ _ _ c.loop-i.invariant c.loop-i-test.true (passed _ c.new_follows.ensures c.if-not-new_follows.false) (c.e.view_is ∙ c.read-e.ensures) c.seek-place.ensures.plan c.seek-was.ensures.plan
    (passed _ (test (goal.at.loop-i-preserved c).After-new_fits) c.if-not-new_fits.false)
    _ (c.push.ensures ∙ ap₂ (λ (l : List Entry) (e : Entry). l ++ e ∷ []) (c.extend.ensures ∙ ap (λ (l : List Entry). c.loop-i.new ++ l) c.seek-place.ensures.below) (sym c.e.view_is)) _ _ c.seek-place.ensures.above c.seek-was.ensures.above

pub returns : goal.returns
returns c = entering-ends _ _ _ _ _ c.loop-i.invariant (omega arith) _ c.extend-2.ensures
