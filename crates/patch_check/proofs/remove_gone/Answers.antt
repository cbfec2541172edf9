-- `patch_check::remove_gone` meets its contract. The first i words are gone: `kept` is what stays of the entries before those that are left.
-- Assumes nothing.
use mathlib.Core.Path.{ap, ◌∙◌}
use mathlib.Core.Bool.{not}
use mathlib.Core.List.{List, ◌++◌}
use Rattle.lists.specs.Entries.{Entry}
use native.Mathlib.Omega.{arith}
use Rattle.plane.proofs.Scan.{refused, passed}
use Rattle.patch_check.proofs.Remove.{removing_starts, removing_ends, gone_cut, gone_absent, removing_step}
use Rattle.patch_check.proofs.remove_gone.Goals as goal

pub loop-i-init : goal.loop-i-init
loop-i-init c = rw c.requires.3 (removing_starts _ _ _ _ c.requires.0 c.requires.1 c.requires.2)

pub returns-then-not-whole : goal.returns-then-not-whole
returns-then-not-whole c = gone_cut _ _ _ _ c.loop-i.invariant c.loop-i-test.true (refused _ c.whole.ensures c.if-not-whole.true)

pub returns-then-is_none : goal.returns-then-is_none
returns-then-is_none c =
    gone_absent _ _ _ _ c.loop-i.invariant c.loop-i-test.true (passed _ c.whole.ensures c.if-not-whole.false) c.get_u64.ensures c.seek-place.ensures.plan (c.is_none.ensures ∙ ap not c.if-is_none.true)

pub loop-i-preserved : goal.loop-i-preserved
loop-i-preserved c =
    removing_step _ _ _ _ c.loop-i.invariant c.loop-i-test.true (passed _ c.whole.ensures c.if-not-whole.false) c.get_u64.ensures c.seek-place.ensures.plan (c.is_none.ensures ∙ ap not c.if-is_none.false) _ _
    (c.extend.ensures ∙ ap (λ (l : List Entry). c.loop-i.kept ++ l) c.seek-place.ensures.below) c.seek-place.ensures.above

pub returns : goal.returns
returns c = removing_ends _ _ _ _ c.loop-i.invariant (omega arith) _ c.extend-2.ensures
