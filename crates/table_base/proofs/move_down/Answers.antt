-- `table_base::move_down` meets its contract.
-- Assumes nothing.
use mathlib.Core.Path.{ap, ◌∙◌}
use Prim.Native.Nat.{◌+◌}
use native.Mathlib.Omega.{arith}
use lib.ListN.{get_or, set, drop}
use lib.Seq.{paste-zero}
use Rattle.table_base.proofs.Moves.{down_step}
use Rattle.table_base.proofs.move_down.Goals as goal

pub loop-i-init : goal.loop-i-init
loop-i-init c = paste-zero c.args.words.now c.args.at (drop (c.args.at + 2) c.args.words.now)

pub loop-i-preserved : goal.loop-i-preserved
loop-i-preserved c =
    let asked = c.requires in
    let more = c.loop-i-test.true in
    let l = c.loop-i in
    let old = c.args.words.now in
    let at = c.args.at in
    let x = get_or l.words (at + 2 + l.i) 0 in
    let same = l.invariant in
    ap (λ w. set w (at + l.i) x) same ∙ down_step old (at + 2) at l.i x 0 (omega arith) (omega arith) (ap (λ w. get_or w (at + 2 + l.i) 0) same)
