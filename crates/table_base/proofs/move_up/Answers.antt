-- `table_base::move_up` meets its contract.
-- Assumes nothing.
use mathlib.Core.Path.{◌≡◌, ap, ◌∙◌}
use Prim.Native.Nat.{◌+◌, ◌-◌}
use native.Mathlib.Omega.{arith}
use lib.ListN.{get_or, set}
use Rattle.table_base.proofs.Moves.{upper, up_begins, up_ends, up_step}
use Rattle.table_base.proofs.move_up.Goals as goal

pub loop-i-init : goal.loop-i-init
loop-i-init c = up_begins c.args.words.now c.args.at (c.args.at + 2) (c.args.end - c.args.at)

pub loop-i-preserved : goal.loop-i-preserved
loop-i-preserved c =
    let asked = c.requires in
    let more = c.loop-i-test.true in
    let l = c.loop-i in
    let old = c.args.words.now in
    let at = c.args.at in
    let n = c.args.end - at in
    let j = l.i - 1 in
    let x = get_or l.words (at + j) 0 in
    let same = l.invariant in
    ap (λ w. set w (at + 2 + j) x) same ∙ up_step old at (at + 2) n l.i x 0 (omega arith) (omega arith) (omega arith) (omega arith) (ap (λ w. get_or w (at + j) 0) same)

pub returns : goal.returns
returns c =
    let old = c.args.words.now in
    let at = c.args.at in
    let n = c.args.end - at in
    let done = c.loop-i-test.false in
    let ended : c.loop-i.i ≡ 0 = omega arith in
    c.loop-i.invariant ∙ ap (upper old at (at + 2) n) ended ∙ up_ends old at (at + 2) n
