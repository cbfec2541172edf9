-- `bucket_pairs::sweep` meets its contract. The loop's invariant: the pairs before `p` are swept.
-- Assumes nothing.
use mathlib.Core.Path.{ap, ◌∙◌}
use Prim.Native.Nat.{◌<◌}
use native.Mathlib.Omega.{arith}
use lib.ListN.{length, get_or, set}
use Rattle.std.proofs.lemmas.List.{get_or_default}
use Rattle.std.proofs.lemmas.List.Edits.{map_over_more}
use Rattle.bucket_pairs.specs.declared.Pair.{Pair}
use Rattle.bucket_pairs.specs.Pairs.{zeros, swept}
use Rattle.bucket_pairs.proofs.Tied.{swept_is}
use Rattle.bucket_pairs.proofs.sweep.Goals as goal

pub loop-p-preserved : goal.loop-p-preserved
loop-p-preserved c =
    let i = c.loop-p.p-index in
    let p : Pair = get_or c.loop-p.p-items i zeros in
    let e = swept_is c.args.tables.now c.args.c c.args.have _ _ p _ _ c.index_in.ensures c.index_in-in-loop-p.ensures c.plus.ensures c.plus-in-loop-p.ensures in
    let h : i < length c.args.ws.now = c.loop-p-test.true in
    ap (set c.loop-p.p-items i) e ∙ map_over_more (swept c.args.tables.now c.args.c c.args.have) c.args.ws.now c.loop-p.p-items i p h c.loop-p.invariant (get_or_default c.loop-p.p-items i zeros p (omega (arith, c.loop-p.auto.p-items)))
