-- `bucket_blocks::join` meets its contract. The loop keeps what is tied.
-- Assumes nothing.
use mathlib.Core.Path.{sym, subst}
use Rattle.std.proofs.lemmas.List.Elements.{All-set}
use Rattle.bucket_pairs.specs.Pairs.{TiedPair}
use Rattle.bucket_pairs.proofs.Tied.{tied_added, tied_entry}
use Rattle.bucket_blocks.proofs.join.Goals as goal

pub loop-p-preserved : goal.loop-p-preserved
loop-p-preserved c = λ f lf t.
    let w = (c.loop-p.invariant f lf t).0 in
    let e = subst (TiedPair f) (sym c.plus.ensures) (tied_added f _ _ lf (tied_entry f c.loop-p.p-items c.loop-p.p-index lf w) (tied_entry f c.args.second.now _ lf t.1.0)) in
    (All-set (TiedPair f) _ _ _ e w, tt)
