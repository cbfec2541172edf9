-- `bucket_blocks::double` meets its contract. The loop keeps what is tied.
-- Assumes nothing.
use mathlib.Core.Path.{sym, subst}
use mathlib.Core.List.{[], ◌∷◌}
use Rattle.std.proofs.lemmas.List.Elements.{All-set}
use Rattle.bucket_pairs.specs.Pairs.{TiedPair}
use Rattle.bucket_pairs.proofs.Tied.{tied_added, tied_entry}
use Rattle.bucket_blocks.proofs.double.Goals as goal

pub loop-i-preserved : goal.loop-i-preserved
loop-i-preserved c = λ f lf t.
    let w = c.loop-i.invariant f lf t in
    let e = subst (TiedPair f) (sym c.plus-sum.ensures) (tied_added f _ _ lf (tied_entry f c.loop-i.sums c.loop-i.i lf w.0) (tied_entry f (c.args.pair ∷ []) 0 lf t.0)) in
    (All-set (TiedPair f) _ _ _ e w.0, (All-set (TiedPair f) _ _ _ e w.1.0, tt))
