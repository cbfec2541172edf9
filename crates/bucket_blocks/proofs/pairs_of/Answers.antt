-- `bucket_blocks::pairs_of` meets its contract. The loop's invariant: the pairs so far are tied.
-- Assumes nothing.
use mathlib.Core.Path.{sym, ap, ◌∙◌}
use mir.Syntax.{w64}
use mir.Val.{Fits}
use Prim.Native.Nat.{ℕ}
use native.Mathlib.Omega.{arith}
use lib.Bits.{bit_xor}
use lib.ListN.{get_or}
use Rattle.std.proofs.lemmas.List.Elements.{All-set}
use Rattle.gf2.specs.Vectors.{outside}
use Rattle.bucket_pairs.specs.Pairs.{TiedPair}
use Rattle.bucket_pairs.proofs.Tied.{row-pair}
use borrow.Author.Rules.{rules}
use Rattle.bucket_blocks.proofs.pairs_of.Goals as goal

pub loop-a-preserved : goal.loop-a-preserved
loop-a-preserved c =
    let x : ℕ = get_or c.args.rows c.loop-a.a 0 in
    let w : Fits w64 (get_or c.args.rows c.loop-a.a 0) = search rules in (
      omega arith,
      λ f lf fx e t.
          let h = row-pair 64 c.args.mark f c.loop-a.a x lf fx w.fits (e c.loop-a.a c.loop-a-test.true) ∙ ap (λ (u : ℕ). f (bit_xor u (outside x c.args.mark))) (sym c.power.ensures) in
          All-set (TiedPair f) c.loop-a.ws c.loop-a.count _ h (c.loop-a.invariant.1 f lf fx e t),
    )
