-- `transpose::transpose` meets its contract: six steps at 64 words, the mask of each by one computed test; and the words of the last result fit.
-- Assumes nothing.
use mathlib.Core.Path.{◌≡◌, refl}
use mir.Syntax.{w64}
use mir.Val.{Fits}
use Prim.Native.Nat.{ℕ}
use lib.ListN.{length, get_or}
use Rattle.transpose.proofs.Below.{every}
use Rattle.transpose.proofs.Shuffling.{mask_test, stage, steps_transposed}
use borrow.Author.Rules.{rules}
use Rattle.transpose.proofs.transpose.Goals as goal

pub returns : goal.returns
unfolding every mask_test
returns c =
    let lw : length c.args.words ≡ 64 = search (rules, c.well_formed) in
    let lr : length c.shuffle.result ≡ 64 = search rules in
    let fits : (i : ℕ) → Fits w64 (get_or c.shuffle.result i 0) = λ i. search rules in
    let g₁ = stage 32 _ _ c.args.words c.shuffle-a.result c.shuffle-a.ensures tt in
    let g₂ = stage 32 _ _ c.shuffle-a.result c.shuffle-b.result c.shuffle-b.ensures tt in
    let g₃ = stage 32 _ _ c.shuffle-b.result c.shuffle-c.result c.shuffle-c.ensures tt in
    let g₄ = stage 32 _ _ c.shuffle-c.result c.shuffle-d.result c.shuffle-d.ensures tt in
    let g₅ = stage 32 _ _ c.shuffle-d.result c.shuffle-e.result c.shuffle-e.ensures tt in
    let g₆ = stage 32 _ _ c.shuffle-e.result c.shuffle.result c.shuffle.ensures tt in
    steps_transposed 32 6 c.args.words c.shuffle.result refl lw lr (λ i. (fits i).fits)
    (c.shuffle-a.result, (c.shuffle-b.result, (c.shuffle-c.result, (c.shuffle-d.result, (c.shuffle-e.result, (c.shuffle.result, refl, g₆), g₅), g₄), g₃), g₂), g₁)
