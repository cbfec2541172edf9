-- `bucket_blocks::guess_rows` meets its contract. The loop's invariant: the left words are the products of the right ones.
-- Assumes nothing.
use mathlib.Core.Path.{◌≡◌, sym, subst}
use Prim.Native.Nat.{◌<◌, ◌^◌}
use lib.ListN.{length}
use Rattle.std.proofs.lemmas.List.Elements.{All-take}
use Rattle.gf2.specs.Vectors.{product}
use Rattle.gf2.proofs.Linear.{product_xor}
use Rattle.bucket_pairs.specs.Pairs.{TiedPair, Guessed}
use Rattle.bucket_pairs.proofs.Tied.{tied_zeros, pairs_begin}
use Rattle.bucket_pairs.proofs.Read.{read_guessed, dependence_zero}
use borrow.Author.Rules.{rules}
use Rattle.bucket_blocks.proofs.guess_rows.Goals as goal

pub loop-b-init : goal.loop-b-init
loop-b-init c =
    let f = product c.args.cols in
    let lf = product_xor c.args.cols in
    let n : length c.args.cols ≡ 64 = search rules in
    let t = pairs_begin 64 88 c.args.mark c.args.cols c.transpose.result c.pairs_of-count.new.ws n c.ranges.mark.fits c.requires c.transpose.ensures c.pairs_of-count.ensures.1 in
    (t, (search rules, (tied_zeros f 16 lf, (tied_zeros f 16 lf, tt))))

pub loop-b-preserved : goal.loop-b-preserved
loop-b-preserved c = c.block-p.ensures (product c.args.cols) (product_xor c.args.cols) c.loop-b.invariant

pub returns-then-p-eq0 : goal.returns-then-p-eq0
returns-then-p-eq0 c =
    let n : length c.args.cols ≡ 64 = search rules in
    let t = All-take (TiedPair (product c.args.cols)) c.pairs_of-count.result c.loop-b.ws c.loop-b.invariant.0 in
    subst (Guessed 64 c.args.cols) (sym c.rows_in.ensures) (read_guessed 64 c.args.mark c.args.cols _ n c.ranges.mark.fits c.requires t)

pub returns-in-Some : goal.returns-in-Some
returns-in-Some c =
    let y = c.in-Some.field-0 in
    let h : y < 2 ^ 64 = search rules in
    let d = dependence_zero (product c.args.cols) c.loop-b.window y c.in-Some.ensures c.loop-b.invariant.1.0 in
    (y, h, d.0, d.1)
