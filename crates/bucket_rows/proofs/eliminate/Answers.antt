-- `bucket_rows::eliminate` meets its contract. The loop's invariant: the state is that after the first `j` columns, all of them placed;
-- outside `occupied` each product has its own bit alone, and no free row from `j` on is taken.
-- Assumes nothing.
use mathlib.Core.Path.{◌≡◌, refl, sym, ap, ◌∙◌}
use mathlib.Core.Bool.{false}
use Prim.Native.Nat.{ℕ, ◌/◌, ◌%◌, ◌<◌, ◌^◌}
use native.Mathlib.Omega.{arith}
use lib.Dec.{ltb}
use lib.Bits.{bit_xor}
use lib.ListN.{length, get_or}
use Rattle.gf2.specs.Vectors.{sol_step}
use Rattle.gf2.proofs.Bit.{bit_zero}
use Rattle.gf2.proofs.Solutions.{sol_step_none}
use Rattle.gf2.proofs.Loops.{length-sol_step}
use Rattle.bucket_rows.specs.Elimination.{clear_from, passed, Work, row_at, step_at, after, placed, eliminated}
use Rattle.bucket_rows.proofs.Laws.{row_is, row_none, below-some, answer_is, stuck, after_more, placed-more, clear_from_none, length-clear_from}
use Rattle.bucket_rows.proofs.Free.{cols→bits}
use Rattle.bucket_rows.proofs.Skip.{passed_is, free_bits_after, untaken_after}
use borrow.Author.Rules.{rules}
use Rattle.bucket_rows.proofs.eliminate.Goals as goal
use Rattle.bucket_rows.proofs.eliminate.Goals.{then-w-ne0, else-w-ne0}

pub loop-j-init : goal.loop-j-init
unfolding after placed
loop-j-init c =
    let e : length c.unit_rows-duals.result ≡ 64 = ap length c.unit_rows-duals.ensures in
    let l : length c.args.cols ≡ 64 = search rules in
    (l, e, rw c.unit_rows-duals.ensures, refl, cols→bits 64 c.args.occupied c.args.cols l c.requires, λ a h z. bit_zero a)

pub returns-in_err-p : goal.returns-in_err-p
unfolding eliminated
returns-in_err-p c =
    let s : Work = record { prods = c.loop-j.prods; duals = c.loop-j.duals; mark = c.loop-j.mark } in
    let q : ltb (row_at 64 c.loop-j.j s) 64 ≡ false = row_none 64 c.loop-j.j s c.in_err-p.ensures in
    let f : placed 64 c.args.cols 64 ≡ false = stuck 64 c.args.cols c.loop-j.j 64 c.loop-j-test.true (rw (← c.loop-j.invariant.2) q) in
    rw f c.from_residual.ensures

pub loop-j-preserved : goal.loop-j-preserved
unfolding step_at
loop-j-preserved c =
    let o : ℕ = c.args.occupied in
    let s : Work = record { prods = c.loop-j.prods; duals = c.loop-j.duals; mark = c.loop-j.mark } in
    let j : ℕ = c.loop-j.j in
    let p : ℕ = c.in_ok-p.p in
    let b = below-some 64 _ p c.in_ok-p.ensures in
    let x : ℕ = get_or c.loop-j.prods j 0 in
    let u : ℕ = get_or c.loop-j.duals p 0 in
    let q : p ≡ row_at 64 j s = row_is 64 j p s b.1 in
    let hj : j < 64 = omega arith in
    let hp : p < 64 = b.0 in
    let ep : c.if-w-ne0.prods ≡ clear_from j p (bit_xor x (2 ^ p)) c.loop-j.prods =
    elim c.if-w-ne0.branch [
      | then-w-ne0 w ↦ w.prods-is ∙ w.pass.ensures ∙ ap (λ (y : ℕ). passed (o / 2 ^ j % 2) j p (bit_xor x y) y c.loop-j.prods) c.power-unit.ensures ∙ passed_is 64 o j p s c.loop-j.invariant.0 c.loop-j.invariant.4 c.loop-j.invariant.5 hj hp b.1
      | else-w-ne0 w ↦ w.prods-is ∙ sym (clear_from_none j p c.loop-j.prods) ∙ ap (λ (y : ℕ). clear_from j p y c.loop-j.prods) (sym w.if-w-ne0.false ∙ ap (bit_xor x) c.power-unit.ensures)
    ] in
    let ed : c.if-w-ne0.duals ≡ sol_step u (bit_xor x (2 ^ p)) c.loop-j.duals =
    elim c.if-w-ne0.branch [
      | then-w-ne0 w ↦ w.duals-is ∙ w.flip_all.ensures ∙ ap (λ (y : ℕ). sol_step u (bit_xor x y) c.loop-j.duals) c.power-unit.ensures
      | else-w-ne0 w ↦ w.duals-is ∙ sym (sol_step_none u c.loop-j.duals) ∙ ap (λ (y : ℕ). sol_step u y c.loop-j.duals) (sym w.if-w-ne0.false ∙ ap (bit_xor x) c.power-unit.ensures)
    ] in (
      rw (ep, length-clear_from) c.loop-j.invariant.0,
      rw (ed, length-sol_step) c.loop-j.invariant.1,
      rw (ep, ed, c.power-unit.ensures) (sym (after_more 64 c.args.cols j s p c.loop-j.invariant.2 q)),
      placed-more 64 c.args.cols j s p c.loop-j.invariant.2 q hp c.loop-j.invariant.3,
      rw ep (free_bits_after 64 o j p s c.loop-j.invariant.0 c.loop-j.invariant.4 c.loop-j.invariant.5 hj hp b.1),
      rw c.power-unit.ensures (untaken_after 64 o j p s c.loop-j.invariant.0 c.loop-j.invariant.4 c.loop-j.invariant.5 hj hp b.1),
    )

pub returns : goal.returns
returns c =
    let z : c.loop-j.j ≡ 64 = omega arith in
    answer_is 64 c.args.cols (record { prods = c.loop-j.prods; duals = c.loop-j.duals; mark = c.loop-j.mark }) c.in_order.new.t
    (rw z at c.loop-j.invariant.2) (rw z at c.loop-j.invariant.3) c.in_order.ensures
