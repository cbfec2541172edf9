-- `lines_text::put_decimal` meets its contract. The loop's invariant: the digits of left, before those that are stored, are those of x.
-- Assumes nothing.
use mathlib.Core.Path.{◌≡◌, refl, sym, ap, ◌∙◌}
use mathlib.Core.List.{List}
use Prim.Native.Nat.{ℕ, ◌+◌}
use native.Mathlib.Omega.{arith}
use lib.ListN.{length, drop, set, length-set}
use Rattle.codec.specs.Parts.{written}
use Rattle.lines_text.specs.Decimal.{decimal}
use Rattle.lines_text.proofs.Decimal.{room, fewer, digits_step, digits_end, digits_cut}
use borrow.Author.Rules.{rules}
use Rattle.lines_text.proofs.put_decimal.Goals as goal

pub loop-left-init : goal.loop-left-init
loop-left-init c = (search rules, search rules, refl, refl)

pub overflow_sub-i : goal.overflow_sub-i
overflow_sub-i c =
    room c.loop-left.i c.loop-left.left c.loop-left.invariant.1 (search rules)

pub loop-left-smaller : goal.loop-left-smaller
loop-left-smaller c =
    omega (arith, room c.loop-left.i c.loop-left.left c.loop-left.invariant.1 (search rules))

pub loop-left-preserved : goal.loop-left-preserved
loop-left-preserved c =
    let some = room c.loop-left.i c.loop-left.left c.loop-left.invariant.1 (search rules) in (
      omega arith,
      fewer c.loop-left.i c.loop-left.left c.loop-left.invariant.1 some,
      length-set c.loop-left.digits c.loop-left.i c.digit.result ∙ c.loop-left.invariant.2,
      rw c.digit.ensures (digits_step c.loop-left.i c.loop-left.left c.loop-left.digits some (omega arith) (omega arith)) ∙ c.loop-left.invariant.3,
    )

pub slice_bounds-put_bytes-end : goal.slice_bounds-put_bytes-end
slice_bounds-put_bytes-end c =
    omega (arith, length-set c.loop-left.digits c.loop-left.i c.digit-2.result)

pub returns : goal.returns
returns c =
    let all : drop c.loop-left.i (set c.loop-left.digits c.loop-left.i c.digit-2.result) ≡ decimal c.args.x = rw c.digit-2.ensures (digits_end c.loop-left.i c.loop-left.left c.loop-left.digits (omega arith) (omega arith)) ∙ c.loop-left.invariant.3 in
    let cut = digits_cut c.loop-left.i c.digit-2.result c.loop-left.digits c.loop-left.invariant.0 c.loop-left.invariant.2 in
    (ap (λ (n : ℕ). c.args.at + n) (sym cut.0 ∙ ap length all), c.put_bytes.ensures ∙ ap (λ (l : List ℕ). written c.args.at l c.args.out.now) (cut.1 ∙ all))
