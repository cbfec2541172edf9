-- `lines_text::put_decimal` meets its contract. The loop's invariant: the digits of left, before those that are stored, are those of x.
-- Assumes nothing.
use mathlib.Core.Path.{◌≡◌}
use Prim.Native.Nat.{◌+◌, ◌^◌, ◌<◌}
use lib.ListN.{length, drop}
use Rattle.lines_text.specs.Decimal.{most_digits, digits_then, decimal}
use Rattle.lines_text.proofs.put_decimal.Given as goal

abbrev pub invariant-loop-left : goal.invariant-loop-left
invariant-loop-left l =
    (l.i < most_digits) × (l.left < 10 ^ (l.i + 1)) × (length l.digits ≡ most_digits) × (digits_then (l.i + 1) l.left (drop (l.i + 1) l.digits) ≡ decimal l.x)

abbrev pub decreases-loop-left : goal.decreases-loop-left
decreases-loop-left l = l.i
