-- Answers printed: what is written one after the other, and how long it is.
-- Assumes nothing.
use mathlib.Core.Path.{◌≡◌, sym, ◌∙◌}
use mathlib.Core.List.{List, [], ◌∷◌, ◌++◌}
use Prim.Native.Nat.{ℕ, zero, suc, ◌+◌, ◌/◌, ◌%◌, ◌≤◌}
use native.Mathlib.Omega.{arith}
use lib.Dec.{ltb}
use lib.ListN.{length, length-append}
use borrow.Author.Tests.{ne_eqb}
use Rattle.lists.proofs.Tests.{cases}
use Rattle.codec.specs.Parts.{written}
use Rattle.codec.proofs.Part.{written-append}
use Rattle.answer.specs.Numbers.{Answer, number_of, value_of}
use Rattle.model.specs.Machine.{accepted}
use Rattle.lines_text.specs.Decimal.{digit_of, digits_then, most_digits, decimal}
use Rattle.lines_text.specs.Line.{lf}
use Rattle.lines_text.specs.Printed.{no_start, printed, most_printed}

-- ---- lengths

digits_most : (k n : ℕ) (s : List ℕ) → length (digits_then k n s) ≤ k + length s
unfolding digits_then
digits_most zero n s = omega arith
digits_most (suc k) n s =
    cases (ltb n 10) (λ e. rw e (omega arith)) (λ e. rw e (omega (arith, digits_most k (n / 10) (digit_of (n % 10) ∷ s))))

pub decimal_most : (n : ℕ) → length (decimal n) ≤ most_digits
decimal_most n = digits_most most_digits n []

-- the longest line that is printed
pub printed_most : (a : Answer) → length (printed a) ≤ most_printed
unfolding printed
printed_most a =
    cases (accepted a)
    (λ e. rw (e, length-append (decimal (value_of a)) (lf ∷ [])) (omega (arith, decimal_most (value_of a))))
    (λ e. rw (e, length-append (decimal (number_of a)) (lf ∷ [])) (omega (arith, decimal_most (number_of a))))

-- ---- an answer

module _ (a : Answer) where
  pub printed_no : (number_of a ≡ 0 → ⊥) → printed a ≡ no_start ++ (decimal (number_of a) ++ (lf ∷ []))
  unfolding printed
  printed_no e = rw (ne_eqb (number_of a) 0 e)

-- the three parts of a line, written one after the other
pub line_written : (at n end : ℕ) (start o0 o1 o2 o3 : List ℕ) → o1 ≡ written at start o0
    → end ≡ at + length start + length (decimal n) → o2 ≡ written (at + length start) (decimal n) o1 → o3 ≡ written end (lf ∷ []) o2
    → (end + 1 ≡ at + length (start ++ (decimal n ++ (lf ∷ [])))) × (o3 ≡ written at (start ++ (decimal n ++ (lf ∷ []))) o0)
line_written at n end start o0 o1 o2 o3 e f g h = (
  rw (length-append start (decimal n ++ (lf ∷ [])), length-append (decimal n) (lf ∷ [])) (omega arith),
  h
      ∙ rw (f, g, e) (sym (written-append at start (decimal n ++ (lf ∷ [])) o0 ∙ written-append (at + length start) (decimal n) (lf ∷ []) (written at start o0))),
)
