-- The parsed forms of lines of three and of four fields mean what the definitions say.
-- Assumes nothing.
use Rattle.std.proofs.Common.{◌≡◌, ℕ, refl}
use Rattle.std.specs.Prelude.{Option, Some, None}
use Rattle.lines_text.specs.Line.{bad, with_number}

-- a number that is not said is missed whatever else is there
pub no_number : (x : Option ℕ) → with_number x (λ k. bad) ≡ bad
no_number (Some k) = refl
no_number None = refl
