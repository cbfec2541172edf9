-- What the line program prints for one line: an answer, or `bad`; document 01, "The line program".
-- Assumes nothing.
use Rattle.std.specs.Prelude.{ℕ, ◌+◌, cond, List, [], ◌∷◌, ◌++◌, length}
use Rattle.answer.specs.Numbers.{Answer, number_of, value_of}
use Rattle.model.specs.Machine.{accepted}
use Rattle.lines_text.specs.Decimal.{most_digits, decimal}
use Rattle.lines_text.specs.Line.{lf, space}

-- `bad`
abbrev pub bad_line : List ℕ
bad_line = 0x62 ∷ 0x61 ∷ 0x64 ∷ lf ∷ []

-- `ok `
abbrev pub ok_start : List ℕ
ok_start = 0x6f ∷ 0x6b ∷ space ∷ []

-- `no `
abbrev pub no_start : List ℕ
no_start = 0x6e ∷ 0x6f ∷ space ∷ []

-- an answer printed: `ok N`, the number returned, or `no N`, the cause
unfoldable pub printed : Answer → List ℕ
printed a = cond (accepted a) (ok_start ++ (decimal (value_of a) ++ (lf ∷ []))) (no_start ++ (decimal (number_of a) ++ (lf ∷ [])))

-- the longest line that is printed: `ok `, the digits of a number and LF
abbrev pub most_printed : ℕ
most_printed = length ok_start + (most_digits + 1)
