-- What the line program prints for an input; document 01, "The line program".
-- Assumes nothing.
use Rattle.std.specs.Prelude.{ℕ, suc, cond, List, [], ◌∷◌, ◌++◌, leb, length, take, Option, None, Ok, Err}
use Rattle.answer.specs.declared.Cause.TheVariants.{WrongBuckets}
use Rattle.model.specs.Model as M
use Rattle.model.specs.Model.{State}
use Rattle.model.specs.Request.{serve}
use Rattle.table.specs.Layout.{in_range}
use Rattle.lines_text.specs.Line.{lf, parted, command_of}
use Rattle.lines_text.specs.Printed.{bad_line}
use Rattle.lines_open.specs.Desk.{Desk, Turn, refuse, obey, tables}

-- the first 64 KiB count
abbrev pub input_limit : ℕ
input_limit = 65536

-- the bytes of an input that count
abbrev pub counted : List ℕ → List ℕ
counted s = take input_limit s

-- a line has at most 64 bytes with its LF
abbrev pub line_limit : ℕ
line_limit = 64

-- what is left after the last LF: a line without LF, or none
abbrev pub unfinished : List ℕ → List ℕ
unfinished [] = []
unfinished (x ∷ s) = bad_line

module _ {T : Type 0} (D : Desk T) where
  -- a line s that had its LF
  abbrev pub turn : Option T → List ℕ → Turn T
  turn m s = cond (leb (suc (length s)) line_limit) (obey D m (command_of s)) (refuse D m)

  -- the lines one after the other; each part but the last had its LF
  abbrev pub output_from : Option T → List (List ℕ) → List ℕ
  output_from m [] = []
  output_from m (s ∷ []) = unfinished s
  output_from m (s ∷ r ∷ rs) = (turn m s).output ++ output_from (turn m s).state (r ∷ rs)

  -- what is printed for an input
  abbrev pub output_of : List ℕ → List ℕ
  output_of s = output_from None (parted lf (counted s))

-- what the line program prints for an input
unfoldable pub output : List ℕ → List ℕ
output s = output_of tables s

-- the model in the table's place
abbrev pub states : Desk State
states = record {
  answer = λ b1 b2. cond (in_range b1 b2) (Ok 0) (Err WrongBuckets);
  opened = λ b1 b2. M.opened (record { buckets1 = b1; buckets2 = b2 });
  calls = record { answer = λ t c. (serve t c).answer; next = λ t c. (serve t c).after };
}
