-- What the code of the line program keeps: a sound table in its buffer, and the bytes printed.
-- Assumes nothing.
use Rattle.std.specs.Prelude.{ℕ, ◌≤◌, ◌≡◌, Bool, List, length, Option, None, Some}
use Rattle.codec.specs.Parts.{written}
use Rattle.model.specs.Request.{plan_allowed}
use Rattle.table_edit.specs.Ready.{Ready}
use Rattle.lines_text.specs.declared.Verb.{Verb}
use Rattle.lines_text.specs.Parsed.{call_of}
use Rattle.lines_open.specs.declared.Buffer.{Buffer}
use Rattle.lines_open.specs.Buffer.{held_in, Fits}

-- what is open is sound
abbrev pub AllReady : Option (List ℕ) → Type 0
AllReady None = Unit {0}
AllReady (Some t) = Ready t

-- the buffer holds a sound table, or none
pub record Holds (b : Buffer) : Type 0 where
  pub fits : Fits b
  pub ready : AllReady (held_in b)

-- the plan that a call of this verb gives, if it gives one, may be given; the word plays no part
abbrev pub verb_allowed : Verb → Bool
verb_allowed v = plan_allowed {I = ℕ} (call_of v 0)

-- the bytes l are printed, at most `most`: they stand in the bytes o from the first on, as far as those reach, and k is their number
pub record Printed (l : List ℕ) (most : ℕ) (o : List ℕ) (k : ℕ) (o' : List ℕ) : Type 0 where
  pub count : k ≡ length l
  pub bytes : o' ≡ written 0 l o
  pub fits : k ≤ most
