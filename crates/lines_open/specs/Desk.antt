-- What takes openings and calls, and what a command does; document 01, "The line program".
-- Assumes nothing.
use Rattle.std.specs.Prelude.{ℕ, cond, List, replicate, Option, None, Some}
use Rattle.answer.specs.Numbers.{Answer}
use Rattle.identifier.specs.Identifier.{Token}
use Rattle.model.specs.Model.{Call}
use Rattle.model.specs.Machine.{Machine, accepted}
use Rattle.table.specs.Layout.{length_of}
use Rattle.table.specs.Calls.{rows, solutions, open_call, call}
use Rattle.lines_text.specs.Line.{Command, opening, ask, bad}
use Rattle.lines_text.specs.Printed.{bad_line, printed}

-- what takes openings and calls: the answer to an opening, what an accepted one leaves, and the calls put to that
pub record Desk (T : Type 0) : Type 0 where
  pub answer : ℕ → ℕ → Answer
  pub opened : ℕ → ℕ → T
  pub calls : Machine T (Call Token)

-- what a line prints, and what is open after it
pub record Turn (T : Type 0) : Type 0 where
  pub output : List ℕ
  pub state : Option T

module _ {T : Type 0} (D : Desk T) where
  -- `bad` is printed, and what is open stays
  abbrev pub refuse : Option T → Turn T
  refuse m = record { output = bad_line; state = m }

  -- what a command does. An accepted opening starts afresh, a refused one keeps what was
  abbrev pub obey : Option T → Command → Turn T
  obey m (opening b1 b2) = record { output = printed (D.answer b1 b2); state = cond (accepted (D.answer b1 b2)) (Some (D.opened b1 b2)) m }
  obey None (ask c) = refuse None
  obey (Some t) (ask c) = record { output = printed (D.calls.answer t c); state = Some (D.calls.next t c) }
  obey m bad = refuse m

-- the table. An opening gets one of the length that its numbers give
abbrev pub tables : Desk (List ℕ)
tables = record {
  answer = λ b1 b2. (open_call b1 b2 (replicate (length_of rows solutions b1 b2) 0)).answer;
  opened = λ b1 b2. (open_call b1 b2 (replicate (length_of rows solutions b1 b2) 0)).table;
  calls = record { answer = λ t c. (call t c).answer; next = λ t c. (call t c).table };
}
