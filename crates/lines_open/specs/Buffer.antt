-- The buffer that holds the line program's table, and what the code does at a line.
-- Assumes nothing.
use Rattle.std.specs.Prelude.{ℕ, ◌≤◌, ◌≡◌, List, length, take, drop, Option, Some, None, IfSome, option_map, unwrap_or}
use Rattle.answer.specs.Numbers.{Answer}
use Rattle.lines_text.specs.Printed.{bad_line, printed}
use Rattle.lines_open.specs.declared.Buffer.{Buffer}
use Rattle.lines_open.specs.Desk.{Turn}

-- what is open: the first numbers of the buffer, as many as are held
abbrev pub held_in : Buffer → Option (List ℕ)
held_in b = option_map (λ n. take n b.numbers) b.held

-- no more is held than there are numbers
abbrev pub Fits : Buffer → Type 0
Fits b = IfSome b.held (λ n. n ≤ length b.numbers)

-- the line that says this answer, or `bad`
abbrev pub said : Option Answer → List ℕ
said (Some a) = printed a
said None = bad_line

-- the numbers of the buffer beyond the first n
abbrev pub beyond : Option ℕ → List ℕ → List ℕ
beyond n t = drop (unwrap_or n 0) t

-- the turn w is done: its output is what the answer says, and its state is in the buffer, which stays beyond it
pub record Did (w : Turn (List ℕ)) (b : Buffer) (a : Option Answer) (b' : Buffer) : Type 0 where
  pub output : said a ≡ w.output
  pub state : held_in b' ≡ w.state
  pub fits : Fits b'
  pub stays : beyond b'.held b'.numbers ≡ beyond b'.held b.numbers
