-- What every call of a table but opening tests first: causes 15 (document 02), 1, 2, 14 (document 02), 4 and 5, in this order.
-- Assumes nothing.
use Rattle.std.specs.Prelude.{◌≡◌, true, cond, List, ℕ, length, Ok, Err}
use Rattle.answer.specs.Numbers.{Answer}
use Rattle.answer.specs.declared.Cause.TheVariants.{WrongTable, NotSound}
use Rattle.table.specs.Calls.{shaped, sound, FlatSound}

-- a table that meets neither cause 4 nor cause 5
pub record Ready (t : List ℕ) : Type 0 where
  pub shape : shaped t ≡ true
  pub sound : FlatSound t

-- the word that a call is for, or the answer that turns it down
abbrev pub admitted : List ℕ → Answer → Answer
admitted t (Err a) = Err a
admitted t (Ok w) = cond (shaped t) (cond (sound t) (Ok w) (Err NotSound)) (Err (WrongTable (length t)))
