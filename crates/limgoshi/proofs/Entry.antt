-- An entry passes on the answer of the call that it makes.
-- Assumes nothing.
use Prim.Native.Nat.{ℕ}
use mathlib.Core.Path.{◌≡◌, ap, ◌∙◌}
use Rattle.answer.specs.Numbers.{Answer, number_of, value_of}
use Rattle.limgoshi.specs.Entry.{Gives}

-- b is what the call answers, a what its contract says of it
pub gives : {a b : Answer} {number value : ℕ} → number ≡ number_of b → value ≡ value_of b → b ≡ a → Gives a number value
gives n v e = (n ∙ ap number_of e, v ∙ ap value_of e)
