-- The kinds of identifiers, document 02, order 4, by their numbers.
use Rattle.std.specs.Prelude.{ℕ, ◌-◌, cond, Result, Ok, Err, List, [], ◌∷◌, get_or}
use Rattle.answer.specs.declared.Cause.{Cause}
use Rattle.answer.specs.declared.Cause.TheVariants.{WrongKind}
use Rattle.identifier.specs.Identifier.{is_kind}
use Rattle.identifier.specs.declared.Kind.{Kind}
use Rattle.identifier.specs.declared.Kind.TheVariants.{Central, Emaid, Iso14443, Iso15693, KeyCode, Local, MacAddress}

-- from 1 on
abbrev pub kinds : List Kind
kinds = Central ∷ Emaid ∷ Iso14443 ∷ Iso15693 ∷ KeyCode ∷ Local ∷ MacAddress ∷ []

-- the kind of the number n, or cause 15
abbrev pub kind_of : ℕ → Result Kind Cause
kind_of n = cond (is_kind n) (Ok (get_or kinds (n - 1) Central)) (Err WrongKind)
