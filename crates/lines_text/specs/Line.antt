-- A line of the line program: its fields, and what it asks for; document 01, "The line program", with document 02's order 4: "the kind is a digit
-- field before ID".
-- Assumes nothing.
use Rattle.std.specs.Prelude.{ℕ, cond, List, [], ◌∷◌, eqb, Option, Some, None}
use Rattle.std.specs.List.{slice_split}
use Rattle.codec.specs.Bytes.{eq_list}
use Rattle.identifier.specs.Identifier.{Token, token}
use Rattle.model.specs.Model.{Call, add, change, withdraw, query}
use Rattle.lines_text.specs.Decimal.{number_to}

-- LF
abbrev pub lf : ℕ
lf = 0x0a

-- the byte that parts fields
abbrev pub space : ℕ
space = 0x20

-- the parts of s that single b part, empty ones too
unfoldable pub parted : ℕ → List ℕ → List (List ℕ)
parted b = slice_split (λ x. eqb x b)

-- what a line asks for: an opening, a call, or nothing that the program knows
pub data Command : Type 0 where
  opening : (b1 b2 : ℕ) → Command
  ask : (c : Call Token) → Command
  bad : Command

-- B1 and B2 go to 999
abbrev pub most_buckets : ℕ
most_buckets = 999

-- KIND is "a digit field": it goes to 9
abbrev pub most_kind : ℕ
most_kind = 9

-- PLAN goes to 255
abbrev pub most_plan : ℕ
most_plan = 255

-- what f makes of the number that a field says; `bad` if it says none
abbrev pub with_number : Option ℕ → (ℕ → Command) → Command
with_number (Some n) f = f n
with_number None f = bad

-- `open B1 B2`
abbrev pub open_with : List ℕ → List ℕ → Command
open_with x y = with_number (number_to most_buckets x) (λ b1. with_number (number_to most_buckets y) (λ b2. opening b1 b2))

-- KIND ID: what f makes of the identifier
abbrev pub ask_with : List ℕ → List ℕ → (Token → Command) → Command
ask_with x y f = with_number (number_to most_kind x) (λ k. f (token k y))

-- PLAN: c is the call but for its plan
abbrev pub plan_with : List ℕ → (ℕ → Call Token) → Command
plan_with z c = with_number (number_to most_plan z) (λ p. ask (c p))

-- the word `open`
abbrev pub open_word : List ℕ
open_word = 0x6f ∷ 0x70 ∷ 0x65 ∷ 0x6e ∷ []

-- `add`
abbrev pub add_word : List ℕ
add_word = 0x61 ∷ 0x64 ∷ 0x64 ∷ []

-- `set`
abbrev pub set_word : List ℕ
set_word = 0x73 ∷ 0x65 ∷ 0x74 ∷ []

-- `del`
abbrev pub del_word : List ℕ
del_word = 0x64 ∷ 0x65 ∷ 0x6c ∷ []

-- `get`
abbrev pub get_word : List ℕ
get_word = 0x67 ∷ 0x65 ∷ 0x74 ∷ []

-- a line of three fields: `open B1 B2`, `del KIND ID`, `get KIND ID`
unfoldable pub of_three : List ℕ → List ℕ → List ℕ → Command
of_three w x y =
    cond (eq_list w open_word) (open_with x y)
    (cond (eq_list w del_word) (ask_with x y (λ i. ask (withdraw i)))
    (cond (eq_list w get_word) (ask_with x y (λ i. ask (query i)))
    bad))

-- a line of four fields: `add KIND ID PLAN`, `set KIND ID PLAN`
unfoldable pub of_four : List ℕ → List ℕ → List ℕ → List ℕ → Command
of_four w x y z =
    cond (eq_list w add_word) (ask_with x y (λ i. plan_with z (add i)))
    (cond (eq_list w set_word) (ask_with x y (λ i. plan_with z (change i)))
    bad)

-- a line of these fields
abbrev pub of_fields : List (List ℕ) → Command
of_fields [] = bad
of_fields (w ∷ []) = bad
of_fields (w ∷ x ∷ []) = bad
of_fields (w ∷ x ∷ y ∷ []) = of_three w x y
of_fields (w ∷ x ∷ y ∷ z ∷ []) = of_four w x y z
of_fields (w ∷ x ∷ y ∷ z ∷ f ∷ fs) = bad

-- what the line s, without its LF, asks for
abbrev pub command_of : List ℕ → Command
command_of s = of_fields (parted space s)
