-- The causes 15, 1 and 2 in the documents' words: every call that takes an identifier meets them first.
-- Assumes nothing.
use Rattle.std.specs.Prelude.{ℕ, ◌<◌, ◌≡◌, ◌⊎◌, true, false, List, [], ◌∷◌, length, get_or}
use Rattle.answer.specs.Causes.{Cause, cause_if}
use Rattle.identifier.specs.Identifier.{Token, id_bytes, allowed, last_kind, most_bytes}

-- document 02, order 4, "kind not 1 to 7, before cause 1"; 0
abbrev pub wrong_kind : Token → Cause
wrong_kind i = cause_if 15 ((i.kind ≡ 0) ⊎ (last_kind < i.kind)) 0

-- "identifier of 0 or over 36 bytes"; its length
abbrev pub wrong_length : Token → Cause
wrong_length i = cause_if 1 ((i.stated ≡ 0) ⊎ (most_bytes < i.stated)) i.stated

-- the bytes before index i are allowed
abbrev pub AllowedTo : List ℕ → ℕ → Type 0
AllowedTo s i = (j : ℕ) → j < i → allowed (get_or s j 0) ≡ true

-- "byte not allowed"; index of the first
abbrev pub FirstNotAllowed : List ℕ → ℕ → Type 0
FirstNotAllowed s i = (i < length s) × (allowed (get_or s i 0) ≡ false) × AllowedTo s i

-- with that index
abbrev pub wrong_byte : Token → Cause
wrong_byte i = record { number = 2; met = FirstNotAllowed (id_bytes i) }

-- an identifier's causes, in their order
abbrev pub id_causes : Token → List Cause
id_causes i = wrong_kind i ∷ wrong_length i ∷ wrong_byte i ∷ []
