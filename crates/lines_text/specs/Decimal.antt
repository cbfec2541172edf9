-- Decimal numbers as the line program reads and prints them.
-- Assumes nothing.
use Rattle.std.specs.Prelude.{ℕ, zero, suc, ◌+◌, ◌-◌, ◌*◌, ◌/◌, ◌%◌, Bool, cond, ◌&&◌, List, [], ◌∷◌, leb, ltb, eqb, Option, Some, None}

-- the byte of the digit d
abbrev pub digit_of : ℕ → ℕ
digit_of d = 0x30 + d

-- the byte b is a digit
abbrev pub is_digit : ℕ → Bool
is_digit b = leb 0x30 b && leb b 0x39

-- the number of the digits of n and one more
abbrev pub grown : ℕ → ℕ → ℕ
grown n b = 10 * n + (b - 0x30)

-- the number of the digits of n and then those of s, if it is at most limit
unfoldable pub read_on : ℕ → ℕ → List ℕ → Option ℕ
read_on limit n [] = Some n
read_on limit n (b ∷ s) = cond (is_digit b) (cond (leb (grown n b) limit) (read_on limit (grown n b) s) None) None

-- the field after a first 0: there is none
abbrev pub only_zero : List ℕ → Option ℕ
only_zero [] = Some 0
only_zero (b ∷ s) = None

-- document 01's "decimal without leading zeros", to limit
unfoldable pub number_to : ℕ → List ℕ → Option ℕ
number_to limit [] = None
number_to limit (b ∷ s) = cond (eqb b 0x30) (only_zero s) (read_on limit 0 (b ∷ s))

-- the digits of n, at most k of them, and then s
unfoldable pub digits_then : ℕ → ℕ → List ℕ → List ℕ
digits_then zero n s = s
digits_then (suc k) n s = cond (ltb n 10) (digit_of n ∷ s) (digits_then k (n / 10) (digit_of (n % 10) ∷ s))

-- a 64-bit number has at most 20 digits
abbrev pub most_digits : ℕ
most_digits = 20

-- n printed
abbrev pub decimal : ℕ → List ℕ
decimal n = digits_then most_digits n []
