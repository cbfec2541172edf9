-- Document 01's identifier with document 02's order 4: which bytes are allowed, folding, kinds, the word, and the causes 15, 1 and 2; then order 3's 14.
use Rattle.std.specs.Prelude.{ℕ, suc, ◌+◌, ◌-◌, ◌%◌, Bool, true, false, cond, not, ◌&&◌, ◌||◌, List, [], ◌∷◌, map, leb, ltb, eqb, length, take, Ok, Err}
use Rattle.answer.specs.Numbers.{Answer}
use Rattle.answer.specs.declared.Cause.TheVariants.{WrongLength, WrongByte, WrongKind, DeskPlanGiven}
use Rattle.hash.specs.Mix.{mix_of}
use Rattle.hash.specs.Fnv.{fnv_of}

-- first ≤ b ≤ last
abbrev pub between : ℕ → ℕ → ℕ → Bool
between first last b = leb first b && leb b last

-- b is in the list
abbrev pub one_of : List ℕ → ℕ → Bool
one_of [] b = false
one_of (x ∷ xs) b = eqb x b || one_of xs b

-- a to z
abbrev pub small : ℕ → Bool
small b = between 0x61 0x7a b

-- A to Z
abbrev pub capital : ℕ → Bool
capital b = between 0x41 0x5a b

-- 0 to 9
abbrev pub digit : ℕ → Bool
digit b = between 0x30 0x39 b

-- * - _ = : + | @ .
abbrev pub marks : List ℕ
marks = 0x2a ∷ 0x2d ∷ 0x5f ∷ 0x3d ∷ 0x3a ∷ 0x2b ∷ 0x7c ∷ 0x40 ∷ 0x2e ∷ []

-- document 01's "Allowed: letters, digits and * - _ = : + | @ ."
unfoldable pub allowed : ℕ → Bool
allowed b = small b || capital b || digit b || one_of marks b

-- document 01's folding: a to z become A to Z, nothing else is changed
unfoldable pub folded : ℕ → ℕ
folded b = cond (small b) (b - 0x20) b

-- the table has numbers from this one on for bytes that are not allowed
abbrev pub refused_from : ℕ
refused_from = 128

-- document 01's table of 256 entries: what the byte is folded to, or, if it is not allowed, a number that no allowed byte is folded to
unfoldable pub fold_of : ℕ → ℕ
fold_of b = cond (allowed b) (folded b) (refused_from + b % refused_from)

-- an identifier as it is handed in: its kind, its stated length, and bytes that begin with it. What follows them is not read
pub record Token : Type 0 where
  pub kind : ℕ
  pub stated : ℕ
  pub bytes : List ℕ

-- the identifier's own bytes
abbrev pub id_bytes : Token → List ℕ
id_bytes i = take i.stated i.bytes

-- the bytes s, all of them, as an identifier of this kind: every call is handed one so
abbrev pub token : ℕ → List ℕ → Token
token kind s = record { kind = kind; stated = length s; bytes = s }

-- the bytes that are hashed: "the kind byte followed by the folded bytes"
abbrev pub hashed : Token → List ℕ
hashed i = i.kind ∷ map folded (id_bytes i)

-- the word of an identifier: "S(FNV of the kind byte followed by the folded bytes)"
unfoldable pub word_of : Token → ℕ
word_of i = mix_of (fnv_of (hashed i))

-- kinds go from 1 to 7: 1 Central, 2 eMAID, 3 ISO14443, 4 ISO15693, 5 KeyCode, 6 Local, 7 MacAddress
abbrev pub last_kind : ℕ
last_kind = 7

-- k is a kind
abbrev pub is_kind : ℕ → Bool
is_kind k = between 1 last_kind k

-- an identifier has at most this many bytes
abbrev pub most_bytes : ℕ
most_bytes = 36

-- and at least 1
abbrev pub sized : ℕ → Bool
sized n = between 1 most_bytes n

-- the index of the first byte that is not allowed, or the length if each is
unfoldable pub first_refused : List ℕ → ℕ
first_refused [] = 0
first_refused (b ∷ bs) = cond (allowed b) (suc (first_refused bs)) 0

-- what an identifier is found to be: cause 15, then 1, then 2, else its word
unfoldable pub read_of : Token → Answer
read_of i =
    cond (not (is_kind i.kind)) (Err WrongKind)
    (cond (not (sized i.stated)) (Err (WrongLength i.stated))
    (cond (ltb (first_refused (id_bytes i)) (length (id_bytes i))) (Err (WrongByte (first_refused (id_bytes i))))
    (Ok (word_of i))))

-- by what an identifier is read as, for a call that gives a plan: the word, where the plan is allowed, else cause 14 (document 02, order 3: "after cause 2")
abbrev pub with_plan : Bool → Answer → Answer
with_plan given (Err c) = Err c
with_plan given (Ok w) = cond given (Ok w) (Err DeskPlanGiven)

-- a and b are equal, or one is a letter a to z and the other its capital
abbrev pub same_letter : ℕ → ℕ → Bool
same_letter a b = eqb a b || (small a && eqb (a - 0x20) b) || (small b && eqb (b - 0x20) a)

-- s and t differ only in the case of letters a to z
unfoldable pub only_case : List ℕ → List ℕ → Bool
only_case [] [] = true
only_case [] (b ∷ t) = false
only_case (a ∷ s) [] = false
only_case (a ∷ s) (b ∷ t) = same_letter a b && only_case s t
