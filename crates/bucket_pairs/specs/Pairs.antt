-- Words in pairs, left and right: how they are XORed, what is read off them, and what holds of them. The left word is a linear function of the right one.
-- XORs of pairs keep that, so no more is said of the steps that choose pairs: that the rows are found is tested at the end.
-- Assumes nothing.
use Rattle.std.specs.Prelude.{◌≡◌, ◌&&◌, cond, Option, Some, None, List, [], ◌∷◌, ℕ, ◌/◌, ◌%◌, ◌^◌, ◌<◌, Bool, not, eqb, ltb, length, get_or, set}
use Rattle.std.specs.Int.Bits.{bit_xor, bit_and}
use Rattle.std.specs.Int.Count.{count_trailing_zeros}
use Rattle.std.specs.List.{All, find}
use Rattle.std.specs.Option.{option_map}
use Rattle.gf2.specs.Vectors.{outside, product, units}
use Rattle.bucket_pairs.specs.declared.Pair.{Pair}
use Rattle.bucket_pairs.specs.declared.Tables.{Tables}
use Rattle.bucket_pairs.specs.declared.Guess.{Guess}
use Rattle.bucket_pairs.specs.declared.Guess.TheVariants.{Rows, Singular, Unknown}

-- the pairs that are worked on, and those behind them that are read
abbrev pub pairs_room : ℕ
pairs_room = 88

-- ---- a pair

abbrev pub zeros : Pair
zeros = record { left = 0; right = 0 }

-- the sum of two pairs, word by word
abbrev pub added : Pair → Pair → Pair
added p q = record { left = bit_xor p.left q.left; right = bit_xor p.right q.right }

-- pair i of a table
abbrev pub entry : List Pair → ℕ → Pair
entry ts i = get_or ts i zeros

-- ---- the sweep

-- the index in a table of 16 pairs: of the lowest four bits of x those that `have` names
abbrev pub index_of : ℕ → ℕ → ℕ
index_of x have = bit_and x have % 16

-- XORed into it the two pairs that have its bits: one of the first table, for the four columns from c on, and one of the second, for the next four
unfoldable pub swept : Tables → ℕ → ℕ → Pair → Pair
swept ts c have p = added (added p (entry ts.first (index_of (p.left / 2 ^ c) (have % 16)))) (entry ts.second (index_of (p.left / 2 ^ c / 16) (have / 16)))

-- ---- what is read off pairs

-- the bit of a word that has one bit alone, below n
unfoldable pub only_bit : ℕ → ℕ → Option ℕ
only_bit n x = cond (ltb (count_trailing_zeros n x) n && eqb x (2 ^ count_trailing_zeros n x)) (Some (count_trailing_zeros n x)) None

-- what f tells of the number, if there is one
abbrev pub told : Option ℕ → (ℕ → Guess) → Guess
told None f = Unknown
told (Some j) f = f j

-- each right word becomes the row that its left word names, whose bit is then no longer left: the rows, once none is left
unfoldable pub read_from : ℕ → List Pair → List ℕ → ℕ → Guess
read_from n [] rows left = cond (eqb left 0) (Rows rows) Unknown
read_from n (p ∷ ws) rows left = told (only_bit n p.left) (λ j. read_from n ws (set rows j p.right) (outside left p.left))

-- the rows that pairs give, if their left words are the units of the rows that the mark names; the other rows are units
unfoldable pub read_rows : ℕ → ℕ → List Pair → Guess
read_rows n mark ws = read_from n ws (units n) mark

-- its left word is 0, and its right one is not
abbrev pub depends : Pair → Bool
depends p = eqb p.left 0 && not (eqb p.right 0)

-- the first right word of a pair that does
abbrev pub dependence : List Pair → Option ℕ
dependence ws = option_map (λ p. p.right) (find depends ws)

-- ---- what holds of pairs

-- f of a sum is the sum of f, over GF(2)
abbrev pub Linear : (ℕ → ℕ) → Type 0
Linear f = (x y : ℕ) → f (bit_xor x y) ≡ bit_xor (f x) (f y)

-- f of the right word of a pair is the left one
abbrev pub TiedPair : (ℕ → ℕ) → Pair → Type 0
TiedPair f p = p.left ≡ f p.right

-- of each of these
abbrev pub Tied : (ℕ → ℕ) → List Pair → Type 0
Tied f = All (TiedPair f)

-- each of these lists of pairs
abbrev pub EachTied : (ℕ → ℕ) → List (List Pair) → Type 0
EachTied f [] = Unit {0}
EachTied f (ws ∷ wss) = Tied f ws × EachTied f wss

-- what a linear function ties before, it ties after
abbrev pub Keeps : List (List Pair) → List (List Pair) → Type 0
Keeps before after = (f : ℕ → ℕ) → Linear f → EachTied f before → EachTied f after

-- ---- at the start

-- each of the n columns has, outside the mark, its own bit alone
abbrev pub OwnOutside : ℕ → ℕ → List ℕ → Type 0
OwnOutside n mark cs = (i : ℕ) → i < n → outside (get_or cs i 0) mark ≡ outside (2 ^ i) mark

-- f leaves a vector of n bits that lies outside the mark
abbrev pub Fixes : ℕ → ℕ → (ℕ → ℕ) → Type 0
Fixes n mark f = (x : ℕ) → x < 2 ^ n → f (outside x mark) ≡ outside x mark

-- pairs that are made of the n rows, which are f of the units, come to those before
abbrev pub PairsOf : ℕ → ℕ → List ℕ → List Pair → List Pair → Type 0
PairsOf n mark rows before after =
    (f : ℕ → ℕ) → Linear f → Fixes n mark f → ((a : ℕ) → a < n → get_or rows a 0 ≡ f (2 ^ a)) → Tied f before → Tied f after

-- ---- at the end: what a guess tells of n columns; which of the three it tells is left open

-- rows: f of them are the units; that there are none: some vector other than 0 has the product 0; or nothing.
-- That it is never the last is not promised: that would cost time, and no answer
abbrev pub Guessed : ℕ → List ℕ → Guess → Type 0
Guessed n cs (Rows rows) = (length rows ≡ n) × ((i : ℕ) → i < n → product cs (get_or rows i 0) ≡ 2 ^ i)
Guessed n cs Singular = (y : ℕ) × (y < 2 ^ n) × (y ≡ 0 → ⊥) × (product cs y ≡ 0)
Guessed n cs Unknown = Unit {0}
