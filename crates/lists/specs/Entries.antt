-- Entries: words with their plans. The live words, and the base list, are lists of entries, strictly ascending by word.
-- Assumes nothing.
use Rattle.std.specs.Prelude.{ℕ, ◌<◌, ◌≡◌, Bool, cond, List, [], ◌∷◌, map, eqb, ltb}
use Rattle.std.proofs.Math.Option.{Option, none, some}

-- a word (a vector, in a bucket) and its plan
pub record Entry : Type 0 where
  pub word : ℕ
  pub plan : ℕ

-- a plan is below this: a byte, 0 to 255
abbrev pub plan_limit : ℕ
plan_limit = 256

-- document 02, order 3: the plan that means "call the desk". A post answers it for a word due to the base list and absent
abbrev pub desk_plan : ℕ
desk_plan = 255

-- a plan that a word may be given: 0 to 254
abbrev pub assignable : ℕ → Bool
assignable p = ltb p desk_plan

-- the words of the entries
abbrev pub words : List Entry → List ℕ
words = map (λ e. e.word)

-- the plan of a word, if it has an entry
abbrev pub find : ℕ → List Entry → Option ℕ
find w [] = none
find w (x ∷ xs) = cond (eqb w x.word) (some x.plan) (find w xs)

-- one more entry, before the first with a larger word
abbrev pub insert : Entry → List Entry → List Entry
insert e [] = e ∷ []
insert e (x ∷ xs) = cond (ltb e.word x.word) (e ∷ x ∷ xs) (x ∷ insert e xs)

-- the entry of e's word, if there is one, becomes e
abbrev pub update : Entry → List Entry → List Entry
update e [] = []
update e (x ∷ xs) = cond (eqb e.word x.word) (e ∷ xs) (x ∷ update e xs)

-- without the entry of this word
abbrev pub remove : ℕ → List Entry → List Entry
remove w [] = []
remove w (x ∷ xs) = cond (eqb w x.word) xs (x ∷ remove w xs)

-- in ascending order
abbrev pub sort : List Entry → List Entry
sort [] = []
sort (e ∷ es) = insert e (sort es)

-- entries inserted one after the other
abbrev pub insert_all : List Entry → List Entry → List Entry
insert_all [] base = base
insert_all (e ∷ es) base = insert_all es (insert e base)

-- each word of the list is larger than w
abbrev pub Above : ℕ → List Entry → Type 0
Above w [] = Unit {0}
Above w (x ∷ xs) = (w < x.word) × Above w xs

-- strictly ascending by word
abbrev pub Ascending : List Entry → Type 0
Ascending [] = Unit {0}
Ascending (x ∷ xs) = Above x.word xs × Ascending xs

-- no two entries have the same word
abbrev pub Distinct : List Entry → Type 0
Distinct [] = Unit {0}
Distinct (e ∷ es) = (find e.word es ≡ none) × Distinct es
