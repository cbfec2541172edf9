-- The base list edited: words that go, entries that are new or changed.
-- Assumes nothing.
use Rattle.std.specs.Prelude.{ℕ, Bool, true, false, cond, not, List, [], ◌∷◌, eqb}
use Rattle.std.proofs.Math.Option.{Option, none, some}
use Rattle.lists.specs.Lists.{keep}
use Rattle.lists.specs.Entries.{Entry, words, find, insert, update, remove}

-- whether a word has an entry
abbrev pub is_there : Option ℕ → Bool
is_there none = false
is_there (some p) = true

-- whether it has one with the plan p
abbrev pub has : ℕ → Option ℕ → Bool
has p none = false
has p (some q) = eqb p q

-- whether w is one of the words
abbrev pub among : ℕ → List ℕ → Bool
among w [] = false
among w (v ∷ vs) = cond (eqb w v) true (among w vs)

-- without the entries of these words
abbrev pub remove_all : List ℕ → List Entry → List Entry
remove_all [] base = base
remove_all (w ∷ ws) base = remove_all ws (remove w base)

-- the entry of e's word becomes e; without one, e is one more
abbrev pub enter : Entry → List Entry → List Entry
enter e base = cond (is_there (find e.word base)) (update e base) (insert e base)

-- entries, one after the other
abbrev pub enter_all : List Entry → List Entry → List Entry
enter_all [] base = base
enter_all (e ∷ es) base = enter_all es (enter e base)

-- "each base word gone"
abbrev pub gone_of : List Entry → List Entry → List ℕ
gone_of old new = words (keep (λ e. not (is_there (find e.word new))) old)

-- "each base entry new or changed"
abbrev pub news_of : List Entry → List Entry → List Entry
news_of old new = keep (λ e. not (has e.plan (find e.word old))) new
