-- Calls as they are put, with anything as identifier, at document 01's two levels.
-- Assumes nothing.
use Rattle.std.specs.Prelude.{ℕ, Bool, true, List, [], ◌∷◌, Ok, Err}
use Rattle.answer.specs.Numbers.{Answer}
use Rattle.lists.specs.Entries.{assignable}
use Rattle.identifier.specs.Identifier.{Token, word_of, read_of, with_plan}
use Rattle.model.specs.Levels.{first_level, second_level}
use Rattle.model.specs.Model.{State, Call, add, change, withdraw, query, Outcome, step}

-- the identifier of a call
abbrev pub subject : {I : Type 0} → Call I → I
subject (add i p) = i
subject (change i p) = i
subject (withdraw i) = i
subject (query i) = i

-- the same call of the identifier j
abbrev pub ask_of : {I J : Type 0} → J → Call I → Call J
ask_of j (add i p) = add j p
ask_of j (change i p) = change j p
ask_of j (withdraw i) = withdraw j
ask_of j (query i) = query j

-- the plan that a call gives, if it gives one, may be given
abbrev pub plan_allowed : {I : Type 0} → Call I → Bool
plan_allowed (add i p) = assignable p
plan_allowed (change i p) = assignable p
plan_allowed (withdraw i) = true
plan_allowed (query i) = true

-- what a call is for: the word of its identifier, or the cause that is met before the table is looked at
abbrev pub word_for : Call Token → Answer
word_for c = with_plan (plan_allowed c) (read_of (subject c))

-- the call by the word of its identifier
abbrev pub by_word : Call Token → Call ℕ
by_word c = ask_of (word_of (subject c)) c

-- by what it is for: turned down (causes 15, 1, 2, 14), or the word is taken
abbrev pub serve_read : State → Call Token → Answer → Outcome
serve_read s c (Err e) = record { answer = Err e; after = s }
serve_read s c (Ok w) = step first_level second_level s (ask_of w c)

-- what a call does
abbrev pub serve : State → Call Token → Outcome
serve s c = serve_read s c (word_for c)

-- what is put to a table: a call for an identifier. (What names no identifier, or many, joins here)
pub data Request : Type 0 where
  ask : (c : Call Token) → Request

-- what a request does
abbrev pub respond : State → Request → Outcome
respond s (ask c) = serve s c

-- the calls by word that it stands for, if it is accepted
abbrev pub calls_of : Request → List (Call ℕ)
calls_of (ask c) = by_word c ∷ []
