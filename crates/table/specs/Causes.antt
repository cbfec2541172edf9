-- The causes of opening, of each call and of the question for a total in document 01's words and order, with what is returned with each and what an accepted call returns.
-- t is the list of the table's numbers, i anything as identifier; causes 15, 1 and 2 are those of the identifier crate.
-- Assumes nothing.
use Rattle.std.specs.Prelude.{ℕ, suc, ◌+◌, ◌<◌, ◌≡◌, ◌⊎◌, false, List, [], ◌∷◌, ◌++◌, length, get_or}
use Rattle.std.proofs.Math.Option.{some}
use Rattle.lists.specs.Entries.{find, assignable}
use Rattle.answer.specs.Causes.{Cause, cause_if}
use Rattle.identifier.specs.Identifier.{Token, word_of}
use Rattle.identifier.specs.Causes.{id_causes}
use Rattle.model.specs.Levels.{first_level, second_level}
use Rattle.model.specs.Model.{base_limit, Call, add, change, withdraw, query, would_leave, base}
use Rattle.model.specs.Request.{subject}
use Rattle.table.specs.Layout.{leading, buckets1_at, buckets2_at, totals_at, in_range, length_of}
use Rattle.table.specs.Calls.{rows, solutions, FlatSound}
use Rattle.table.specs.History.{flat_state}

-- ---- the rows of document 01's table

-- "bucket numbers out of range at opening"; 0
abbrev pub wrong_buckets : ℕ → ℕ → Cause
wrong_buckets b1 b2 = cause_if 3 (in_range b1 b2 ≡ false) 0

-- "For opening, 4 is only a wrong length"; the length
abbrev pub wrong_room : ℕ → ℕ → List ℕ → Cause
wrong_room b1 b2 t = cause_if 4 (length t ≡ length_of rows solutions b1 b2 → ⊥) (length t)

-- "table under 4 numbers; header bucket numbers out of range; length not as they give"
abbrev pub Misshapen : List ℕ → Type 0
Misshapen t = (length t < leading) ⊎ ((in_range (get_or t buckets1_at 0) (get_or t buckets2_at 0) ≡ false) ⊎ (length t ≡ length_of rows solutions (get_or t buckets1_at 0) (get_or t buckets2_at 0) → ⊥))

-- with the length
abbrev pub wrong_table : List ℕ → Cause
wrong_table t = cause_if 4 (Misshapen t) (length t)

-- "table not sound"; 0
abbrev pub not_sound : List ℕ → Cause
not_sound t = cause_if 5 (FlatSound t → ⊥) 0

-- the word of i is live in the table, with the plan p: it is one of the table's occupied rows and base entries
abbrev pub LivePlan : List ℕ → Token → ℕ → Type 0
LivePlan t i p = find (word_of i) (flat_state t).live ≡ some p

-- document 02, order 3, "plan 255 given, after cause 2"; 0
abbrev pub wrong_plan : ℕ → Cause
wrong_plan p = cause_if 14 (assignable p ≡ false) 0

-- "add: word live"; its plan
abbrev pub word_live : List ℕ → Token → Cause
word_live t i = record { number = 6; met = LivePlan t i }

-- "change, withdraw, query: not live"; 0
abbrev pub not_live : List ℕ → Token → Cause
not_live t i = cause_if 7 ((p : ℕ) → LivePlan t i p → ⊥) 0

-- "base list full": under the bounds that the add would leave, more than 64 words would fall to the base list; 0
abbrev pub base_full : List ℕ → Token → ℕ → Cause
base_full t i p = cause_if 8 (base_limit < length (base first_level second_level (would_leave first_level second_level (flat_state t) (record { word = word_of i; plan = p })))) 0

-- ---- the causes that each can meet, and what it returns if it meets none

-- opening
abbrev pub open_causes : ℕ → ℕ → List ℕ → List Cause
open_causes b1 b2 t = wrong_buckets b1 b2 ∷ wrong_room b1 b2 t ∷ []

-- "opening returns 0"
abbrev pub open_returns : ℕ → Type 0
open_returns v = v ≡ 0

-- those that the call's word meets: change, withdraw and query share theirs
abbrev pub word_causes : List ℕ → Call Token → List Cause
word_causes t (add i p) = word_live t i ∷ base_full t i p ∷ []
word_causes t (change i p) = not_live t i ∷ []
word_causes t (withdraw i) = not_live t i ∷ []
word_causes t (query i) = not_live t i ∷ []

-- that of the call's plan
abbrev pub plan_causes : Call Token → List Cause
plan_causes (add i p) = wrong_plan p ∷ []
plan_causes (change i p) = wrong_plan p ∷ []
plan_causes (withdraw i) = []
plan_causes (query i) = []

-- every call meets those of the identifier first, then that of the plan, then those of the table
abbrev pub call_causes : List ℕ → Call Token → List Cause
call_causes t c = id_causes (subject c) ++ (plan_causes c ++ (wrong_table t ∷ not_sound t ∷ word_causes t c))

-- on a sound table: in a list of calls "the table itself never gives cause 4 or 5"
abbrev pub sound_causes : List ℕ → Call Token → List Cause
sound_causes t c = id_causes (subject c) ++ (plan_causes c ++ word_causes t c)

-- "add the live count, change and withdraw the earlier plan, query the plan": after an add the word added counts as live
abbrev pub call_returns : List ℕ → Call Token → ℕ → Type 0
call_returns t (add i p) v = v ≡ suc (length (flat_state t).live)
call_returns t (change i p) v = LivePlan t i v
call_returns t (withdraw i) v = LivePlan t i v
call_returns t (query i) v = LivePlan t i v

-- document 02, order 2: "The question for one plan tests only cause 4"
abbrev pub total_causes : List ℕ → List Cause
total_causes t = wrong_table t ∷ []

-- "and reads one number": the total of the plan p
abbrev pub total_returns : List ℕ → ℕ → ℕ → Type 0
total_returns t p v = v ≡ get_or t (totals_at + p) 0
