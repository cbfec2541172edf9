-- Lists of requests put to a table; document 01, "A list of calls".
-- Assumes nothing.
use Rattle.std.specs.Prelude.{ℕ, ◌^◌, ◌<◌, ◌≡◌, ◌↔◌, length, Ok}
use Rattle.std.proofs.Math.Option.{some}
use mathlib.Core.List.{List, Memᴰ}
use Rattle.lists.specs.Entries.{Entry, Ascending}
use Rattle.hash.specs.Mix.{unmix_of}
use Rattle.model.specs.Model.{Size, State, Call}
use Rattle.model.specs.Request.{Request, ask, calls_of}
use Rattle.model.specs.Machine.{Machine, accepted_of}
use Rattle.model.specs.History.{calls_in, told}
use Rattle.table.specs.Content.{state_of}
use Rattle.table.specs.Calls.{rows, table_of, Outcome, open_call, call}

-- what a request does
abbrev pub request : List ℕ → Request → Outcome
request t (ask c) = call t c

-- the table: each request gets it as the last one left it
abbrev pub tables : Machine (List ℕ) Request
tables = record { answer = λ t q. (request t q).answer; next = λ t q. (request t q).table }

-- t is what an accepted opening left
pub record Opened (t : List ℕ) : Type 0 where
  pub size : Size
  pub before : List ℕ
  pub accepted : open_call size.buckets1 size.buckets2 before ≡ record { answer = Ok 0; table = t }

-- the calls of qs that the table accepts, by the words of their identifiers
abbrev pub accepted_calls : List ℕ → List Request → List (Call ℕ)
accepted_calls t qs = calls_in calls_of (accepted_of tables t qs)

-- document 02, order 2: k is the number of words then live with the plan p. They are listed, ascending: of each word of 64 bits the
-- accepted calls tell the plan p exactly if it is in the list
pub record LiveWith (p : ℕ) (calls : List (Call ℕ)) (k : ℕ) : Type 0 where
  pub listed : List Entry
  pub ascending : Ascending listed
  pub fits : (e : Entry) → Memᴰ e listed → (e.word < 2 ^ 64) × (e.plan ≡ p)
  pub exactly : (v : ℕ) → v < 2 ^ 64 → Memᴰ (record { word = v; plan = p }) listed ↔ (told v calls ≡ some p)
  pub number : length listed ≡ k

-- the bucket numbers of each level, live words, plans and bounds of the table: the live words are those of its occupied rows and base entries
abbrev pub flat_state : List ℕ → State
flat_state t = state_of rows unmix_of (table_of t)

-- equal in all of these
abbrev pub Same : List ℕ → List ℕ → Type 0
Same t u = flat_state t ≡ flat_state u
