-- What each call of the table answers, and every number of the table after it: for any numbers as table and anything as identifier.
-- The causes stand in the order of document 01's table, of document 02's 15 before 1 and 14 after 2; a call that is turned down leaves the table as it was.
-- Assumes nothing.
use Rattle.std.specs.Prelude.{ℕ, ◌+◌, ◌≡◌, Bool, cond, List, eqb, ltb, length, get_or, Ok, Err}
use Rattle.std.proofs.Math.Option.{Option, none, some}
use Rattle.answer.specs.Numbers.{Answer}
use Rattle.hash.specs.Mix.{mix_of, unmix_of}
use Rattle.answer.specs.declared.Cause.{Cause}
use Rattle.answer.specs.declared.Cause.TheVariants.{WrongBuckets, WrongTable, NotSound, Live, NotLive, Full}
use Rattle.identifier.specs.Identifier.{Token}
pub use Rattle.bucket.specs.Bucket.{rows, solutions}
use Rattle.model.specs.Model.{base_limit, Call, add, change, withdraw, query}
use Rattle.model.specs.Request.{ask_of, word_for}
use Rattle.table.specs.Table as T
use Rattle.table.specs.Table.{Table}
use Rattle.table.specs.Layout as L
use Rattle.table.specs.Sound as D
use Rattle.table.specs.Test as E

-- the solution words of each bucket of the table t: there is one layout
abbrev pub solutions_in : List ℕ → ℕ
solutions_in t = solutions

-- the table that the numbers hold
abbrev pub table_of : List ℕ → Table
table_of t = L.table_from rows (solutions_in t) t

-- the plan of the word w in the table, if it is live
abbrev pub plan_in : List ℕ → ℕ → Option ℕ
plan_in t w = T.plan_in rows (solutions_in t) mix_of (table_of t) w

-- cause 4 is not met
abbrev pub shaped : List ℕ → Bool
shaped t = E.shape_test rows (solutions_in t) t

-- document 01's sound table
abbrev pub FlatSound : List ℕ → Type 0
FlatSound t = D.FlatSound rows (solutions_in t) mix_of unmix_of t

-- cause 5 is not met
abbrev pub sound : List ℕ → Bool
sound t = E.sound_test rows (solutions_in t) mix_of unmix_of t

-- an answer, and the numbers of the table after it
pub record Outcome : Type 0 where
  pub answer : Answer
  pub table : List ℕ

-- what a contract says of a call: it answers a and leaves the table t, as this outcome has them
abbrev pub Performs : Outcome → Answer → List ℕ → Type 0
Performs o a t = (a ≡ o.answer) × (t ≡ o.table)

-- turned down: the table stays as it was
abbrev pub turned_down : Cause → List ℕ → Outcome
turned_down c t = record { answer = Err c; table = t }

-- opening: cause 3, then 4 for a wrong length alone
unfoldable pub open_call : ℕ → ℕ → List ℕ → Outcome
open_call b1 b2 t =
    cond (L.in_range b1 b2)
    (cond (eqb (length t) (L.length_of rows solutions b1 b2))
    (record { answer = Ok 0; table = L.numbers_of (T.open_table rows solutions b1 b2) })
    (turned_down (WrongTable (length t)) t))
    (turned_down WrongBuckets t)

-- query: the table stays
abbrev pub queried : List ℕ → Option ℕ → Outcome
queried t (some p) = record { answer = Ok p; table = t }
queried t none = turned_down NotLive t

-- change and withdrawal: the earlier plan, and u of it the table after it
abbrev pub replaced : List ℕ → (ℕ → Table) → Option ℕ → Outcome
replaced t u (some q) = record { answer = Ok q; table = L.numbers_of (u q) }
replaced t u none = turned_down NotLive t

-- add: u is the table after it, unless its base list is too long
abbrev pub joined : List ℕ → Table → Option ℕ → Outcome
joined t u (some p) = turned_down (Live p) t
joined t u none =
    cond (ltb base_limit (length u.base)) (turned_down Full t) (record { answer = Ok u.count; table = L.numbers_of u })

-- a call by its word on a sound table
unfoldable pub served : List ℕ → Call ℕ → Outcome
served t (add w p) = joined t (T.added_to rows (solutions_in t) mix_of (table_of t) (record { word = w; plan = p })) (plan_in t w)
served t (change w p) = replaced t (T.changed_in rows (solutions_in t) mix_of (table_of t) w p) (plan_in t w)
served t (withdraw w) = replaced t (T.withdrawn_from rows (solutions_in t) mix_of (table_of t) w) (plan_in t w)
served t (query w) = queried t (plan_in t w)

-- the causes that every call meets first: 15, 1, 2 and 14, 4, 5
abbrev pub call_read : List ℕ → Call Token → Answer → Outcome
call_read t c (Err e) = turned_down e t
call_read t c (Ok w) = cond (shaped t) (cond (sound t) (served t (ask_of w c)) (turned_down NotSound t)) (turned_down (WrongTable (length t)) t)

-- what a call does
unfoldable pub call : List ℕ → Call Token → Outcome
call t c = call_read t c (word_for c)

-- document 02, order 2: the total of the plan p, as the table has it. Cause 4 alone; the table stays
unfoldable pub total_call : List ℕ → ℕ → Answer
total_call t p = cond (shaped t) (Ok (get_or t (L.totals_at + p) 0)) (Err (WrongTable (length t)))
