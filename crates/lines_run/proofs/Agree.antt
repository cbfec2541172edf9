-- The line program prints what it would print if the model took the calls; its table is sound at each line.
-- Assumes nothing.
use mathlib.Core.Path.{◌≡◌, refl, ap, ap₂}
use mathlib.Core.List.{List, [], ◌∷◌, ◌++◌}
use Rattle.std.specs.Prelude.{Option, None, Some}
use Prim.Native.Nat.{ℕ, suc}
use lib.Dec.{leb}
use lib.ListN.{length}
use Rattle.lists.proofs.Tests.{cases}
use Rattle.identifier.specs.Identifier.{Token}
use Rattle.model.specs.Model.{State, Call}
use Rattle.model.specs.Request as R
use Rattle.table.specs.Table.{open_table}
use Rattle.table.specs.Layout.{in_range, numbers_of}
use Rattle.table.specs.Calls.{rows, solutions}
use Rattle.table.specs.History.{flat_state}
use Rattle.table.proofs.Calls.{FlatStands}
use Rattle.table.proofs.Statements.{refines, opening_stands, stands_sound, sound_stands}
use Rattle.lines_text.specs.Line.{lf, parted, Command, opening, ask, bad, command_of}
use Rattle.lines_text.specs.Printed.{printed}
use Rattle.lines_open.specs.Desk.{Turn, obey, tables}
use Rattle.lines_open.proofs.Opening.{zeros, open_is}
use Rattle.lines_run.specs.Buffer.{AllReady}
use Rattle.lines_run.specs.Run.{counted, line_limit, turn, output_from, output_of, output, states}

-- ---- the table beside the model

-- either nothing is open, or the table stands for the state
abbrev pub BothStand : Option (List ℕ) → Option State → Type 0
BothStand None None = Unit {0}
BothStand None (Some s) = ⊥
BothStand (Some t) None = ⊥
BothStand (Some t) (Some s) = FlatStands t s

-- the same is printed, and what is open stands again
abbrev pub SameTurn : Turn (List ℕ) → Turn State → Type 0
SameTurn x y = (x.output ≡ y.output) × BothStand x.state y.state

ask_same : (m : Option (List ℕ)) (k : Option State) → BothStand m k → (c : Call Token) → SameTurn (obey tables m (ask c)) (obey states k (ask c))
ask_same None None h c = (refl, tt)
ask_same None (Some s) h c = absurd h
ask_same (Some t) None h c = absurd h
ask_same (Some t) (Some s) h c = (ap printed (refines.says t s (R.ask c) h), refines.goes t s (R.ask c) h)

pub obey-same : (m : Option (List ℕ)) (k : Option State) → BothStand m k → (c : Command) → SameTurn (obey tables m c) (obey states k c)
obey-same m k h (opening b1 b2) =
    cases (in_range b1 b2)
    (λ r. rw ((open_is b1 b2).0 r, r)
    (refl, opening_stands (numbers_of (open_table rows solutions b1 b2)) (record { size = record { buckets1 = b1; buckets2 = b2 }; before = zeros b1 b2; accepted = (open_is b1 b2).0 r })))
    (λ r. rw ((open_is b1 b2).1 r, r) (refl, h))
obey-same m k h (ask c) = ask_same m k h c
obey-same m k h bad = (refl, h)

turn-same : (m : Option (List ℕ)) (k : Option State) → BothStand m k → (s : List ℕ) → SameTurn (turn tables m s) (turn states k s)
turn-same m k h s =
    cases (leb (suc (length s)) line_limit)
    (λ e. rw e (obey-same m k h (command_of s)))
    (λ e. rw e (refl, h))

from-same : (m : Option (List ℕ)) (k : Option State) → BothStand m k → (ps : List (List ℕ)) → output_from tables m ps ≡ output_from states k ps
from-same m k h [] = refl
from-same m k h (s ∷ []) = refl
from-same m k h (s ∷ r ∷ rs) =
    let a = turn-same m k h s in
    ap₂ ◌++◌ a.0 (from-same (turn tables m s).state (turn states k s).state a.1 (r ∷ rs))

-- "so statement 3 covers what the program answers"
pub as_model : (s : List ℕ) → output s ≡ output_of states s
unfolding output
as_model s = from-same None None tt (parted lf (counted s))

-- ---- the table is sound at each line

state_of : Option (List ℕ) → Option State
state_of None = None
state_of (Some t) = Some (flat_state t)

ready_both : (m : Option (List ℕ)) → AllReady m → BothStand m (state_of m)
unfolding state_of
ready_both None h = tt
ready_both (Some t) h = sound_stands t h.shape h.sound

both_ready : (m : Option (List ℕ)) (k : Option State) → BothStand m k → AllReady m
both_ready None k h = tt
both_ready (Some t) None h = absurd h
both_ready (Some t) (Some s) h = let r = stands_sound t s h in record { shape = r.0; sound = r.2 }

pub ready_next : (m : Option (List ℕ)) → AllReady m → (s : List ℕ) → AllReady (turn tables m s).state
ready_next m h s = both_ready (turn tables m s).state (turn states (state_of m) s).state (turn-same m (state_of m) (ready_both m h) s).1
