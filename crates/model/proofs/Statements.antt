-- The laws that others cite, each under the sentence that it stands for. To read them takes specs/ and `Largest` (gf2, specs/Bound.antt);
-- `arrivals` and `lift_fits` also take the definitions that they name. What stands before a dot is the file with the proof.
-- Assumes nothing.
use Prim.Native.Nat.{ℕ, ◌+◌, ◌<◌, ◌≤◌}
use native.Mathlib.Nat.{mod-lt}
use native.Mathlib.Omega.{arith}
use mathlib.Core.Path.{◌≡◌, refl}
use mathlib.Core.Bool.{true, false}
use mathlib.Core.Logic.{◌↔◌}
use mathlib.Core.Option.{none}
use mathlib.Core.List.{List, map, ◌++◌, Permᴰ}
use lib.Dec.{lit<}
use lib.ListN.{length, get_or}
use Rattle.std.specs.Prelude.{Err}
use Rattle.lists.specs.Entries.{Entry, words, find, insert}
use Rattle.lists.proofs.Keep.{tabulate-at}
use Rattle.gf2.specs.Bound.{Largest}
use Rattle.bucket.specs.Bucket.{largest_bound}
use Rattle.answer.specs.Numbers.{number_of}
use Rattle.answer.specs.declared.Cause.TheVariants.{Full}
use Rattle.model.specs.Levels.{Level, first_level, second_level, threshold, passed, due, lower}
use Rattle.model.specs.Model.{Size, State, Call, add_of, change, withdraw, query, Outcome, opened, would_leave, base, step, lifted}
use Rattle.model.specs.Request.{Request, respond, calls_of}
use Rattle.model.specs.Machine.{Machine, accepted, after, answers, AllAccepted, Alike, Refines, Compares}
use Rattle.model.specs.History.{word_model, model, accepted_calls, adds_in, withdrawals_in, told}
use Rattle.model.proofs.Levels as Levels
use Rattle.model.proofs.Steps as Steps
use Rattle.model.proofs.Valid as Valid
use Rattle.model.proofs.Arrivals as Arrivals
use Rattle.model.proofs.Requests as Requests
use Rattle.model.proofs.Calls as Calls
use Rattle.model.proofs.Orders as Orders

-- ---- one call, at any two levels

-- "Bounds are 8 at first"
pub opening_first : (z : Size) (i : ℕ) → i < z.buckets1 → get_or (opened z).bounds1 i 0 ≡ 8
opening_first z i h = tabulate-at (λ j. 8) z.buckets1 i h

pub opening_second : (z : Size) (i : ℕ) → i < z.buckets2 → get_or (opened z).bounds2 i 0 ≡ 8
opening_second z i h = tabulate-at (λ j. 8) z.buckets2 i h

-- no threshold reaches the largest bound, so under it every word due there is held
pub all-below : (L : Level) (w : ℕ) → threshold L w < largest_bound
all-below L w = mod-lt (L.place w) (lit< tt)

module _ (L1 L2 : Level) (s : State) (e : Entry) where
  -- what the add of e does
  abbrev pub outcome : Outcome
  outcome = step L1 L2 s (add_of e)

  -- statement 3, the bounds: after an accepted add each bound is the largest number, not above the old one, under which no non-empty
  -- selection of the words due there XORs to zero. First level
  pub bounds-first : accepted outcome.answer ≡ true → (i : ℕ) → i < s.size.buckets1
      → Largest (get_or s.bounds1 i 0) (due L1 s.size.buckets1 (words outcome.after.live) i) (get_or outcome.after.bounds1 i 0)
  bounds-first a i h = rw (Steps.added L1 L2 s e a).left (Steps.bounds-first L1 L2 s (insert e s.live) i h)

  -- then the second, where the words are due that the first does not hold now
  pub bounds-second : accepted outcome.answer ≡ true → (i : ℕ) → i < s.size.buckets2
      → Largest (get_or s.bounds2 i 0) (due L2 s.size.buckets2 (passed L1 s.size.buckets1 outcome.after.bounds1 (words outcome.after.live)) i)
      (get_or outcome.after.bounds2 i 0)
  bounds-second a i h = rw (Steps.added L1 L2 s e a).left (Steps.bounds-second L1 L2 s (insert e s.live) i h)

  -- statement 3, the base list: refused as full exactly when more than 64 words would fall to it under the bounds that the add would so
  -- leave (Steps.bounds-first and Steps.bounds-second: these are those of would_leave, accepted or not)
  pub full_exactly : find e.word s.live ≡ none → ((step L1 L2 s (add_of e)).answer ≡ Err Full) ↔ (64 < length (base L1 L2 (would_leave L1 L2 s e)))
  full_exactly f = Steps.full_exactly L1 L2 s e f

module _ (L1 L2 : Level) (s : State) where
  -- "changes, withdrawals, queries and refused calls keep them": queries and refused calls keep everything
  pub change_keeps : (w p : ℕ) → ((step L1 L2 s (change w p)).after.bounds1 ≡ s.bounds1) × ((step L1 L2 s (change w p)).after.bounds2 ≡ s.bounds2)
  change_keeps = Steps.change_keeps L1 L2 s

  pub withdraw_keeps : (w : ℕ) → ((step L1 L2 s (withdraw w)).after.bounds1 ≡ s.bounds1) × ((step L1 L2 s (withdraw w)).after.bounds2 ≡ s.bounds2)
  withdraw_keeps = Steps.withdraw_keeps L1 L2 s

  pub query_keeps : (w : ℕ) → (step L1 L2 s (query w)).after ≡ s
  query_keeps = Steps.query_keeps L1 L2 s

  pub refused_keeps : (c : Call ℕ) → accepted (step L1 L2 s c).answer ≡ false → (step L1 L2 s c).after ≡ s
  refused_keeps = Steps.refused_keeps L1 L2 s

-- "While it depends there, the bound falls by one": words that so arrive at a level one after the other, in any order, where no non-empty
-- selection of the words ws that are due there already XORs to zero, leave the bounds that one look at all of them leaves
pub arrivals : (L : Level) (n : ℕ) → 0 < n → (bounds ws new vs : List ℕ) → length bounds ≡ n → Levels.AllFree L n bounds ws → Permᴰ (new ++ ws) vs
    → Arrivals.arrives L n bounds ws new ≡ lower L n bounds vs
arrivals = Arrivals.arrives-all

-- ---- lists of requests, with anything as identifiers, at document 01's levels

-- "refused calls keep them", also those of bytes that are no identifier
pub respond_keeps : (s : State) (q : Request) → accepted (respond s q).answer ≡ false → (respond s q).after ≡ s
respond_keeps = Requests.respond_keeps

-- "The live count equals accepted adds less accepted withdrawals since opening"
pub count : (z : Size) (qs : List Request)
    → length (after model (opened z) qs).live + withdrawals_in (accepted_calls z qs) ≡ adds_in (accepted_calls z qs)
count z qs =
    let h = Calls.count_after first_level second_level model calls_of Requests.stands_for (opened z) (Valid.valid_opened first_level second_level z) qs in omega arith

-- "a word is live if, of its accepted adds and withdrawals, the last is an add; its plan is that of its last accepted add or change"
pub live-plan : (z : Size) (qs : List Request) (v : ℕ) → find v (after model (opened z) qs).live ≡ told v (accepted_calls z qs)
live-plan z qs v =
    Calls.told-after first_level second_level model calls_of Requests.stands_for v (opened z) (Valid.valid_opened first_level second_level z) false 0 refl qs

-- "in the base list, .. at most 64 entries"
pub base-fits : (z : Size) (qs : List Request) → length (base first_level second_level (after model (opened z) qs)) ≤ 64
base-fits z qs =
    (Calls.valid_after first_level second_level model calls_of Requests.stands_for (opened z) (Valid.valid_opened first_level second_level z) qs).fits

-- "the table itself never gives cause 4 or 5 in a list": the model does not, and the answers are the model's (`settles`)
pub never_4_5 : (s : State) (q : Request) → (number_of (respond s q).answer ≡ 4 → ⊥) × (number_of (respond s q).answer ≡ 5 → ⊥)
never_4_5 = Requests.respond_never

-- ---- lists of requests put to a table M that refines the model N

module _ {T S C : Type 0} (M : Machine T C) (N : Machine S C) (Stands : T → S → Type 0) (refines : Refines M N Stands) where
  -- "So the opening and these calls alone settle every answer and bound": the answers are the model's, and the table stands for the
  -- state that the model comes to
  pub settles : (t : T) (s : S) → Stands t s → (cs : List C) → (answers M t cs ≡ answers N s cs) × Stands (after M t cs) (after N s cs)
  settles t s h cs = (Calls.answers-after M N Stands refines t s h cs, Calls.stands_after M N Stands refines t s h cs)

  -- statement 3, the claim about lists: t and u are as openings left them, ds and es any calls, refused ones included. Where the two
  -- tables are then the same in bucket numbers, live words, plans and bounds (Same), each further call of every list gets the same
  -- answer from both, and they are the same again after each call
  pub statement_3 : (Same : T → T → Type 0) → Compares Stands Same → (t u : T) (s r : S) → Stands t s → Stands u r → (ds es : List C)
      → Same (after M t ds) (after M u es) → (cs : List C) → Alike M Same (after M t ds) (after M u es) cs
  statement_3 = Calls.statement_3 M N Stands refines

-- ---- orders of document 02

-- order 8: if all adds of a sequence are accepted from opening, so are all in every other sequence of them, and both leave one state
pub order_of_adds : (L1 L2 : Level) (z : Size) {ds es : List Entry} → Permᴰ ds es
    → AllAccepted (word_model L1 L2) (opened z) (map add_of ds)
    → AllAccepted (word_model L1 L2) (opened z) (map add_of es)
    × (after (word_model L1 L2) (opened z) (map add_of ds) ≡ after (word_model L1 L2) (opened z) (map add_of es))
order_of_adds = Orders.order_free

-- order 9: a lift never overfills the base list. The states that calls reach are valid (Calls.valid_after)
pub lift_fits : (L1 L2 : Level) (s : State) → Valid.Valid L1 L2 s → length (base L1 L2 (lifted L1 L2 s)) ≤ 64
lift_fits = Valid.lift_fits
