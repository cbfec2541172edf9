-- The state that settles every answer, and what each call does to it; document 01, "The whole table". Words stand for identifiers.
-- Assumes nothing.
use Rattle.std.specs.Prelude.{ℕ, cond, List, [], ltb, length, Ok, Err}
use Rattle.std.proofs.Math.Option.{Option, none, some}
use Rattle.answer.specs.Numbers.{Answer}
use Rattle.lists.specs.Lists.{tabulate}
use Rattle.lists.specs.Entries.{Entry, words, find, insert, update, remove}
use Rattle.bucket.specs.Bucket.{largest_bound}
use Rattle.answer.specs.declared.Cause.TheVariants.{Live, NotLive, Full}
use Rattle.model.specs.Levels.{Level, lower, passed}

-- the base list has at most this many entries
abbrev pub base_limit : ℕ
base_limit = 64

-- the number of buckets of each level, which an opening fixes
pub record Size : Type 0 where
  pub buckets1 : ℕ
  pub buckets2 : ℕ

-- the size, the live words with their plans, ascending by word, and the bounds of each level's buckets
pub record State : Type 0 where
  pub size : Size
  pub live : List Entry
  pub bounds1 : List ℕ
  pub bounds2 : List ℕ

-- a call; I is what stands for identifiers: words, or any bytes
pub data Call (I : Type 0) : Type 0 where
  add : (i : I) (plan : ℕ) → Call I
  change : (i : I) (plan : ℕ) → Call I
  withdraw : (i : I) → Call I
  query : (i : I) → Call I

-- the add of a word with its plan
abbrev pub add_of : Entry → Call ℕ
add_of e = add e.word e.plan

-- the answer to a call, and the state after it
pub record Outcome : Type 0 where
  pub answer : Answer
  pub after : State

-- opening: no word is live, each bound is the largest
abbrev pub opened : Size → State
opened z = record { size = z; live = []; bounds1 = tabulate (λ i. largest_bound) z.buckets1; bounds2 = tabulate (λ i. largest_bound) z.buckets2 }

-- the state with these live words, and every bound kept
abbrev pub with_live : State → List Entry → State
with_live s l = record { size = s.size; live = l; bounds1 = s.bounds1; bounds2 = s.bounds2 }

-- a call that asks for a live word and leaves the live words l, by the plan of the word, if it is live
abbrev pub step_live : State → List Entry → Option ℕ → Outcome
step_live s l (some p) = record { answer = Ok p; after = with_live s l }
step_live s l none = record { answer = Err NotLive; after = s }

module _ (L1 L2 : Level) where
  -- the state with these live words, and the bounds lowered for them: first level before second, where the words are due that the
  -- first does not hold
  abbrev pub settled : State → List Entry → State
  settled s l =
      let first : List ℕ = lower L1 s.size.buckets1 s.bounds1 (words l) in
      let second : List ℕ = lower L2 s.size.buckets2 s.bounds2 (passed L1 s.size.buckets1 first (words l)) in
      record { size = s.size; live = l; bounds1 = first; bounds2 = second }

  -- the state that the add of the new word e would leave
  abbrev pub would_leave : State → Entry → State
  would_leave s e = settled s (insert e s.live)

  -- the live words that neither level holds: those of the base list (which has their w')
  abbrev pub base : State → List ℕ
  base s = passed L2 s.size.buckets2 s.bounds2 (passed L1 s.size.buckets1 s.bounds1 (words s.live))

  -- the add that would leave t; where that needs a longer base list, the add changes nothing at all
  abbrev pub unless_full : State → State → Outcome
  unless_full s t =
      cond (ltb base_limit (length (base t)))
      (record { answer = Err Full; after = s })
      (record { answer = Ok (length t.live); after = t })

  -- the add of e, by the plan of its word, if that is live
  abbrev pub step_add : State → Entry → Option ℕ → Outcome
  step_add s e (some p) = record { answer = Err (Live p); after = s }
  step_add s e none = unless_full s (would_leave s e)

  -- what a call does
  abbrev pub step : State → Call ℕ → Outcome
  step s (add w p) = step_add s (record { word = w; plan = p }) (find w s.live)
  step s (change w p) = step_live s (update (record { word = w; plan = p }) s.live) (find w s.live)
  step s (withdraw w) = step_live s (remove w s.live) (find w s.live)
  step s (query w) = step_live s s.live (find w s.live)

  -- each bound raised to the largest for the live words, as if they had come to a table just opened (document 02, order 9)
  abbrev pub lifted : State → State
  lifted s = settled (opened s.size) s.live
