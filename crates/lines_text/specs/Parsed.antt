-- What the parser makes of a line, and what it stands for.
-- Assumes nothing.
use Rattle.std.specs.Prelude.{◌≤◌, Option, Some, None}
use Rattle.identifier.specs.Identifier.{token}
use Rattle.model.specs.Model.{Call, add, change, withdraw, query}
use Rattle.lines_text.specs.declared.Verb.{Verb}
use Rattle.lines_text.specs.declared.Verb.TheVariants.{Add, Set, Del, Get}
use Rattle.lines_text.specs.declared.Parsed.{Parsed}
use Rattle.lines_text.specs.declared.Parsed.TheVariants.{Open, Ask}
use Rattle.lines_text.specs.Line.{Command, opening, ask, bad, most_buckets, most_kind, most_plan}

-- the call that a verb asks for, of the identifier or word i
abbrev pub call_of : {I : Type 0} → Verb → I → Call I
call_of (Add plan) i = add i plan
call_of (Set plan) i = change i plan
call_of Del i = withdraw i
call_of Get i = query i

-- what a line asks for by its parsed form
abbrev pub meant : Parsed → Command
meant (Open b1 b2) = opening b1 b2
meant (Ask verb kind id) = ask (call_of verb (token kind id.now))

-- and `bad` if it has none
abbrev pub meant_or_bad : Option Parsed → Command
meant_or_bad (Some p) = meant p
meant_or_bad None = bad

-- the plan of a verb is at most its limit
abbrev pub PlanWithin : Verb → Type 0
PlanWithin (Add plan) = plan ≤ most_plan
PlanWithin (Set plan) = plan ≤ most_plan
PlanWithin Del = Unit {0}
PlanWithin Get = Unit {0}

-- the numbers are at most their limits
abbrev pub Within : Parsed → Type 0
Within (Open b1 b2) = (b1 ≤ most_buckets) × (b2 ≤ most_buckets)
Within (Ask verb kind id) = (kind ≤ most_kind) × PlanWithin verb
