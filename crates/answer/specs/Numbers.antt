-- Document 01's table of causes, with those that document 02's orders add (11 to 13: order 1; 14: order 3; 15: order 4): the number of each case of an answer, and what is
-- returned with it.
use Rattle.std.specs.Prelude.{ℕ, Result, Ok, Err}
use Rattle.answer.specs.declared.Cause.{Cause}
use Rattle.answer.specs.declared.Cause.TheVariants.{WrongLength, WrongByte, WrongBuckets, WrongTable, NotSound, Live, NotLive, Full, ShortOutput, WrongPlane, UnlikePlanes, WrongPatch, WrongSum, DeskPlanGiven, WrongKind}

-- what a call answers: accepted with what it returns, or a cause
abbrev pub Answer : Type 0
Answer = Result ℕ Cause

-- the number of a cause
abbrev pub cause_number : Cause → ℕ
cause_number (WrongLength n) = 1
cause_number (WrongByte i) = 2
cause_number WrongBuckets = 3
cause_number (WrongTable n) = 4
cause_number NotSound = 5
cause_number (Live p) = 6
cause_number NotLive = 7
cause_number Full = 8
cause_number (ShortOutput n) = 9
cause_number (WrongPlane i) = 10
cause_number UnlikePlanes = 11
cause_number (WrongPatch i) = 12
cause_number WrongSum = 13
cause_number DeskPlanGiven = 14
cause_number WrongKind = 15

-- document 01's "returned with it"
abbrev pub cause_value : Cause → ℕ
cause_value (WrongLength n) = n
cause_value (WrongByte i) = i
cause_value WrongBuckets = 0
cause_value (WrongTable n) = n
cause_value NotSound = 0
cause_value (Live p) = p
cause_value NotLive = 0
cause_value Full = 0
cause_value (ShortOutput n) = n
cause_value (WrongPlane i) = i
cause_value UnlikePlanes = 0
cause_value (WrongPatch i) = i
cause_value WrongSum = 0
cause_value DeskPlanGiven = 0
cause_value WrongKind = 0

-- the number of an answer: that of the cause, 0 if there is none
abbrev pub number_of : Answer → ℕ
number_of (Ok n) = 0
number_of (Err c) = cause_number c

-- and what is returned with it
abbrev pub value_of : Answer → ℕ
value_of (Ok n) = n
value_of (Err c) = cause_value c
