-- What the inner functions of the check answer and leave; only their contracts cite these. F is the format of the planes.
-- Assumes nothing.
use Rattle.std.specs.Prelude.{ℕ, Bool, not, ◌&&◌, List, leb, length, drop, Result}
use Rattle.std.specs.Result.{result_and}
use Rattle.lists.specs.Entries.{Entry, find}
use Rattle.model.specs.Model.{base_limit}
use Rattle.plane.specs.Record.{Format}
use Rattle.plane.specs.Plane.{Plane, entry_allowed, end_wrong}
use Rattle.patch.specs.Base.{is_there, enter}
use Rattle.patch.specs.Wrong.{Filled, end_in, gone_wrong, news_wrong}

-- kind 8 as the check finds it: a word is also in kind 7 exactly if the old base list has it and the one without the words gone, `kept`, has not
abbrev pub new_allowed_by : List Entry → List Entry → Filled → Entry → Bool
new_allowed_by old kept s e =
    entry_allowed s.least e && (not (is_there (find e.word old) && not (is_there (find e.word kept))) && leb (length (enter e s.base)) base_limit)

-- before the first record of kind 8
abbrev pub started : List Entry → Filled
started kept = record { least = 0; base = kept }

-- from kind 7 on
abbrev pub base_wrong : Format → Plane → List ℕ → Result (Unit {0}) ℕ
base_wrong F P d = result_and (gone_wrong F P d) (result_and (news_wrong F P d) (end_wrong (end_in F d) (drop (end_in F d) d)))
