-- What the inner functions of making answer and leave; only their contracts cite these. F is the format of the planes.
-- Assumes nothing.
use Rattle.std.specs.Prelude.{ℕ, Bool, cond, List, [], ◌∷◌, ◌++◌}
use Rattle.codec.specs.Bytes.{eq_list}
use Rattle.lists.specs.Entries.{Entry}
use Rattle.answer.specs.declared.Cause.TheVariants.{WrongPlane, UnlikePlanes}
use Rattle.plane.specs.Record.{Format, bytes_of}
use Rattle.plane.specs.Plane.{wrong_at}
use Rattle.plane_write.specs.Write.{Written, turned_down, put_front}
use Rattle.patch.specs.Base.{gone_of, news_of}
use Rattle.patch.specs.Record.{gone_record, new_record}
use Rattle.patch.specs.Patch.{patch_bytes, patch_of}
use Rattle.patch.specs.Calls.{unless_wrong, alike}

-- the bytes of a record, or none where it is not needed
abbrev pub unless : Bool → List ℕ → List ℕ
unless same p = cond same [] p

-- for bucket i, whose bytes are a in the old plane and b in the new one
abbrev pub change_part : Format → ℕ → List ℕ → List ℕ → List ℕ
change_part F i a b = unless (eq_list a b) (F.change_kind ∷ i ∷ b)

-- kinds 7 and 8, from one base list to another
abbrev pub base_records : List Entry → List Entry → List ℕ
base_records old new = bytes_of gone_record (gone_of old new) ++ bytes_of new_record (news_of old new)

-- from two right planes: cause 11, then 9
abbrev pub made_right : Format → List ℕ → List ℕ → List ℕ → Written
made_right F p q out = cond (alike p q) (put_front (patch_bytes F (patch_of F p q)) out) (turned_down UnlikePlanes out)

-- from a right old plane: cause 10 of the new one, then these
abbrev pub made_from : Format → List ℕ → List ℕ → List ℕ → Written
made_from F p q out = unless_wrong WrongPlane out (wrong_at F q) (made_right F p q out)
