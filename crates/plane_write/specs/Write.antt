-- The writer: the plane of a table, and what the call answers and leaves for any numbers as table and any bytes as output.
-- Assumes nothing.
use Rattle.std.specs.Prelude.{ℕ, ◌≡◌, cond, List, ◌++◌, map, ltb, length, drop, Ok, Err}
use Rattle.answer.specs.Numbers.{Answer}
use Rattle.lists.specs.Entries.{find}
use Rattle.hash.specs.Mix.{mix_of}
use Rattle.answer.specs.declared.Cause.{Cause}
use Rattle.answer.specs.declared.Cause.TheVariants.{WrongTable, NotSound, ShortOutput}
use Rattle.identifier.specs.Place.{second_of}
use Rattle.bucket.specs.declared.Bucket.{Bucket}
use Rattle.bucket.specs.Bucket.{lookup}
use Rattle.table.specs.Table.{Table, bucket_of, holds}
use Rattle.table.specs.Calls.{rows, solutions, table_of, shaped, sound}
use Rattle.plane.specs.Record.{format1, PlaneBucket}
use Rattle.plane.specs.Plane.{Plane, plane_bytes}
use Rattle.plane.specs.Lookup.{or_desk}

-- a bucket as the posts see it: no columns, no mark
abbrev pub seen_of : Bucket → PlaneBucket
seen_of b = record { bound = b.bound; sols = b.sols }

-- the plane of a table
abbrev pub plane_of : Table → Plane
plane_of T = record { level1 = map seen_of T.level1; level2 = map seen_of T.level2; base = T.base }

-- an answer, and the bytes of the output after it
pub record Written : Type 0 where
  pub answer : Answer
  pub output : List ℕ

-- what a contract says of a call: it answers a and leaves the output out, as these are written
abbrev pub Writes : Written → Answer → List ℕ → Type 0
Writes w a out = (a ≡ w.answer) × (out ≡ w.output)

-- turned down: the output stays as it was
abbrev pub turned_down : Cause → List ℕ → Written
turned_down c out = record { answer = Err c; output = out }

-- accepted: the bytes in front; output past them is untouched
abbrev pub in_front : List ℕ → List ℕ → Written
in_front bytes out = record { answer = Ok (length bytes); output = bytes ++ drop (length bytes) out }

-- if they fit: cause 9
abbrev pub put_front : List ℕ → List ℕ → Written
put_front bytes out = cond (ltb (length out) (length bytes)) (turned_down (ShortOutput (length bytes)) out) (in_front bytes out)

-- the writer: causes 4, 5, 9
unfoldable pub write_call : List ℕ → List ℕ → Written
write_call t out =
    cond (shaped t) (cond (sound t) (put_front (plane_bytes format1 (plane_of (table_of t))) out) (turned_down NotSound out))
    (turned_down (WrongTable (length t)) out)

-- ---- statement 2: what the plane of a table gives

-- the answer of the table's own solution words or base list for the word w, live or not
abbrev pub shown_plan : ℕ → ℕ → Table → ℕ → ℕ
shown_plan n r T w =
    cond (holds n r mix_of T.level1 w) (lookup (bucket_of n r mix_of T.level1 w) w)
    (cond (holds n r mix_of T.level2 (second_of w)) (lookup (bucket_of n r mix_of T.level2 (second_of w)) (second_of w))
    (or_desk (find (second_of w) T.base)))

-- for bytes that are handed in as an identifier
abbrev pub shown_to : Table → Answer → Answer
shown_to T (Ok w) = Ok (shown_plan rows solutions T w)
shown_to T (Err e) = Err e
