-- The two calls of document 02, order 1: what they answer and leave for any bytes as planes, patch and output.
-- Assumes nothing.
use Rattle.std.specs.Prelude.{ℕ, Bool, cond, ◌&&◌, List, eqb, Result, Ok, Err}
use Rattle.hash.specs.Fnv.{fnv_of}
use Rattle.answer.specs.declared.Cause.{Cause}
use Rattle.answer.specs.declared.Cause.TheVariants.{WrongPlane, UnlikePlanes, WrongPatch, WrongSum}
use Rattle.plane.specs.Record.{Format, format1}
use Rattle.plane.specs.Plane.{plane_bytes, plane_from, wrong_at, buckets1, buckets2}
use Rattle.plane_write.specs.Write.{Written, turned_down, put_front}
use Rattle.patch.specs.Patch.{patch_bytes, patch_of, patched}
use Rattle.patch.specs.Wrong.{patch_from, patch_wrong_at}

-- what follows, or the cause with the offset of what is wrong
abbrev pub unless_wrong : (ℕ → Cause) → List ℕ → Result (Unit {0}) ℕ → Written → Written
unless_wrong cause out (Ok u) w = w
unless_wrong cause out (Err at) w = turned_down (cause at) out

-- equal bucket numbers
abbrev pub alike : List ℕ → List ℕ → Bool
alike p q = eqb (buckets1 p) (buckets1 q) && eqb (buckets2 p) (buckets2 q)

-- the bytes of the new plane: the patch d applied to the old plane p
abbrev pub applied : Format → List ℕ → List ℕ → List ℕ
applied F p d = plane_bytes F (patched (plane_from F p) (patch_from F d))

-- the sums are those of the old plane's bytes and of the new one's
abbrev pub sums_fit : Format → List ℕ → List ℕ → Bool
sums_fit F p d = eqb (patch_from F d).old_sum (fnv_of p) && eqb (patch_from F d).new_sum (fnv_of (applied F p d))

-- make a patch from the plane p to the plane q: causes 10 (old), 10 (new), 11, 9
unfoldable pub make_call : List ℕ → List ℕ → List ℕ → Written
make_call p q out =
    unless_wrong WrongPlane out (wrong_at format1 p)
    (unless_wrong WrongPlane out (wrong_at format1 q)
    (cond (alike p q) (put_front (patch_bytes format1 (patch_of format1 p q)) out) (turned_down UnlikePlanes out)))

-- apply the patch d to the plane p: causes 10, 12, 13, 9
unfoldable pub apply_call : List ℕ → List ℕ → List ℕ → Written
apply_call p d out =
    unless_wrong WrongPlane out (wrong_at format1 p)
    (unless_wrong WrongPatch out (patch_wrong_at format1 (plane_from format1 p) d)
    (cond (sums_fit format1 p d) (put_front (applied format1 p d) out) (turned_down WrongSum out)))
