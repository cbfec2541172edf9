-- `table_layout::bound_at` meets its contract.
-- Assumes nothing.
use mathlib.Core.Path.{sym, ap, ◌∙◌}
use Prim.Native.Nat.{ℕ, ◌+◌, ◌≤◌}
use native.Mathlib.Omega.{arith}
use lib.ListN.{length, get_or}
use Rattle.bucket_words.specs.Words.{bucket_words}
use Rattle.table.specs.Layout.{bucket_place}
use Rattle.table.specs.Calls.{rows, solutions}
use Rattle.table_layout.proofs.Shape.{shape, bound_is, bucket_in}
use Rattle.table_layout.proofs.bound_at.Goals.{Start}
use Rattle.table_layout.proofs.bound_at.Goals as goal

-- the words of the bucket are in the table
room : (s : Start) → bucket_place rows solutions s.args.i + bucket_words rows solutions ≤ length s.args.t.now
room s = bucket_in rows solutions s.args.t.now (shape s.requires.0) s.args.i s.requires.1

pub bucket_place-requires : goal.bucket_place-requires
bucket_place-requires c = let s = shape c.requires.0 in omega arith

pub overflow_add-result : goal.overflow_add-result
overflow_add-result c = omega (arith, room (goal.at.overflow_add-result c).Start)

pub offset_bounds-t-bucket_place : goal.offset_bounds-t-bucket_place
offset_bounds-t-bucket_place c = omega (arith, room (goal.at.offset_bounds-t-bucket_place c).Start)

pub bounds-t-bucket_place : goal.bounds-t-bucket_place
bounds-t-bucket_place c = omega (arith, room (goal.at.bounds-t-bucket_place c).Start)

pub returns : goal.returns
returns c =
    ap (λ (p : ℕ). get_or c.args.t.now (p + (rows + 1 + solutions)) 0) c.bucket_place.ensures ∙ sym (bound_is rows solutions c.args.t.now _)
