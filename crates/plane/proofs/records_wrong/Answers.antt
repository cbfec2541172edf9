-- `plane::records_wrong` meets its contract: each part is looked at where nothing before it is wrong.
-- Assumes nothing.
use mathlib.Core.Path.{◌≡◌, sym, ◌∙◌}
use native.Mathlib.Omega.{arith}
use lib.ListN.{drop, length-drop}
use Rattle.std.specs.Prelude.{Ok}
use Rattle.std.proofs.lemmas.Result.{err_from_is_err_and}
use Rattle.plane.specs.Record.{format1}
use Rattle.plane.specs.Plane.{buckets_at, entries_at, buckets_wrong, entries_wrong}
use Rattle.plane.proofs.Scan.{buckets_room, entries_room}
use Rattle.plane.proofs.records_wrong.Goals.{In_ok-buckets_wrong, In_ok-entries_wrong}
use Rattle.plane.proofs.records_wrong.Goals as goal

right_buckets : (c : In_ok-buckets_wrong) → buckets_wrong format1 c.args.buckets buckets_at (drop buckets_at c.args.plane.now) ≡ Ok tt
right_buckets c = sym c.buckets_wrong.ensures ∙ c.in_ok-buckets_wrong.was

right_entries : (c : In_ok-entries_wrong) → entries_wrong 0 c.args.entries (entries_at format1 c.args.buckets)
    (drop (entries_at format1 c.args.buckets) c.args.plane.now) ≡ Ok tt
right_entries c = sym c.entries_wrong.ensures ∙ c.in_ok-entries_wrong.was

pub entries_wrong-requires : goal.entries_wrong-requires
entries_wrong-requires c =
    omega (arith, buckets_room format1 c.args.buckets buckets_at (drop buckets_at c.args.plane.now) (right_buckets (goal.at.entries_wrong-requires c).In_ok-buckets_wrong), length-drop buckets_at c.args.plane.now)

pub end_wrong-requires : goal.end_wrong-requires
end_wrong-requires c =
    omega (
      arith,
      entries_room 0 c.args.entries (entries_at format1 c.args.buckets) (drop (entries_at format1 c.args.buckets) c.args.plane.now) (right_entries (goal.at.end_wrong-requires c).In_ok-entries_wrong),
      length-drop (entries_at format1 c.args.buckets) c.args.plane.now,
      buckets_room format1 c.args.buckets buckets_at (drop buckets_at c.args.plane.now) (right_buckets (goal.at.end_wrong-requires c).In_ok-buckets_wrong),
      length-drop buckets_at c.args.plane.now,
    )

pub returns-in_err-buckets_wrong : goal.returns-in_err-buckets_wrong
returns-in_err-buckets_wrong c =
    let e = err_from_is_err_and c.from_residual.result c.from_residual.ensures.1 in
    rw (e.1, e.2, sym c.buckets_wrong.ensures ∙ c.in_err-buckets_wrong.was)

pub returns-in_err-entries_wrong : goal.returns-in_err-entries_wrong
returns-in_err-entries_wrong c =
    let e = err_from_is_err_and c.from_residual-in_err-entries_wrong.result c.from_residual-in_err-entries_wrong.ensures.1 in
    rw (e.1, e.2, right_buckets (goal.at.returns-in_err-entries_wrong c).In_ok-buckets_wrong, sym c.entries_wrong.ensures ∙ c.in_err-entries_wrong.was)

pub returns : goal.returns
returns c = rw (right_buckets (goal.at.returns c).In_ok-buckets_wrong, right_entries (goal.at.returns c).In_ok-entries_wrong) c.end_wrong.ensures
