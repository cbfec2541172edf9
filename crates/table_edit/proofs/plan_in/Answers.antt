-- `table_edit::plan_in` meets its contract: the tests that led to each answer.
-- Assumes nothing.
use mathlib.Core.Path.{sym, ap, ◌∙◌}
use native.Mathlib.Omega.{arith}
use Rattle.hash.specs.Mix.{mix_of}
use Rattle.bucket.specs.declared.Bucket.{Bucket}
use Rattle.bucket_settle.specs.Settle.{plan_of}
use Rattle.table_base.specs.Base.{found_of}
use Rattle.table_base.proofs.Shift.{sized}
use Rattle.table.specs.Calls.{rows, solutions}
use Rattle.table_layout.proofs.Shape.{first_in, second_in, place_le}
use Rattle.table_edit.proofs.Touched.{flat_of, long, plan-first, plan-second, plan-base, base-pairs}
use Rattle.table_edit.proofs.plan_in.Goals as goal

pub bucket_at-requires : goal.bucket_at-requires
bucket_at-requires c = first_in rows solutions _ (flat_of c.requires).shape mix_of _ _ c.place.ensures

pub returns-then-holds : goal.returns-then-holds
returns-then-holds c =
    c.plan_of.ensures
    ∙ ap found_of (ap (λ (b : Bucket). plan_of rows c.args.w b) c.bucket_at.ensures
    ∙ plan-first rows solutions mix_of c.args.t.now (flat_of c.requires) c.args.w (sym c.holds.ensures ∙ c.if-holds.true) c.place.result c.place.ensures)

pub bucket_at-requires-then-holds-2 : goal.bucket_at-requires-then-holds-2
bucket_at-requires-then-holds-2 c = second_in rows solutions _ (flat_of c.requires).shape mix_of _ _ c.place-then-holds-2.ensures

pub returns-then-holds-2 : goal.returns-then-holds-2
returns-then-holds-2 c =
    c.plan_of-then-holds-2.ensures
    ∙ ap found_of (ap (λ (b : Bucket). plan_of rows c.second-v.result b) c.bucket_at-then-holds-2.ensures
    ∙ plan-second rows solutions mix_of c.args.t.now (flat_of c.requires) c.args.w (sym c.holds.ensures ∙ c.if-holds.false) c.second-v.result c.second-v.ensures
    (sym c.holds-2.ensures ∙ c.if-holds-2.true) c.place-then-holds-2.result c.place-then-holds-2.ensures)

pub bounds-t-2 : goal.bounds-t-2
bounds-t-2 c = omega (arith, long c.requires)

pub offset_bounds-t-a : goal.offset_bounds-t-a
offset_bounds-t-a c = omega (arith, place_le rows solutions _ (flat_of c.requires) _ c.base_place-a.ensures)

pub slice_bounds-find-count : goal.slice_bounds-find-count
slice_bounds-find-count c = omega (arith, place_le rows solutions _ (flat_of c.requires) _ c.base_place-a.ensures)

pub slice_bounds-find-start : goal.slice_bounds-find-start
slice_bounds-find-start c = omega (arith, place_le rows solutions _ (flat_of c.requires) _ c.base_place-a.ensures)

pub find-requires : goal.find-requires
find-requires c =
    sized (base-pairs rows solutions mix_of _ (flat_of c.requires) _ c.base_place-a.ensures)

pub returns : goal.returns
returns c =
    c.find.ensures
    ∙ ap found_of (plan-base rows solutions mix_of c.args.t.now (flat_of c.requires) c.args.w (sym c.holds.ensures ∙ c.if-holds.false) c.second-v.result c.second-v.ensures
    (sym c.holds-2.ensures ∙ c.if-holds-2.false) c.base_place-a.result c.base_place-a.ensures)
