-- `table_edit::touch` meets its contract: what is written is the bucket or the base list that the tests name.
-- Assumes nothing.
use mathlib.Core.Path.{sym, ◌∙◌}
use Prim.Native.Nat.{◌+◌, ◌-◌, ◌≤◌}
use native.Mathlib.Omega.{arith}
use lib.ListN.{length}
use borrow.Rule.Slice.PartMut.{same_len_mid}
use Rattle.hash.specs.Mix.{mix_of}
use Rattle.bucket_words.specs.Words.{bucket_words}
use Rattle.table.specs.Calls.{rows, solutions}
use Rattle.table_edit.specs.Edit.{on_bucket, on_base}
use Rattle.table_layout.proofs.Shape.{first_in, second_in, place_le}
use Rattle.table_edit.proofs.Touched.{flat_of, long, touched-first, touched-second, touched-base, base-pairs}
use Rattle.table_edit.proofs.touch.Goals.{After-base_place-a, After-place-a, After-place-a-then-holds-2}
use Rattle.table_edit.proofs.touch.Goals as goal

-- the stretches end within the table
end_1 : (c : After-place-a) → c.place-a.result + bucket_words rows solutions ≤ length c.args.t.now
end_1 c = first_in rows solutions _ (flat_of c.requires).shape mix_of _ _ c.place-a.ensures

end_2 : (c : After-place-a-then-holds-2) → c.place-a-then-holds-2.result + bucket_words rows solutions ≤ length c.args.t.now
end_2 c = second_in rows solutions _ (flat_of c.requires).shape mix_of _ _ c.place-a-then-holds-2.ensures

end_3 : (c : After-base_place-a) → c.base_place-a.result ≤ length c.args.t.now
end_3 c = place_le rows solutions _ (flat_of c.requires) _ c.base_place-a.ensures

pub overflow_add-e : goal.overflow_add-e
overflow_add-e c = omega (arith, end_1 (goal.at.overflow_add-e c).After-place-a)

pub offset_bounds-t-a : goal.offset_bounds-t-a
offset_bounds-t-a c = omega (arith, end_1 (goal.at.offset_bounds-t-a c).After-place-a)

pub slice_bounds-edit_bucket-end : goal.slice_bounds-edit_bucket-end
slice_bounds-edit_bucket-end c = omega (arith, end_1 (goal.at.slice_bounds-edit_bucket-end c).After-place-a)

pub returns-then-holds : goal.returns-then-holds
returns-then-holds c =
    touched-first rows solutions mix_of c.args.t.now (flat_of c.requires) c.args.w (on_bucket c.args.edit) (on_base c.args.edit)
    (sym c.holds.ensures ∙ c.if-holds.true) c.place-a.result c.place-a.ensures c.edit_bucket.new.part c.edit_bucket.ensures

pub overflow_add-e-then-holds-2 : goal.overflow_add-e-then-holds-2
overflow_add-e-then-holds-2 c = omega (arith, end_2 (goal.at.overflow_add-e-then-holds-2 c).After-place-a-then-holds-2)

pub offset_bounds-t-a-then-holds-2 : goal.offset_bounds-t-a-then-holds-2
offset_bounds-t-a-then-holds-2 c = omega (arith, end_2 (goal.at.offset_bounds-t-a-then-holds-2 c).After-place-a-then-holds-2)

pub slice_bounds-edit_bucket-end-then-holds-2 : goal.slice_bounds-edit_bucket-end-then-holds-2
slice_bounds-edit_bucket-end-then-holds-2 c = omega (arith, end_2 (goal.at.slice_bounds-edit_bucket-end-then-holds-2 c).After-place-a-then-holds-2)

pub returns-then-holds-2 : goal.returns-then-holds-2
returns-then-holds-2 c =
    touched-second rows solutions mix_of c.args.t.now (flat_of c.requires) c.args.w (on_bucket c.args.edit) (on_base c.args.edit)
    (sym c.holds.ensures ∙ c.if-holds.false) c.second-v.result c.second-v.ensures (sym c.holds-2.ensures ∙ c.if-holds-2.true)
    c.place-a-then-holds-2.result c.place-a-then-holds-2.ensures c.edit_bucket-then-holds-2.new.part c.edit_bucket-then-holds-2.ensures

pub bounds-t-2 : goal.bounds-t-2
bounds-t-2 c = omega (arith, long c.requires)

pub offset_bounds-t-a-2 : goal.offset_bounds-t-a-2
offset_bounds-t-a-2 c = omega (arith, end_3 (goal.at.offset_bounds-t-a-2 c).After-base_place-a)

pub slice_bounds-edit_base-count : goal.slice_bounds-edit_base-count
slice_bounds-edit_base-count c = omega (arith, end_3 (goal.at.slice_bounds-edit_base-count c).After-base_place-a)

pub slice_bounds-edit_base-start : goal.slice_bounds-edit_base-start
slice_bounds-edit_base-start c = omega (arith, end_3 (goal.at.slice_bounds-edit_base-start c).After-base_place-a)

pub edit_base-requires : goal.edit_base-requires
edit_base-requires c =
    base-pairs rows solutions mix_of _ (flat_of c.requires) _ c.base_place-a.ensures

pub bounds-t-2-2 : goal.bounds-t-2-2
bounds-t-2-2 c =
    omega (arith, same_len_mid c.base_place-a.result (length c.args.t.now - c.base_place-a.result) c.args.t.now c.edit_base.new.pairs c.edit_base.auto.pairs, long c.requires)

pub returns : goal.returns
returns c =
    touched-base rows solutions mix_of c.args.t.now (flat_of c.requires) c.args.w (on_bucket c.args.edit) (on_base c.args.edit)
    (sym c.holds.ensures ∙ c.if-holds.false) c.second-v.result c.second-v.ensures (sym c.holds-2.ensures ∙ c.if-holds-2.false)
    c.base_place-a.result c.base_place-a.ensures c.edit_base.new.pairs c.edit_base.result c.edit_base.ensures.1 c.edit_base.ensures.0
