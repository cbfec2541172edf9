-- `table_pass::take_base` meets its contract.
-- Assumes nothing.
use Prim.Native.Nat.{ℕ, ◌+◌, ◌≤◌}
use native.Mathlib.Omega.{arith}
use mathlib.Core.Path.{◌≡◌, sym, ap₂, ◌∙◌}
use lib.ListN.{length, get_or}
use Rattle.table.specs.Layout.{buckets1_at, buckets2_at, bucket_place}
use Rattle.table_layout.proofs.Shape.{place_le, last_is, last-length, last_room, last-put}
use Rattle.table_arrive.proofs.Tables.{count0, flat, shape, long}
use Rattle.table.specs.Calls.{rows, solutions}
use borrow.Author.Rules.{rules}
use Rattle.table_pass.proofs.take_base.Goals.{After-base_place-a}
use Rattle.table_pass.proofs.take_base.Goals as goal

-- the base list of either table starts here
at : (c : After-base_place-a) → c.base_place-a.result ≡ bucket_place rows solutions (get_or c.args.from.now buckets1_at 0 + get_or c.args.from.now buckets2_at 0)
at c = c.base_place-a.ensures ∙ ap₂ (λ (a b : ℕ). bucket_place rows solutions (a + b)) c.requires.buckets1 c.requires.buckets2

within : (c : After-base_place-a) → c.base_place-a.result ≤ length c.args.t.now
within c = place_le rows solutions _ (flat rows solutions _ c.requires.one) _ c.base_place-a.ensures

within-from : (c : After-base_place-a) → c.base_place-a.result ≤ length c.args.from.now
within-from c =
    let at : c.base_place-a.result ≡ bucket_place rows solutions (get_or c.args.from.now buckets1_at 0 + get_or c.args.from.now buckets2_at 0) =
    c.base_place-a.ensures ∙ ap₂ (λ (a b : ℕ). bucket_place rows solutions (a + b)) c.requires.buckets1 c.requires.buckets2 in
    place_le rows solutions _ (flat rows solutions _ c.requires.other) _ (at)

pub base_place-a-requires : goal.base_place-a-requires
base_place-a-requires c = shape rows solutions _ c.requires.one

pub offset_bounds-t-a : goal.offset_bounds-t-a
offset_bounds-t-a c = let h = within (goal.at.offset_bounds-t-a c).After-base_place-a in search rules

pub slice_bounds-put-count : goal.slice_bounds-put-count
slice_bounds-put-count c = within (goal.at.slice_bounds-put-count c).After-base_place-a

pub slice_bounds-put-start : goal.slice_bounds-put-start
slice_bounds-put-start c = within (goal.at.slice_bounds-put-start c).After-base_place-a

pub offset_bounds-from-a : goal.offset_bounds-from-a
offset_bounds-from-a c = let h = within (goal.at.offset_bounds-from-a c).After-base_place-a in search rules

pub slice_bounds-put-count-2 : goal.slice_bounds-put-count-2
slice_bounds-put-count-2 c = within-from (goal.at.slice_bounds-put-count-2 c).After-base_place-a

pub slice_bounds-put-start-2 : goal.slice_bounds-put-start-2
slice_bounds-put-start-2 c = within-from (goal.at.slice_bounds-put-start-2 c).After-base_place-a

pub put-requires : goal.put-requires
put-requires c =
    last-length rows solutions _ (flat rows solutions _ c.requires.one) _ c.base_place-a.ensures ∙ sym (last-length rows solutions _ (flat rows solutions _ c.requires.other) _ (at (goal.at.put-requires c).After-base_place-a))

pub bounds-from-2 : goal.bounds-from-2
bounds-from-2 c = let h = long rows solutions _ c.requires.other in omega arith

pub bounds-t-2 : goal.bounds-t-2
bounds-t-2 c =
    last_room rows solutions _ (flat rows solutions _ c.requires.one) _ c.base_place-a.ensures c.put.new.to

pub returns : goal.returns
returns c =
    last-put rows solutions _ (flat rows solutions _ c.requires.one) _ c.base_place-a.ensures _ _ _ (c.put.ensures ∙ last_is rows solutions _ (flat rows solutions _ c.requires.other) _ (at (goal.at.returns c).After-base_place-a)) (sym (count0 rows solutions _ c.requires.other))
