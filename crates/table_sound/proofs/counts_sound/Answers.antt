-- `table_sound::counts_sound` meets its contract.
-- Assumes nothing.
use mathlib.Core.Path.{◌≡◌, refl, sym, ap, ◌∙◌}
use Prim.Native.Nat.{◌+◌}
use native.Mathlib.Omega.{arith}
use lib.Dec.{eqb}
use lib.ListN.{get_or}
use borrow.Author.Tests.{le-leb, lt-leb}
use mathlib.Core.Bool.{true}
use Rattle.lists.specs.Entries.{desk_plan}
use mathlib.Core.List.{List}
use Rattle.std.proofs.lemmas.Bool.{false≢true}
use Rattle.table.specs.Layout.{buckets1_at, buckets2_at, base_count_at, live_count_at, totals_at}
use Rattle.table.specs.Content.{occupied}
use Rattle.table_layout.proofs.Shape.{shape}
use Rattle.bucket.specs.declared.Bucket.{Bucket}
use Rattle.table_sound.proofs.Held.{holding, levels_lent}
use Rattle.table_sound.proofs.counts_sound.Goals.{then-count-le-BASE_ENTRIES, else-count-le-BASE_ENTRIES}
use Rattle.table_sound.proofs.counts_sound.Goals as goal

pub bounds-t-2 : goal.bounds-t-2
bounds-t-2 c = let s = shape c.requires in omega arith

pub slice_bounds-buckets-end : goal.slice_bounds-buckets-end
slice_bounds-buckets-end c = let s = shape c.requires in omega arith

pub bounds-t-259 : goal.bounds-t-259
bounds-t-259 c = let s = shape c.requires in omega arith

pub bounds-t-3 : goal.bounds-t-3
bounds-t-3 c = let s = shape c.requires in omega arith

pub live_count-requires : goal.live_count-requires
live_count-requires c =
    elim c.if-count-le-BASE_ENTRIES.branch [ then-count-le-BASE_ENTRIES w ↦ w.if-count-le-BASE_ENTRIES.true | else-count-le-BASE_ENTRIES w ↦ absurd (false≢true (sym (lt-leb _ _ w.if-count-le-BASE_ENTRIES.false) ∙ sym w.value-is ∙ c.if-t-eq0.true)) ]

pub returns-then-t-eq0 : goal.returns-then-t-eq0
returns-then-t-eq0 c =
    let t = c.args.t.now in
    let s = shape c.requires in
    let lent = levels_lent (get_or t buckets1_at 0 + get_or t buckets2_at 0) _ t c.base_place.ensures (omega arith) in
    let live = c.live_count.ensures ∙ ap (λ (bs : List Bucket). occupied bs + get_or t base_count_at 0) lent in
    elim c.if-count-le-BASE_ENTRIES.branch [
      | then-count-le-BASE_ENTRIES w ↦
          let desk : eqb (get_or t (totals_at + desk_plan) 0) 0 ≡ true = sym w.value-is ∙ c.if-t-eq0.true in
          ap (eqb (get_or t live_count_at 0)) live ∙ sym (holding (le-leb _ _ w.if-count-le-BASE_ENTRIES.true) (holding desk refl))
      | else-count-le-BASE_ENTRIES w ↦ absurd (false≢true (sym (lt-leb _ _ w.if-count-le-BASE_ENTRIES.false) ∙ sym w.value-is ∙ c.if-t-eq0.true))
    ]
