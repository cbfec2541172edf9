-- `table_sound::sound` meets its contract.
-- Assumes nothing.
use mathlib.Core.Path.{sym, ◌∙◌}
use native.Mathlib.Omega.{arith}
use Rattle.table.specs.Calls.{rows, solutions}
use Rattle.table_layout.proofs.Shape.{shape, levels_in}
use Rattle.table_sound.proofs.Held.{failing, base-fits, whole, base_fails, first_fails, second_fails, all-counted}
use Rattle.table_sound.proofs.sound.Goals as goal

pub bounds-t-0 : goal.bounds-t-0
bounds-t-0 c = let s = shape c.requires in omega arith

pub bounds-t-1 : goal.bounds-t-1
bounds-t-1 c = let s = shape c.requires in omega arith

pub base_off-requires : goal.base_off-requires
base_off-requires c =
    (c.requires, base-fits c.args.t.now (sym c.counts_sound.ensures ∙ c.if-not-counts_sound.false))

pub level_off-requires : goal.level_off-requires
level_off-requires c = (c.requires, (levels_in rows solutions _ (shape c.requires)).0)

pub bucket_place-place-requires : goal.bucket_place-place-requires
bucket_place-place-requires c = let s = shape c.requires in omega arith

pub level_off-requires-2 : goal.level_off-requires-2
level_off-requires-2 c = (c.requires, omega (arith, (levels_in rows solutions _ (shape c.requires)).1))

pub returns-then-level_off : goal.returns-then-level_off
returns-then-level_off c =
    let h = sym c.counts_sound.ensures ∙ c.if-not-counts_sound.false in
    c.all_zero.ensures ∙ all-counted c.args.t.now c.requires h c.totals_of-left.result c.totals_of-left.ensures c.base_off.result c.base_off.new.left c.base_off.ensures c.if-not-base_off.false c.level_off.result c.level_off.new.left c.level_off.ensures c.if-not-level_off.false c.bucket_place-place.result c.bucket_place-place.ensures c.level_off-2.result c.level_off-2.new.left c.level_off-2.ensures c.if-level_off.true

pub returns-else-level_off : goal.returns-else-level_off
returns-else-level_off c =
    let h = sym c.counts_sound.ensures ∙ c.if-not-counts_sound.false in
    rw c.if-level_off.false (second_fails c.args.t.now c.requires h c.totals_of-left.result c.totals_of-left.ensures c.base_off.result c.base_off.new.left c.base_off.ensures c.if-not-base_off.false c.level_off.result c.level_off.new.left c.level_off.ensures c.if-not-level_off.false c.bucket_place-place.result c.bucket_place-place.ensures c.level_off-2.result c.level_off-2.new.left c.level_off-2.ensures c.if-level_off.false)

pub returns-then-not-level_off : goal.returns-then-not-level_off
returns-then-not-level_off c =
    let h = sym c.counts_sound.ensures ∙ c.if-not-counts_sound.false in
    first_fails c.args.t.now c.requires h c.totals_of-left.result c.totals_of-left.ensures c.base_off.result c.base_off.new.left c.base_off.ensures c.if-not-base_off.false c.level_off.result c.level_off.new.left c.level_off.ensures c.if-not-level_off.true

pub returns-then-not-base_off : goal.returns-then-not-base_off
returns-then-not-base_off c =
    let h = sym c.counts_sound.ensures ∙ c.if-not-counts_sound.false in
    base_fails c.args.t.now c.requires h c.totals_of-left.result c.totals_of-left.ensures c.base_off.result c.base_off.new.left c.base_off.ensures c.if-not-base_off.true

pub returns-then-not-counts_sound : goal.returns-then-not-counts_sound
returns-then-not-counts_sound c = sym (whole c.args.t.now c.requires ∙ failing _ (sym c.counts_sound.ensures ∙ c.if-not-counts_sound.true))
