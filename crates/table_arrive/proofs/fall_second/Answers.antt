-- `table_arrive::fall_second` meets its contract.
-- Assumes nothing.
use native.Mathlib.Omega.{arith}
use mathlib.Core.Path.{ap, ◌∙◌, subst⁻¹}
use mathlib.Core.List.{List}
use lib.ListN.{length}
use Rattle.bucket.specs.declared.Bucket.{Bucket}
use Rattle.bucket.specs.Bucket.{add}
use Rattle.hash.specs.Mix.{mix_of}
use Rattle.bucket_settle.specs.Settle.{SoundBucket}
use Rattle.lists.specs.Entries.{Entry, insert_all}
use Rattle.table.specs.Table.{with_base}
use Rattle.table.specs.Layout.{numbers_of}
use Rattle.table.specs.Calls.{rows, solutions, table_of}
use Rattle.table_layout.proofs.Shape.{second_in, second-here}
use Rattle.table_arrive.proofs.Tables.{count0, flat, shape, long, second-sound}
use Rattle.table_arrive.proofs.Settled.{arrive_full, arrive_stored, arrive_count, arrive-done}
use Rattle.table_arrive.proofs.fall_second.Goals as goal

pub place-at-requires : goal.place-at-requires
place-at-requires c = shape rows solutions _ c.requires.0

pub fallen_at-s-requires : goal.fallen_at-s-requires
fallen_at-s-requires c =
    let here = second-here rows solutions _ (flat rows solutions _ c.requires.0).shape mix_of c.args.v _ c.place-at.ensures in (
      second_in rows solutions _ (flat rows solutions _ c.requires.0).shape mix_of c.args.v _ c.place-at.ensures,
      (subst⁻¹ (SoundBucket rows solutions) here (second-sound rows solutions _ c.requires.0 mix_of c.args.v), ap (λ (b : Bucket). add rows c.args.v c.args.plan b) here ∙ c.requires.1),
    )

pub bounds-t-2 : goal.bounds-t-2
bounds-t-2 c = let h = long rows solutions _ c.requires.0 in omega arith

pub overflow_add-t : goal.overflow_add-t
overflow_add-t c = omega (arith, count0 rows solutions _ c.requires.0, c.requires.0.table.short, c.entries-out.ensures)

pub returns-then-t-more-gt-BASE_ENTRIES : goal.returns-then-t-more-gt-BASE_ENTRIES
returns-then-t-more-gt-BASE_ENTRIES c =
    arrive_full rows solutions mix_of _ c.requires.0 ((record { word = c.args.v; plan = c.args.plan })) _ c.place-at.ensures _ c.fallen_at-s.ensures (omega (arith, ap length c.entries-out.ensures.0, c.if-t-more-gt-BASE_ENTRIES.true))

pub store_at-requires : goal.store_at-requires
store_at-requires c =
    second_in rows solutions _ (flat rows solutions _ c.requires.0).shape mix_of c.args.v _ c.place-at.ensures

pub enter_base-requires : goal.enter_base-requires
enter_base-requires c =
    let k = arrive_count rows solutions mix_of _ c.requires.0 ((record { word = c.args.v; plan = c.args.plan })) _ c.place-at.ensures _ c.fallen_at-s.ensures c.ranges.v.fits _ c.store_at.ensures in
    (arrive_stored rows solutions mix_of _ c.requires.0 ((record { word = c.args.v; plan = c.args.plan })) _ c.place-at.ensures _ c.fallen_at-s.ensures c.ranges.v.fits _ c.store_at.ensures, omega (arith, ap length c.entries-out.ensures.0))

pub returns : goal.returns
returns c =
    arrive-done rows solutions mix_of _ c.requires.0 ((record { word = c.args.v; plan = c.args.plan })) _ c.place-at.ensures _ c.fallen_at-s.ensures c.ranges.v.fits _ c.store_at.ensures _
    (c.enter_base.ensures ∙ ap (λ (es : List Entry). numbers_of (with_base (table_of c.store_at.new.t) (insert_all es (table_of c.store_at.new.t).base))) c.entries-out.ensures.0)
    (omega (arith, ap length c.entries-out.ensures.0, c.if-t-more-gt-BASE_ENTRIES.false))
