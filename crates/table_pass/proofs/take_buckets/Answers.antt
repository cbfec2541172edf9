-- `table_pass::take_buckets` meets its contract.
-- Assumes nothing.
use native.Mathlib.Omega.{arith}
use mathlib.Core.Path.{◌∙◌}
use Rattle.hash.specs.Mix.{mix_of}
use Rattle.table.specs.Calls.{rows, solutions}
use Rattle.table_layout.proofs.Shape.{second_in}
use Rattle.table_arrive.proofs.Tables.{flat, shape}
use Rattle.table_pass.proofs.Passing.{words-next, words-length, taking_room, taking-next, taking-ends}
use Rattle.table_pass.proofs.take_buckets.Goals as goal

pub place-at-requires : goal.place-at-requires
place-at-requires c = shape rows solutions _ c.requires.other

pub bucket_at-requires : goal.bucket_at-requires
bucket_at-requires c = second_in rows solutions _ (flat rows solutions _ c.requires.other).shape mix_of _ _ c.place-at.ensures

pub store_at-requires : goal.store_at-requires
store_at-requires c = taking_room rows solutions mix_of _ _ _ _ _ c.loop-e.invariant _ _ c.place-at.ensures

pub loop-e-preserved : goal.loop-e-preserved
loop-e-preserved c =
    taking-next rows solutions mix_of _ _ _ _ _ c.loop-e.invariant _ _ c.place-at.ensures _ _ c.bucket_at.ensures c.store_at.ensures (words-next mix_of c.args.entries.now c.loop-e.e-index _ c.loop-e-test.true (c.e.view_is ∙ c.e-item.is) _ c.second.ensures)

pub returns : goal.returns
returns c =
    taking-ends rows solutions mix_of _ _ _ _ _ c.loop-e.invariant (omega (arith, c.loop-e-test.false, words-length mix_of c.args.entries.now))
