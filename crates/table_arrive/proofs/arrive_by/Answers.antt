-- `table_arrive::arrive_by` meets its contract.
-- Assumes nothing.
use Prim.Native.Nat.{ℕ}
use mathlib.Core.Path.{sym, ap, ◌∙◌, subst, subst⁻¹}
use Rattle.gf2.specs.Vectors.{product}
use Rattle.bucket.specs.declared.Bucket.{Bucket}
use mathlib.Core.List.{List}
use Rattle.hash.specs.Mix.{mix_of}
use Rattle.bucket_settle.specs.Settle.{threshold_of}
use Rattle.table.specs.Calls.{rows, solutions, table_of}
use Rattle.table_arrive.specs.Arrival.{DependsIn, to_second, Passed, FlatKept}
use Rattle.table_layout.proofs.Shape.{second_in, second-here}
use Rattle.table_arrive.proofs.Tables.{flat, shape}
use Rattle.table_arrive.proofs.Settled.{straight_as, straight_left, straight_depends, arrive_straight}
use Rattle.table_arrive.proofs.arrive_by.Goals as goal

pub place-at-requires : goal.place-at-requires
place-at-requires c = shape rows solutions _ c.requires.0

pub put_by-requires : goal.put_by-requires
put_by-requires c =
    let k = (flat rows solutions _ c.requires.0).shape in
    (second_in rows solutions _ k mix_of c.args.v _ c.place-at.ensures, c.requires.1.1 ∙ ap (λ (b : Bucket). product b.cols c.args.v) (sym (second-here rows solutions _ k mix_of c.args.v _ c.place-at.ensures)))

pub returns-then-put_by : goal.returns-then-put_by
returns-then-put_by c =
    rw c.if-put_by.true (
    arrive_straight rows solutions mix_of _ c.requires.0 ((record { word = c.args.v; plan = c.args.plan })) _ c.place-at.ensures c.ranges.v.fits _ (straight_as rows solutions threshold_of _ ((record { word = c.args.v; plan = c.args.plan })) _ c.if-put_by.true c.put_by.ensures))

pub fall_second-requires : goal.fall_second-requires
fall_second-requires c =
    let here = second-here rows solutions _ (flat rows solutions _ c.requires.0).shape mix_of c.args.v _ c.place-at.ensures in
    subst⁻¹ (λ (t : List ℕ). FlatKept rows solutions t × DependsIn rows solutions mix_of (table_of t).level2 ((record { word = c.args.v; plan = c.args.plan })))
    (straight_left rows solutions threshold_of _ ((record { word = c.args.v; plan = c.args.plan })) _ c.if-put_by.false c.put_by.ensures)
    (c.requires.0, straight_depends rows solutions mix_of (table_of c.args.t.now).level2 ((record { word = c.args.v; plan = c.args.plan })) _ _ here c.requires.1.0 c.if-put_by.false c.put_by.ensures)

pub returns-else-put_by : goal.returns-else-put_by
returns-else-put_by c =
    subst (λ (t : List ℕ). Passed rows solutions t (to_second rows solutions mix_of (table_of t) ((record { word = c.args.v; plan = c.args.plan }))) c.fall_second.result c.fall_second.new.t) (straight_left rows solutions threshold_of _ ((record { word = c.args.v; plan = c.args.plan })) _ c.if-put_by.false c.put_by.ensures) c.fall_second.ensures
