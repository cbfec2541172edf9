-- `table_add::fall_first` meets its contract.
-- Assumes nothing.
use Prim.Native.Nat.{ℕ}
use mathlib.Core.Path.{◌≡◌, ap, ◌∙◌, subst, subst⁻¹}
use mathlib.Core.List.{List}
use Rattle.lists.specs.Entries.{Entry}
use Rattle.bucket.specs.declared.Bucket.{Bucket}
use Rattle.bucket.specs.Bucket.{add}
use mathlib.Core.Bool.{Bool, true}
use Rattle.hash.specs.Mix.{mix_of}
use Rattle.bucket_settle.specs.Settle.{SoundBucket}
use Rattle.table.specs.Calls.{rows, solutions, table_of}
use Rattle.table_arrive.specs.Arrival.{Passed}
use Rattle.table_pass.specs.Passing.{seconds, all_to_second}
use Rattle.table_layout.proofs.Shape.{first_in, first-here}
use Rattle.table_arrive.proofs.Tables.{flat, first-sound}
use Rattle.table_add.proofs.Added.{passed_as, Counted, enter_full, enter_room, enter-counted, ready_kept, count_room, entered_full, entered_done}
use Rattle.table_add.proofs.fall_first.Goals.{After-count_one-arg-1, Then-pass_on}
use Rattle.table_add.proofs.fall_first.Goals as goal

-- the words that went on are those that left
gone : (t : List ℕ) (done : Bool) (u : List ℕ) {es fs : List Entry} → es ≡ fs → Passed rows solutions t (all_to_second rows solutions mix_of (table_of t) (seconds mix_of es)) done u
    → Passed rows solutions t (all_to_second rows solutions mix_of (table_of t) (seconds mix_of fs)) done u
gone t done u q = subst (λ (es : List Entry). Passed rows solutions t (all_to_second rows solutions mix_of (table_of t) (seconds mix_of es)) done u) q

-- the words that left level 1 went on
on : (c : Then-pass_on) → Passed rows solutions c.args.t.now (all_to_second rows solutions mix_of (table_of c.args.t.now) (seconds mix_of c.fallen_at-s.result.out)) true c.pass_on.new.t
on c = passed_as rows solutions _ _ _ _ _ c.if-pass_on.true (gone _ _ _ c.entries.ensures.0 c.pass_on.ensures)

counted : (c : After-count_one-arg-1) → Counted rows solutions mix_of c.args.t.now ((record { word = c.args.w; plan = c.args.plan })) c.store_at.new.t
counted c =
    let on : Passed rows solutions c.args.t.now (all_to_second rows solutions mix_of (table_of c.args.t.now) (seconds mix_of c.fallen_at-s.result.out)) true c.pass_on.new.t =
    passed_as rows solutions _ _ _ _ _ c.if-pass_on.true (gone _ _ _ c.entries.ensures.0 c.pass_on.ensures) in
    enter-counted rows solutions mix_of _ (ready_kept _ c.requires.0) ((record { word = c.args.w; plan = c.args.plan })) c.ranges.w.fits _ c.place-at.ensures _ c.fallen_at-s.ensures _ (on) _ c.store_at.ensures

pub fallen_at-s-requires : goal.fallen_at-s-requires
fallen_at-s-requires c =
    let k = ready_kept _ c.requires.0 in
    let here = first-here rows solutions _ (flat rows solutions _ k).shape mix_of c.args.w _ c.place-at.ensures in (
      first_in rows solutions _ (flat rows solutions _ k).shape mix_of c.args.w _ c.place-at.ensures,
      (subst⁻¹ (SoundBucket rows solutions) here (first-sound rows solutions _ k mix_of c.args.w), ap (λ (b : Bucket). add rows c.args.w c.args.plan b) here ∙ c.requires.1.1),
    )

pub pass_on-requires : goal.pass_on-requires
pass_on-requires c = ready_kept _ c.requires.0

pub store_at-requires : goal.store_at-requires
store_at-requires c =
    enter_room rows solutions mix_of _ (ready_kept _ c.requires.0) ((record { word = c.args.w; plan = c.args.plan })) c.ranges.w.fits _ c.place-at.ensures _ c.fallen_at-s.ensures _ (on (goal.at.store_at-requires c).Then-pass_on)

pub count_one-requires : goal.count_one-requires
count_one-requires c =
    count_room _ c.requires.0 ((record { word = c.args.w; plan = c.args.plan })) _ (counted (goal.at.count_one-requires c).After-count_one-arg-1) c.requires.1.0

pub returns-then-pass_on : goal.returns-then-pass_on
returns-then-pass_on c =
    entered_done c.args.t.now c.args.w c.args.plan _ (counted (goal.at.returns-then-pass_on c).After-count_one-arg-1) c.requires.1.0 _ _ c.count_one.ensures

pub returns : goal.returns
returns c =
    entered_full c.args.t.now c.args.w c.args.plan _ (enter_full rows solutions mix_of _ (ready_kept _ c.requires.0) ((record { word = c.args.w; plan = c.args.plan })) c.ranges.w.fits _ c.place-at.ensures _ c.fallen_at-s.ensures _
    (passed_as rows solutions _ _ _ _ _ c.if-pass_on.false (gone _ _ _ c.entries.ensures.0 c.pass_on.ensures)))
