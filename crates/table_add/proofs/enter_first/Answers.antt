-- `table_add::enter_first` meets its contract.
-- Assumes nothing.
use Prim.Native.Nat.{ℕ}
use mathlib.Core.Path.{◌≡◌, sym, ap, ◌∙◌, subst, subst⁻¹}
use mathlib.Core.Bool.{true≢false}
use mathlib.Core.List.{List}
use Rattle.lists.proofs.Entries.{assignable_byte}
use Rattle.gf2.specs.Vectors.{product}
use Rattle.hash.specs.Mix.{mix_of}
use Rattle.bucket.specs.declared.Bucket.{Bucket}
use Rattle.bucket_settle.specs.Settle.{threshold_of}
use Rattle.table_arrive.proofs.Settled.{straight_as, straight_left, straight_depends}
use Rattle.table.specs.Calls.{rows, solutions, table_of}
use Rattle.table_add.specs.Arrivals.{entering, Depending}
use Rattle.table_layout.proofs.Shape.{first_in, first-here}
use Rattle.table_arrive.proofs.Tables.{flat}
use Rattle.table_add.proofs.Added.{Counted, counted_straight, ready_kept, count_room, entered_done}
use Rattle.table_add.proofs.enter_first.Goals.{Else-put_by, Then-put_by}
use Rattle.table_add.proofs.enter_first.Goals as goal

-- the word went straight in
straight : (c : Then-put_by) → Counted rows solutions mix_of c.args.t.now ((record { word = c.args.w; plan = c.args.plan })) c.put_by.new.t
straight c =
    counted_straight rows solutions mix_of _ (ready_kept _ c.requires.0.ready) ((record { word = c.args.w; plan = c.args.plan })) c.ranges.w.fits _ c.place-at.ensures _
    (straight_as rows solutions threshold_of _ ((record { word = c.args.w; plan = c.args.plan })) _ c.if-put_by.true c.put_by.ensures)

-- it did not: the table is as it was
same : (c : Else-put_by) → c.put_by.new.t ≡ c.args.t.now
same c = straight_left rows solutions threshold_of _ ((record { word = c.args.w; plan = c.args.plan })) _ c.if-put_by.false c.put_by.ensures

pub put_by-requires : goal.put_by-requires
put_by-requires c =
    let k = (flat rows solutions _ (ready_kept _ c.requires.0.ready)).shape in
    (first_in rows solutions _ k mix_of c.args.w _ c.place-at.ensures, c.requires.1 ∙ ap (λ (b : Bucket). product b.cols c.args.w) (sym (first-here rows solutions _ k mix_of c.args.w _ c.place-at.ensures)))

pub count_one-requires : goal.count_one-requires
count_one-requires c = count_room _ c.requires.0.ready ((record { word = c.args.w; plan = c.args.plan })) _ (straight (goal.at.count_one-requires c).Then-put_by) (assignable_byte c.args.plan c.requires.0.plan)

pub returns-then-put_by : goal.returns-then-put_by
returns-then-put_by c = entered_done c.args.t.now c.args.w c.args.plan _ (straight (goal.at.returns-then-put_by c).Then-put_by) (assignable_byte c.args.plan c.requires.0.plan) _ _ c.count_one.ensures

pub enter_depending-requires : goal.enter_depending-requires
enter_depending-requires c =
    let here = first-here rows solutions _ (flat rows solutions _ (ready_kept _ c.requires.0.ready)).shape mix_of c.args.w _ c.place-at.ensures in
    subst⁻¹ (λ (t : List ℕ). Depending t c.args.w c.args.plan) (same (goal.at.enter_depending-requires c).Else-put_by) (record {
      ready = c.requires.0.ready;
      plan = c.requires.0.plan;
      first = λ h. straight_depends rows solutions mix_of (table_of c.args.t.now).level1 ((record { word = c.args.w; plan = c.args.plan })) _ _ here h c.if-put_by.false c.put_by.ensures;
      second = λ h. absurd (true≢false (sym c.requires.0.held ∙ h));
    })

pub returns : goal.returns
returns c =
    subst (λ (t : List ℕ). (c.enter_depending.result ≡ (entering t (record { word = c.args.w; plan = c.args.plan })).answer) × (c.enter_depending.new.t ≡ (entering t (record { word = c.args.w; plan = c.args.plan })).table))
    (same (goal.at.returns c).Else-put_by) c.enter_depending.ensures
