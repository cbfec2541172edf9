-- `table_add::enter_second` meets its contract.
-- Assumes nothing.
use Prim.Native.Nat.{ℕ}
use mathlib.Core.Path.{◌≡◌, refl, sym, ap, ◌∙◌, subst, subst⁻¹}
use mathlib.Core.Bool.{true, true≢false}
use mathlib.Core.List.{List}
use lib.ListN.{drop}
use mir.Val.{Fits}
use mir.Syntax.{w64}
use Rattle.bucket_words.specs.Words.{bucket_from}
use Rattle.gf2.specs.Vectors.{product}
use Rattle.hash.specs.Mix.{mix_of}
use Rattle.bucket.specs.declared.Bucket.{Bucket}
use Rattle.bucket_settle.specs.Settle.{threshold_of}
use Rattle.table.specs.Table.{bucket_of, holds}
use Rattle.table.specs.Calls.{rows, solutions, table_of}
use Rattle.table_arrive.specs.Arrival.{product_in, DependsIn, to_second, Passed}
use Rattle.table_layout.proofs.Shape.{second_in, second-here}
use Rattle.table_arrive.proofs.Tables.{flat}
use Rattle.table_arrive.proofs.Settled.{straight_as, straight_left, straight_depends, arrive_straight}
use Rattle.table_add.specs.Arrivals.{entering, Depending}
use Rattle.table_add.proofs.Added.{ready_kept, passing_room, passing-done}
use borrow.Author.Rules.{rules}
use Rattle.table_add.proofs.enter_second.Goals.{After-second-v, After-place-at, Else-put_by, Then-put_by}
use Rattle.table_add.proofs.enter_second.Goals as goal

here : (c : After-place-at) → bucket_from rows solutions (drop c.place-at.result c.args.t.now) ≡ bucket_of rows solutions mix_of (table_of c.args.t.now).level2 c.second-v.result
here c =
    second-here rows solutions _ (flat rows solutions _ (ready_kept _ c.requires.0.ready)).shape mix_of c.second-v.result _ c.place-at.ensures

held : (c : After-second-v) → holds rows solutions mix_of (table_of c.args.t.now).level2 c.second-v.result ≡ true
held c = ap (holds rows solutions mix_of (table_of c.args.t.now).level2) c.second-v.ensures ∙ c.requires.1.0

-- it did not go straight in: the table is as it was
same : (c : Else-put_by) → c.put_by.new.t ≡ c.args.t.now
same c = straight_left rows solutions threshold_of _ ((record { word = c.second-v.result; plan = c.args.plan })) _ c.if-put_by.false c.put_by.ensures

-- it went straight in
straight : (c : Then-put_by) → Passed rows solutions c.args.t.now (to_second rows solutions mix_of (table_of c.args.t.now) ((record { word = c.second-v.result; plan = c.args.plan }))) true c.put_by.new.t
straight c =
    let f : Fits w64 c.second-v.result = search rules in
    arrive_straight rows solutions mix_of _ (ready_kept _ c.requires.0.ready) ((record { word = c.second-v.result; plan = c.args.plan })) _ c.place-at.ensures f.fits _
    (straight_as rows solutions threshold_of _ ((record { word = c.second-v.result; plan = c.args.plan })) _ c.if-put_by.true c.put_by.ensures)

pub put_by-requires : goal.put_by-requires
put_by-requires c = (
  second_in rows solutions _ (flat rows solutions _ (ready_kept _ c.requires.0.ready)).shape mix_of c.second-v.result _ c.place-at.ensures,
  c.requires.1.1 ∙ ap (product_in rows solutions mix_of (table_of c.args.t.now).level2) (sym c.second-v.ensures) ∙ ap (λ (b : Bucket). product b.cols c.second-v.result) (sym (here (goal.at.put_by-requires c).After-place-at)),
)

pub count_one-requires : goal.count_one-requires
count_one-requires c =
    passing_room c.requires.0 c.ranges.w.fits c.second-v.ensures (straight (goal.at.count_one-requires c).Then-put_by) refl

pub returns-then-put_by : goal.returns-then-put_by
returns-then-put_by c =
    passing-done c.requires.0 c.ranges.w.fits c.second-v.ensures (straight (goal.at.returns-then-put_by c).Then-put_by) refl _ _ c.count_one.ensures

pub enter_depending-requires : goal.enter_depending-requires
enter_depending-requires c =
    subst⁻¹ (λ (t : List ℕ). Depending t c.args.w c.args.plan) (same (goal.at.enter_depending-requires c).Else-put_by) (record {
      ready = c.requires.0.ready;
      plan = c.requires.0.plan;
      first = λ h. absurd (true≢false (sym h ∙ c.requires.0.past));
      second = λ h. subst (λ (x : ℕ). DependsIn rows solutions mix_of (table_of c.args.t.now).level2 (record { word = x; plan = c.args.plan })) c.second-v.ensures
          (straight_depends rows solutions mix_of (table_of c.args.t.now).level2 ((record { word = c.second-v.result; plan = c.args.plan })) _ _ (here (goal.at.enter_depending-requires c).After-place-at) (held (goal.at.enter_depending-requires c).After-second-v) c.if-put_by.false c.put_by.ensures);
    })

pub returns : goal.returns
returns c =
    subst (λ (t : List ℕ). (c.enter_depending.result ≡ (entering t (record { word = c.args.w; plan = c.args.plan })).answer) × (c.enter_depending.new.t ≡ (entering t (record { word = c.args.w; plan = c.args.plan })).table))
    (same (goal.at.returns c).Else-put_by) c.enter_depending.ensures
