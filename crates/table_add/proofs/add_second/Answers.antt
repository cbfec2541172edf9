-- `table_add::add_second` meets its contract.
-- Assumes nothing.
use mathlib.Core.Path.{◌≡◌, refl, ap, ◌∙◌}
use Rattle.gf2.specs.Vectors.{product}
use Rattle.hash.specs.Mix.{mix_of}
use Rattle.bucket.specs.declared.Bucket.{Bucket}
use Rattle.table.specs.Calls.{rows, solutions, table_of, plan_in}
use Rattle.table.specs.Table.{holds}
use Rattle.table_arrive.specs.Arrival.{product_in}
use Rattle.table_layout.proofs.Shape.{second_in, second-here}
use Rattle.table_base.specs.Base.{found_of}
use Rattle.table_edit.proofs.Touched.{flat_of, plan-second}
use Rattle.table_edit.proofs.Calls.{live, gone}
use Rattle.table_add.proofs.Added.{added-live, added-gone}
use Rattle.table_add.proofs.add_second.Goals.{After-plan_by}
use Rattle.table_add.proofs.add_second.Goals as goal

-- the plan that is found is w's
found : (r : After-plan_by) → r.plan_by.result ≡ found_of (plan_in r.args.t.now r.args.w)
found r =
    r.plan_by.ensures
    ∙ ap found_of (plan-second rows solutions mix_of r.args.t.now (flat_of r.requires.0.ready) r.args.w r.requires.0.past r.second-v.result r.second-v.ensures
    (ap (holds rows solutions mix_of (table_of r.args.t.now).level2) r.second-v.ensures ∙ r.requires.1) _ r.place-at.ensures)

pub product_at-p-requires : goal.product_at-p-requires
product_at-p-requires c =
    second_in rows solutions _ (flat_of c.requires.0.ready).shape mix_of c.second-v.result _ c.place-at.ensures

pub plan_by-requires : goal.plan_by-requires
plan_by-requires c =
    (second_in rows solutions _ (flat_of c.requires.0.ready).shape mix_of c.second-v.result _ c.place-at.ensures, c.product_at-p.ensures)

pub enter_second-requires : goal.enter_second-requires
enter_second-requires c = (
  c.requires.0,
  (
    c.requires.1,
    c.product_at-p.ensures ∙ ap (λ (b : Bucket). product b.cols c.second-v.result) (second-here rows solutions _ (flat_of c.requires.0.ready).shape mix_of c.second-v.result _ c.place-at.ensures)
        ∙ ap (product_in rows solutions mix_of (table_of c.args.t.now).level2) c.second-v.ensures,
  ),
)

pub returns-in-Some : goal.returns-in-Some
returns-in-Some c =
    let l = live c.args.t.now c.args.w _ (found (goal.at.returns-in-Some c).After-plan_by) c.in-Some.q c.in-Some.is in
    rw (added-live c.args.t.now c.args.w c.args.plan c.in-Some.q l) (refl, refl)

pub returns-in-None : goal.returns-in-None
returns-in-None c =
    let l = gone c.args.t.now c.args.w _ (found (goal.at.returns-in-None c).After-plan_by) c.in-None.is in
    rw (added-gone c.args.t.now c.args.w c.args.plan l) c.enter_second.ensures
