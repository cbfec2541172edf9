-- `table_add::add_first` meets its contract.
-- Assumes nothing.
use mathlib.Core.Path.{◌≡◌, refl, ap, ◌∙◌}
use Rattle.gf2.specs.Vectors.{product}
use Rattle.hash.specs.Mix.{mix_of}
use Rattle.bucket.specs.declared.Bucket.{Bucket}
use Rattle.table.specs.Calls.{rows, solutions, plan_in}
use Rattle.table_layout.proofs.Shape.{first_in, first-here}
use Rattle.table_base.specs.Base.{found_of}
use Rattle.table_edit.proofs.Touched.{flat_of, plan-first}
use Rattle.table_edit.proofs.Calls.{live, gone}
use Rattle.table_add.proofs.Added.{added-live, added-gone}
use Rattle.table_add.proofs.add_first.Goals.{After-plan_by}
use Rattle.table_add.proofs.add_first.Goals as goal

-- the plan that is found is w's
found : (r : After-plan_by) → r.plan_by.result ≡ found_of (plan_in r.args.t.now r.args.w)
found r =
    r.plan_by.ensures ∙ ap found_of (plan-first rows solutions mix_of r.args.t.now (flat_of r.requires.ready) r.args.w r.requires.held _ r.place-at.ensures)

pub product_at-p-requires : goal.product_at-p-requires
product_at-p-requires c =
    first_in rows solutions _ (flat_of c.requires.ready).shape mix_of c.args.w _ c.place-at.ensures

pub plan_by-requires : goal.plan_by-requires
plan_by-requires c =
    (first_in rows solutions _ (flat_of c.requires.ready).shape mix_of c.args.w _ c.place-at.ensures, c.product_at-p.ensures)

pub enter_first-requires : goal.enter_first-requires
enter_first-requires c =
    (c.requires, c.product_at-p.ensures ∙ ap (λ (b : Bucket). product b.cols c.args.w) (first-here rows solutions _ (flat_of c.requires.ready).shape mix_of c.args.w _ c.place-at.ensures))

pub returns-in-Some : goal.returns-in-Some
returns-in-Some c =
    let l = live c.args.t.now c.args.w _ (found (goal.at.returns-in-Some c).After-plan_by) c.in-Some.q c.in-Some.is in
    rw (added-live c.args.t.now c.args.w c.args.plan c.in-Some.q l) (refl, refl)

pub returns-in-None : goal.returns-in-None
returns-in-None c =
    let l = gone c.args.t.now c.args.w _ (found (goal.at.returns-in-None c).After-plan_by) c.in-None.is in
    rw (added-gone c.args.t.now c.args.w c.args.plan l) c.enter_first.ensures
