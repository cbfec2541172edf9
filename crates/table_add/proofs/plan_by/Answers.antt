-- `table_add::plan_by` meets its contract.
-- Assumes nothing.
use Prim.Native.Nat.{ℕ}
use mathlib.Core.Path.{◌≡◌, sym, ap, ap₂, ◌∙◌}
use lib.ListN.{drop}
use Rattle.std.specs.Prelude.{is_some}
use lib.Seq.{get_or-drop}
use Rattle.std.specs.Prelude.{Some}
use Rattle.bucket.specs.Bucket.{row_by, row_of, lookup}
use Rattle.bucket.specs.declared.Bucket.{Bucket}
use Rattle.bucket.proofs.Laws.{row-by}
use Rattle.bucket_words.specs.Words.{bucket_from}
use Rattle.table_base.specs.Base.{found_of}
use Rattle.table.specs.Calls.{rows, solutions}
use Rattle.table_edit.proofs.Touched.{plan-live, plan-gone}
use Rattle.table_add.proofs.plan_by.Goals.{After-row_by}
use Rattle.table_add.proofs.plan_by.Goals as goal

-- the row that is found is v's
row_is : (r : After-row_by) → r.row_by.result ≡ row_of rows r.args.v ((bucket_from rows solutions (drop r.args.at r.args.t.now)))
unfolding bucket_from
row_is r =
    r.row_by.ensures ∙ ap₂ (λ (p m : ℕ). row_by rows p m) r.requires.1 (sym (get_or-drop r.args.at r.args.t.now rows 0)) ∙ row-by rows r.args.v ((bucket_from rows solutions (drop r.args.at r.args.t.now)))

pub returns-then-is_some : goal.returns-then-is_some
returns-then-is_some c =
    ap Some (c.lookup.ensures ∙ ap (λ (b : Bucket). lookup b c.args.v) c.bucket_at.ensures)
    ∙ ap found_of (sym (plan-live _ _ (ap is_some (sym (row_is (goal.at.returns-then-is_some c).After-row_by)) ∙ sym c.is_some.ensures ∙ c.if-is_some.true)))

pub returns : goal.returns
returns c =
    ap found_of (sym (plan-gone _ _ (ap is_some (sym (row_is (goal.at.returns c).After-row_by)) ∙ sym c.is_some.ensures ∙ c.if-is_some.false)))
