-- `table_rows::row_off` meets its contract.
-- Assumes nothing.
use Prim.Native.Nat.{ℕ, ◌^◌, ◌<◌}
use mathlib.Core.Path.{◌≡◌, sym, ap, ◌∙◌, subst₂}
use mathlib.Core.Bool.{cond}
use lib.Dec.{ltb}
use lib.ListN.{length, get_or}
use Rattle.lists.specs.Totals.{one_less}
use Rattle.gf2.proofs.Linear.{product_lt}
use Rattle.bucket.specs.Bucket.{lookup}
use Rattle.table.specs.Calls.{solutions}
use Rattle.table_rows.specs.Counting.{row_of}
use Rattle.table_rows.proofs.Counting.{left-stopped, off_failed, off_counted}
use borrow.Author.Rules.{rules}
use Rattle.table_rows.proofs.row_off.Goals.{Start}
use Rattle.table_rows.proofs.row_off.Goals as goal

-- what the type of the bucket tells
solved : (s : Start) → length s.args.b.sols ≡ solutions
solved s = search rules

pub count_off-requires : goal.count_off-requires
count_off-requires c =
    subst₂ (λ (x y : ℕ). x < 2 ^ y) (sym c.requires.1) (solved (goal.at.count_off-requires c).Start) (product_lt c.args.b.sols c.args.v)

pub returns-then-row_held : goal.returns-then-row_held
returns-then-row_held c =
    let ts = c.args.left.now in
    off_counted (row_of c.args.t.now c.args.level c.args.m c.args.i c.args.b) (record { word = c.args.v; plan = lookup c.args.b c.args.v }) ts (sym c.row_held.ensures ∙ c.if-row_held.true) _ _
    (c.count_off.ensures.0 ∙ ap (λ (p : ℕ). ltb 0 (get_or ts p 0)) c.requires.1) (c.count_off.ensures.1 ∙ ap (λ (p : ℕ). cond c.count_off.result (one_less p ts) ts) c.requires.1)

pub returns-else-row_held : goal.returns-else-row_held
returns-else-row_held c =
    rw c.if-row_held.false (left-stopped c.args.left.now (off_failed (row_of c.args.t.now c.args.level c.args.m c.args.i c.args.b) (record { word = c.args.v; plan = lookup c.args.b c.args.v }) c.args.left.now (sym c.row_held.ensures ∙ c.if-row_held.false)))
