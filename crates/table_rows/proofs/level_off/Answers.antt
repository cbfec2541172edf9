-- `table_rows::level_off` meets its contract: what is left of the totals from bucket i on is what is left of all.
-- Assumes nothing.
use Prim.Native.Nat.{ℕ, ◌+◌, ◌-◌, ◌*◌}
use native.Mathlib.Omega.{arith}
use mathlib.Core.Path.{◌≡◌, ap, ◌∙◌}
use lib.ListN.{drop}
use Rattle.bucket_words.specs.Words.{bucket_words}
use Rattle.table.specs.Layout.{level_from}
use Rattle.table.specs.Calls.{rows, solutions}
use Rattle.table_rows.specs.Counting.{row_of, level_off}
use Rattle.table_rows.proofs.Counting.{level_on, level_out}
use Rattle.table_rows.proofs.level_off.Goals as goal

pub loop-i-preserved : goal.loop-i-preserved
loop-i-preserved c =
    let t = c.args.t.now in
    let w : ℕ = bucket_words rows solutions in
    let i : ℕ = c.loop-i.i in
    let at : ℕ = c.args.place + i * w in
    let row = row_of t c.args.level c.args.m in
    let e : c.args.place + (i + 1) * w ≡ at + w = omega arith in
    ap (λ (k : ℕ). level_off rows row (i + 1) (level_from rows solutions (c.args.m - (i + 1)) (drop k t)) c.bucket_off.new.left) e
    ∙ level_on rows solutions t row at c.args.m i c.loop-i.left c.loop-i-test.true c.loop-i.invariant c.bucket_off.new.left c.bucket_off.ensures c.if-not-bucket_off.false

pub returns-then-not-bucket_off : goal.returns-then-not-bucket_off
returns-then-not-bucket_off c =
    level_out rows solutions c.args.t.now (row_of c.args.t.now c.args.level c.args.m) (c.args.place + c.loop-i.i * bucket_words rows solutions) c.args.m c.loop-i.i c.loop-i.left c.loop-i-test.true c.loop-i.invariant c.bucket_off.new.left c.bucket_off.ensures c.if-not-bucket_off.true
