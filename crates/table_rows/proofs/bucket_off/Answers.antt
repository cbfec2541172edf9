-- `table_rows::bucket_off` meets its contract.
-- Assumes nothing.
use Prim.Native.Nat.{ℕ, ◌<◌}
use native.Mathlib.Omega.{arith}
use mathlib.Core.Path.{◌≡◌, sym, ap, ◌∙◌}
use mathlib.Core.Bool.{true}
use mathlib.Core.List.{List}
use Rattle.std.specs.Prelude.{Some, None}
use lib.Dec.{leb}
use borrow.Author.Tests.{le-leb, lt-leb}
use Rattle.bucket.specs.declared.Bucket.{Bucket}
use Rattle.bucket.specs.Bucket.{largest_bound}
use Rattle.table.specs.Calls.{rows}
use Rattle.table_layout.specs.declared.Level.{Level}
use Rattle.table_rows.specs.Counting.{row_of, bucket_off}
use Rattle.table_rows.proofs.Counting.{left-stopped, left_as, bucket-over, bucket_unclear, bucket-found}
use Rattle.table_rows.proofs.bucket_off.Goals.{After-rows_clear}
use Rattle.table_rows.proofs.bucket_off.Goals as goal

-- the bucket x that was read is the one at the place
read_as : (t left : List ℕ) (level : Level) (m i : ℕ) {x y : Bucket} → x ≡ y → bucket_off rows (row_of t level m i y) y left ≡ bucket_off rows (row_of t level m i x) x left
read_as t left level m i e = ap (λ (z : Bucket). bucket_off rows (row_of t level m i z) z left) (sym e)

under : (k : After-rows_clear) → leb k.bucket_at-b.result.bound largest_bound ≡ true
under k = le-leb k.bucket_at-b.result.bound largest_bound (omega (arith, k.if-b-gt-LARGEST_BOUND.false))

pub returns-then-b-gt-LARGEST_BOUND : goal.returns-then-b-gt-LARGEST_BOUND
returns-then-b-gt-LARGEST_BOUND c =
    let over : largest_bound < c.bucket_at-b.result.bound = omega (arith, c.if-b-gt-LARGEST_BOUND.true) in
    left-stopped c.args.left.now (read_as c.args.t.now c.args.left.now c.args.level c.args.m c.args.i c.bucket_at-b.ensures
    ∙ bucket-over rows (row_of c.args.t.now c.args.level c.args.m c.args.i c.bucket_at-b.result) c.bucket_at-b.result c.args.left.now (lt-leb _ _ over))

pub returns-then-not-rows_clear : goal.returns-then-not-rows_clear
returns-then-not-rows_clear c =
    left-stopped c.args.left.now (read_as c.args.t.now c.args.left.now c.args.level c.args.m c.args.i c.bucket_at-b.ensures
    ∙ bucket_unclear rows (row_of c.args.t.now c.args.level c.args.m c.args.i c.bucket_at-b.result) c.bucket_at-b.result c.args.left.now (under (goal.at.returns-then-not-rows_clear c).After-rows_clear) (sym c.rows_clear.ensures ∙ c.if-not-rows_clear.true))

pub returns-in-Some : goal.returns-in-Some
returns-in-Some c =
    left_as c.rows_off.result c.rows_off.new.left (read_as c.args.t.now c.args.left.now c.args.level c.args.m c.args.i c.bucket_at-b.ensures
    ∙ bucket-found rows (row_of c.args.t.now c.args.level c.args.m c.args.i c.bucket_at-b.result) c.bucket_at-b.result c.args.left.now (under (goal.at.returns-in-Some c).After-rows_clear) (sym c.rows_clear.ensures ∙ c.if-not-rows_clear.false) (Some c.in-Some.vectors) c.in-Some.ensures) c.rows_off.ensures

pub returns-in-None : goal.returns-in-None
returns-in-None c =
    left-stopped c.args.left.now (read_as c.args.t.now c.args.left.now c.args.level c.args.m c.args.i c.bucket_at-b.ensures
    ∙ bucket-found rows (row_of c.args.t.now c.args.level c.args.m c.args.i c.bucket_at-b.result) c.bucket_at-b.result c.args.left.now (under (goal.at.returns-in-None c).After-rows_clear) (sym c.rows_clear.ensures ∙ c.if-not-rows_clear.false) None c.in-None.ensures)
