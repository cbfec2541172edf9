-- `bucket::Bucket::add` meets its contract: the step by the row and the product is the step by the vector.
-- Assumes nothing.
use mathlib.Core.Path.{◌∙◌}
use borrow.Author.Rules.{rules}
use Rattle.bucket.specs.Bucket.{add_at}
use Rattle.bucket.proofs.Laws.{add-by, add_cols}
use Rattle.bucket.proofs.Bucket.add.Goals as goal

pub returns-in_err-i : goal.returns-in_err-i
returns-in_err-i c = rw (add-by 64 c.args.k c.product-p.result c.args.plan c.args.self c.product-p.ensures c.lowest.ensures, c.in_err-i.was) (search rules)

pub returns : goal.returns
unfolding add_at
returns c =
    let cols = c.col_step-next.ensures ∙ add_cols c.args.k c.product-p.result c.args.plan c.in_ok-i.i c.args.self c.product-p.ensures in
    rw (add-by 64 c.args.k c.product-p.result c.args.plan c.args.self c.product-p.ensures c.lowest.ensures, c.in_ok-i.was, c.power.ensures, c.sol_step-sols.ensures, c.lookup.ensures, cols)
