-- `table_open::lay_out` meets its contract.
-- Assumes nothing.
use native.Mathlib.Omega.{arith}
use Rattle.table.specs.Calls.{rows, solutions}
use Rattle.table_layout.proofs.Shape.{range}
use Rattle.table_open.proofs.Opened.{laid_out}
use Rattle.table_open.proofs.lay_out.Goals as goal

pub bucket_place-base-requires : goal.bucket_place-base-requires
bucket_place-base-requires c =
    let h = range c.args.b1 c.args.b2 c.requires.0 in
    omega arith

pub returns : goal.returns
returns c =
    laid_out rows solutions c.args.b1 c.args.b2 c.args.t.now c.put_header.new.t c.empty_buckets.new.words c.bucket_place-base.result
    c.bucket_place-base.ensures c.requires.1 c.put_header.ensures c.empty_buckets.ensures c.fill.new.self (c.fill.ensures.after (λ _ e. e))
