-- `bucket::Bucket::lookup` meets its contract.
-- Assumes nothing.
use mathlib.Core.Path.{◌≡◌}
use native.Mathlib.Omega.{arith}
use lib.ListN.{length}
use borrow.Author.Rules.{rules}
use Rattle.bucket.proofs.Bucket.lookup.Goals as goal

pub product_in-requires : goal.product_in-requires
product_in-requires c = let h : length c.args.self.sols ≡ 8 = search rules in omega arith
