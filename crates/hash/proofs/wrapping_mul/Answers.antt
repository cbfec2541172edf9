-- `hash::wrapping_mul` meets its contract: what is left out is a multiple of 2^64.
-- Assumes nothing.
use Rattle.std.proofs.Common.{◌^◌}
use Rattle.hash.proofs.Product.{low_product}
use Rattle.hash.proofs.wrapping_mul.Goals as goal

pub returns : goal.returns
returns c = low_product (2 ^ 32) c.args.a c.args.b
