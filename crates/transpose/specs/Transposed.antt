-- The transpose of a matrix of bits, at every number of rows.
-- Assumes nothing.
use Rattle.std.specs.Prelude.{List, ℕ}
use Rattle.lists.specs.Lists.{tabulate}
use Rattle.gf2.specs.Vectors.{row_in}

-- the n rows of the matrix whose columns are the words ss
unfoldable pub transposed : ℕ → List ℕ → List ℕ
transposed n ss = tabulate (row_in ss) n
