-- `table_arrive::product_at` meets its contract.
-- Assumes nothing.
use Prim.Native.Nat.{ℕ}
use mathlib.Core.Path.{ap, ◌∙◌}
use mathlib.Core.List.{List}
use Rattle.lists.proofs.Parts.{stretch}
use Rattle.gf2.specs.Vectors.{product}
use Rattle.bucket_words.specs.Words.{bucket_from}
use Rattle.table.specs.Calls.{rows}
use Rattle.table_arrive.proofs.product_at.Goals as goal

pub returns : goal.returns
unfolding bucket_from
returns c =
    c.product.ensures ∙ ap (λ (l : List ℕ). product l c.args.v) (c.array_of.ensures ∙ stretch c.args.at rows c.args.t.now)
