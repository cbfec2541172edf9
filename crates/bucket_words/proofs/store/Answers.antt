-- `bucket_words::store` meets its contract: the step's words, then the bound.
-- Assumes nothing.
use mathlib.Core.Path.{ap, ◌∙◌}
use mathlib.Core.List.{List}
use Prim.Native.Nat.{ℕ}
use lib.ListN.{set}
use Rattle.bucket_words.proofs.Words.{set-bound}
use borrow.Author.Rules.{rules}
use Rattle.bucket_words.proofs.store.Goals as goal

pub returns : goal.returns
returns c =
    ap (λ (l : List ℕ). set l 73 c.args.b.bound) c.store_step.ensures ∙ set-bound 64 8 _ (record { cols = search rules; sols = search rules }) c.args.b.bound
