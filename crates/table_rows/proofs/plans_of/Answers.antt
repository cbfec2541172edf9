-- `table_rows::plans_of` meets its contract. The loop has the products of the first i vectors.
-- Assumes nothing.
use mathlib.Core.Path.{◌≡◌, sym, ap, ap₂, ◌∙◌}
use mathlib.Core.List.{List}
use Prim.Native.Nat.{ℕ, ◌<◌}
use native.Mathlib.Numerals.{add-one}
use lib.ListN.{length, replicate, set}
use Rattle.table_rows.specs.Several.{products}
use Rattle.table_rows.proofs.Several.{products_none, products-more}
use borrow.Author.Rules.{rules}
use Rattle.table_rows.proofs.plans_of.Goals as goal

pub loop-i-init : goal.loop-i-init
loop-i-init c =
    let l : length c.args.vectors ≡ 64 = search rules in
    sym (products_none c.args.sols c.args.vectors ∙ ap (λ (k : ℕ). replicate k 0) l)

pub loop-i-preserved : goal.loop-i-preserved
loop-i-preserved c =
    let l : c.loop-i.i < length c.args.vectors = search rules in
    ap₂ (λ (o : List ℕ) (x : ℕ). set o c.loop-i.i x) c.loop-i.invariant c.product_in.ensures
    ∙ products-more c.loop-i.i c.args.sols c.args.vectors l ∙ ap (λ (k : ℕ). products k c.args.sols c.args.vectors) (sym (add-one c.loop-i.i))
