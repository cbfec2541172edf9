-- `table_rows::rows_clear` meets its contract.
-- Assumes nothing.
use mathlib.Core.Path.{◌≡◌, refl, ap, ◌∙◌}
use mathlib.Core.Bool.{Bool, ◌&&◌}
use mathlib.Core.List.{List, [], ◌∷◌}
use Prim.Native.Nat.{ℕ}
use lib.Dec.{eqb}
use Rattle.std.specs.List.{list_all}
use Rattle.std.proofs.Common.{rules, tests}
use Rattle.std.proofs.lemmas.Iterator.{YieldsList-from_slice}
use Rattle.std.proofs.lemmas.Iterator.Search.{all_from_yields_List}
use Rattle.gf2.specs.Vectors.{outside}
use Rattle.table.specs.Test.{all_of}
use Rattle.table_rows.proofs.rows_clear.Goals as goal

all_is : (p : ℕ → Bool) (xs : List ℕ) → list_all p xs ≡ all_of p xs
all_is p [] = refl
all_is p (x ∷ xs) = ap (λ (b : Bool). p x && b) (all_is p xs)

pub returns : goal.returns
returns c =
    let p : ℕ → Bool = λ s. eqb (outside s c.args.mark) 0 in
    all_from_yields_List p _ _ _ c.all.ensures.ran (YieldsList-from_slice c.args.sols cc) (λ x b q k. search (rules, tests)) ∙ all_is p c.args.sols
