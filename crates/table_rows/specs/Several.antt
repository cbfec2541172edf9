-- The products of several vectors with the same words.
-- Assumes nothing.
use Rattle.std.specs.Prelude.{List, [], ◌∷◌, ℕ, zero, suc}
use Rattle.gf2.specs.Vectors.{product}

-- of the first n vectors of ks; 0 in the place of each other vector
unfoldable pub products : ℕ → List ℕ → List ℕ → List ℕ
products n ws [] = []
products zero ws (k ∷ ks) = 0 ∷ products zero ws ks
products (suc n) ws (k ∷ ks) = product ws k ∷ products n ws ks
