-- The products of several vectors: of none, of one more, and the one at a place.
-- Assumes nothing.
use mathlib.Core.Path.{◌≡◌, refl, ap}
use mathlib.Core.List.{List, [], ◌∷◌}
use Prim.Native.Nat.{ℕ, zero, suc, ◌<◌}
use native.Mathlib.Nat.{not-suc-le-zero, le_of_suc-le-suc}
use lib.ListN.{length, get_or, set, replicate}
use Rattle.gf2.specs.Vectors.{product}
use Rattle.table_rows.specs.Several.{products}

pub products_none : (ws ks : List ℕ) → products 0 ws ks ≡ replicate (length ks) 0
unfolding products
products_none ws [] = refl
products_none ws (k ∷ ks) = ap {B = List ℕ} (λ l. 0 ∷ l) (products_none ws ks)

pub products-more : (n : ℕ) (ws ks : List ℕ) → n < length ks → set (products n ws ks) n (product ws (get_or ks n 0)) ≡ products (suc n) ws ks
unfolding products
products-more n ws [] h = absurd (not-suc-le-zero h)
products-more zero ws (k ∷ ks) h = refl
products-more (suc n) ws (k ∷ ks) h = ap {B = List ℕ} (λ l. product ws k ∷ l) (products-more n ws ks (le_of_suc-le-suc h))

pub products_at : (n a : ℕ) (ws ks : List ℕ) → a < n → a < length ks → get_or (products n ws ks) a 0 ≡ product ws (get_or ks a 0)
unfolding products
products_at n a ws [] l h = absurd (not-suc-le-zero h)
products_at zero a ws (k ∷ ks) l h = absurd (not-suc-le-zero l)
products_at (suc n) zero ws (k ∷ ks) l h = refl
products_at (suc n) (suc a) ws (k ∷ ks) l h = products_at n a ws ks (le_of_suc-le-suc l) (le_of_suc-le-suc h)
