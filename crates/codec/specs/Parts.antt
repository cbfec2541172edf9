-- A part of a list, read and written.
use Rattle.std.specs.Prelude.{ℕ, zero, suc, List, [], ◌∷◌, take, drop}

-- the n elements of t from index a on, fewer if t ends before
abbrev pub part_at : ℕ → ℕ → List ℕ → List ℕ
part_at n a t = take n (drop a t)

-- t with the elements of p in the place of its own from index a on, as far as t reaches
unfoldable pub written : ℕ → List ℕ → List ℕ → List ℕ
written zero [] t = t
written zero (x ∷ p) [] = []
written zero (x ∷ p) (y ∷ t) = x ∷ written zero p t
written (suc a) p [] = []
written (suc a) p (y ∷ t) = y ∷ written a p t
