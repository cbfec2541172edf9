-- Lists each of whose elements has a property.
-- Assumes nothing.
use Prim.Native.Nat.{ℕ, zero, suc, ◌<◌}
use native.Mathlib.Nat.{not-suc-le-zero, le_of_suc-le-suc}
use mathlib.Core.Path.{refl}
use mathlib.Core.List.{List, [], ◌∷◌, ◌++◌, Memᴰ}
use lib.ListN.{length, get_or}
use Rattle.lists.specs.Lists.{Every}

-- a property that follows
pub every : {A : Type 0} {P Q : A → Type 0} → ((x : A) → P x → Q x) → (xs : List A) → Every P xs → Every Q xs
every f [] h = tt
every f (x ∷ xs) h = (f x h.0, every f xs h.1)

-- in two parts, and back
pub every_split : {A : Type 0} (P : A → Type 0) (xs ys : List A) → Every P (xs ++ ys) → Every P xs × Every P ys
every_split P [] ys h = (tt, h)
every_split P (x ∷ xs) ys h = ((h.0, (every_split P xs ys h.1).0), (every_split P xs ys h.1).1)

pub every_append : {A : Type 0} (P : A → Type 0) (xs ys : List A) → Every P xs → Every P ys → Every P (xs ++ ys)
every_append P [] ys h k = k
every_append P (x ∷ xs) ys h k = (h.0, every_append P xs ys h.1 k)

-- by the members
pub mem_every : {A : Type 0} (P : A → Type 0) (xs : List A) → ((x : A) → Memᴰ x xs → P x) → Every P xs
mem_every P [] h = tt
mem_every P (x ∷ xs) h = (h x (Memᴰ.head refl), mem_every P xs (λ y m. h y (Memᴰ.tail m)))

-- at an index
pub every-at : {A : Type 0} (P : A → Type 0) (d : A) (xs : List A) → Every P xs → (i : ℕ) → i < length xs → P (get_or xs i d)
every-at P d [] h i l = absurd (not-suc-le-zero l)
every-at P d (x ∷ xs) h zero l = h.0
every-at P d (x ∷ xs) h (suc i) l = every-at P d xs h.1 i (le_of_suc-le-suc l)

-- by all places, past the end too
pub all-every : {A : Type 0} (P : A → Type 0) (d : A) (xs : List A) → ((i : ℕ) → P (get_or xs i d)) → Every P xs
all-every P d [] h = tt
all-every P d (x ∷ xs) h = (h 0, all-every P d xs (λ i. h (suc i)))
