-- The test of two lists for equality: it is true exactly for equal lists, and is what `==` and `starts_with` say.
-- Assumes nothing.
use Rattle.std.proofs.Common.{◌≡◌, ◌↔◌, ℕ, Bool, true, false, ◌&&◌, List, [], ◌∷◌, eqb, length, take, refl, sym, ap, ap₂, subst, ◌∙◌, arith, eq-eqb}
use Rattle.std.specs.List.{starts_with}
use Rattle.std.specs.Str.{bytes_eq}
use Rattle.std.proofs.lemmas.Bool.Decides.{same_from_decides}
use borrow.Author.Tests.{eqb-true}
use Rattle.codec.specs.Bytes.{eq_list}

pub equal_refl : (a : List ℕ) → eq_list a a ≡ true
unfolding eq_list
equal_refl [] = refl
equal_refl (x ∷ a) = rw (eq-eqb x x refl) (equal_refl a)

pub equal_eq : (a b : List ℕ) → eq_list a b ≡ true → a ≡ b
unfolding eq_list
equal_eq [] [] e = refl
equal_eq [] (y ∷ b) e = let z : ◌≡◌ {A = ℕ} 0 1 = cc in absurd (omega arith)
equal_eq (x ∷ a) [] e = let z : ◌≡◌ {A = ℕ} 0 1 = cc in absurd (omega arith)
equal_eq (x ∷ a) (y ∷ b) e = let p = and_parts (eqb x y) (eq_list a b) e in ap₂ ◌∷◌ (eqb-true x y p.0) (equal_eq a b p.1)
  where
    and_parts : (s t : Bool) → (s && t) ≡ true → (s ≡ true) × (t ≡ true)
    and_parts true t e = (refl, e)
    and_parts false t e = let z : ◌≡◌ {A = ℕ} 0 1 = cc in absurd (omega arith)

pub equal_iff : (a b : List ℕ) → (eq_list a b ≡ true) ↔ (a ≡ b)
equal_iff a b = (equal_eq a b, λ e. subst (λ (l : List ℕ). eq_list a l ≡ true) e (equal_refl a))

-- what `==` and `starts_with` say of bytes

pub equal_bytes : (a b : List ℕ) → bytes_eq a b ≡ eq_list a b
unfolding eq_list
equal_bytes [] [] = refl
equal_bytes [] (y ∷ b) = refl
equal_bytes (x ∷ a) [] = refl
equal_bytes (x ∷ a) (y ∷ b) = ap (λ (t : Bool). eqb x y && t) (equal_bytes a b)

pub equal_start : (s p : List ℕ) → starts_with eqb s p ≡ eq_list (take (length p) s) p
equal_start s p = equal_bytes p (take (length p) s) ∙ swapped p (take (length p) s)
  where
    swapped : (a b : List ℕ) → eq_list a b ≡ eq_list b a
    swapped a b = same_from_decides (eq_list a b) (eq_list b a) (equal_iff a b) (λ e. sym (equal_eq b a e), λ e. rw e (equal_refl b))
