-- What the selections are: the XOR of a part of the list. So `indep` says that no non-empty part XORs to zero.
-- Assumes nothing.
use Prim.Native.Nat.{ℕ}
use mathlib.Core.Path.{◌≡◌, refl, sym, ap, ◌∙◌, subst, subst⁻¹}
use mathlib.Core.Bool.{true, false, not}
use mathlib.Core.Logic.{⊎_elim, ◌↔◌}
use mathlib.Core.List.{List, [], ◌∷◌, Sublistᴰ}
use lib.Bits.{bit_xor, xor_self, xor_zero_r}
use lib.Dec.{T, T_not, not_T, eqb, eqb→eq}
use Rattle.lists.proofs.Tests.{T→true, true→T, or_r, or_cases, and_l, and_r, and_i}
use Rattle.gf2.specs.Select.{elem, sums, indep}
use Rattle.gf2.proofs.Bit.{xor_cancel}
use Rattle.gf2.proofs.Select.{sums_cons, indep_cons, sums-sub}

-- the XOR of all of them
abbrev pub xor_all : List ℕ → ℕ
xor_all [] = 0
xor_all (x ∷ xs) = bit_xor x (xor_all xs)

pub sums_part : (a : ℕ) (xs : List ℕ) → T (elem a (sums xs)) → (s : List ℕ) × Sublistᴰ s xs × (xor_all s ≡ a)
sums_part a [] t = ([], Sublistᴰ.slnil, sym (eqb→eq a 0 (⊎_elim (λ u. u) (λ u. absurd u) (or_cases (eqb a 0) false t))))
sums_part a (x ∷ xs) t =
    ⊎_elim {C = (s : List ℕ) × Sublistᴰ s (x ∷ xs) × (xor_all s ≡ a)}
    (λ u. let r = sums_part a xs u in (r.0, Sublistᴰ.cons r.1, r.2))
    (λ u. let r = sums_part (bit_xor x a) xs u in (x ∷ r.0, Sublistᴰ.cons-cons refl r.1, ap (bit_xor x) r.2 ∙ xor_cancel x a))
    (or_cases (elem a (sums xs)) (elem (bit_xor x a) (sums xs)) (subst T (sums_cons a x xs) t))

pub part-sums : (xs s : List ℕ) → Sublistᴰ s xs → T (elem (xor_all s) (sums xs))
part-sums xs s u = sums-sub (xor_all s) u (whole s)
  where
    whole : (l : List ℕ) → T (elem (xor_all l) (sums l))
    whole [] = tt
    whole (x ∷ l) =
        subst⁻¹ T (sums_cons (xor_all (x ∷ l)) x l)
        (or_r (elem (xor_all (x ∷ l)) (sums l)) _ (subst⁻¹ (λ (y : ℕ). T (elem y (sums l))) (xor_cancel x (xor_all l)) (whole l)))

-- x XOR s is zero only where s is x
xor_equal : (x s : ℕ) → bit_xor x s ≡ 0 → s ≡ x
xor_equal x s e = sym (xor_cancel x s) ∙ ap (bit_xor x) e ∙ xor_zero_r x

pub indep_none : (xs : List ℕ) → T (indep xs) → (x : ℕ) (s : List ℕ) → Sublistᴰ (x ∷ s) xs → xor_all (x ∷ s) ≡ 0 → ⊥
indep_none [] i x s x5 e = elim x5 [ ]
indep_none (y ∷ ys) i x s (Sublistᴰ.cons u) e = indep_none ys (and_l (indep ys) _ (subst T (indep_cons y ys) i)) x s u e
indep_none (y ∷ ys) i x s (Sublistᴰ.cons-cons q u) e =
    T_not (elem y (sums ys)) (and_r (indep ys) (not (elem y (sums ys))) (subst T (indep_cons y ys) i))
    (subst (λ (z : ℕ). T (elem z (sums ys))) (xor_equal x (xor_all s) e ∙ q) (part-sums ys s u))

pub none_indep : (xs : List ℕ) → ((x : ℕ) (s : List ℕ) → Sublistᴰ (x ∷ s) xs → xor_all (x ∷ s) ≡ 0 → ⊥) → T (indep xs)
none_indep [] h = tt
none_indep (y ∷ ys) h =
    subst⁻¹ T (indep_cons y ys)
    (and_i (indep ys) (not (elem y (sums ys))) (none_indep ys (λ x s u. h x s (Sublistᴰ.cons u)))
    (not_T (elem y (sums ys)) (λ t.
    let r = sums_part y ys t in
    h y r.0 (Sublistᴰ.cons-cons refl r.1) (ap (bit_xor y) r.2 ∙ xor_self y))))

-- no non-empty part XORs to zero
pub indep_means : (xs : List ℕ) → (indep xs ≡ true) ↔ ((x : ℕ) (s : List ℕ) → Sublistᴰ (x ∷ s) xs → xor_all (x ∷ s) ≡ 0 → ⊥)
indep_means xs = (λ i. indep_none xs (true→T i), λ h. T→true (indep xs) (none_indep xs h))
