-- The parts of a line between spaces, and of an input between LFs.
-- Assumes nothing.
use Rattle.std.proofs.Common.{◌≡◌, ℕ, zero, suc, ◌+◌, ◌<◌, List, [], ◌∷◌, eqb, length, get_or, take, drop, refl, arith, eq-eqb, ne_eqb, ap, suc-ne-zero}
use Rattle.std.specs.List.{onto_first}
use Rattle.lists.proofs.Tests.{cases}
use Rattle.lines_text.specs.Line.{space, parted, bad, of_fields, command_of}

some_part : (p : List ℕ) (ps : List (List ℕ)) → p ∷ ps ≡ [] → ⊥
some_part p ps e = suc-ne-zero _ (ap length e)

onto_part : (x : ℕ) (ps : List (List ℕ)) → onto_first x ps ≡ [] → ⊥
onto_part x [] = some_part (x ∷ []) []
onto_part x (p ∷ ps) = some_part (x ∷ p) ps

module _ (b : ℕ) where
  -- no b
  pub parted_one : (s : List ℕ) → ((k : ℕ) → k < length s → get_or s k 0 ≡ b → ⊥) → parted b s ≡ s ∷ []
  unfolding parted
  parted_one [] h = refl
  parted_one (x ∷ s) h = rw (ne_eqb x b (h 0 (omega arith)), parted_one s (λ k l. h (suc k) (omega arith)))

  -- the first b parts what is before it from the parts after it
  pub parted-more : (s : List ℕ) (i : ℕ) → i < length s → get_or s i 0 ≡ b → ((k : ℕ) → k < i → get_or s k 0 ≡ b → ⊥)
      → parted b s ≡ take i s ∷ parted b (drop (i + 1) s)
  unfolding parted
  parted-more [] i l e h = absurd (omega arith)
  parted-more (x ∷ s) zero l e h = rw (eq-eqb x b e)
  parted-more (x ∷ s) (suc i) l e h =
      let n : suc i + 1 ≡ suc (i + 1) = omega arith in
      rw (ne_eqb x b (h 0 (omega arith)), parted-more s i (omega arith) e (λ k m. h (suc k) (omega arith)), n)

  pub parted_some : (s : List ℕ) → parted b s ≡ [] → ⊥
  unfolding parted
  parted_some [] = some_part [] []
  parted_some (x ∷ s) = cases (eqb x b) (λ e. rw e (some_part [] (parted b s))) (λ e. rw e (onto_part x (parted b s)))

-- a fifth field
pub command_over : (s w x y z : List ℕ) (r₁ r₂ r₃ r₄ : List ℕ) → parted space s ≡ w ∷ parted space r₁ → parted space r₁ ≡ x ∷ parted space r₂
    → parted space r₂ ≡ y ∷ parted space r₃ → parted space r₃ ≡ z ∷ parted space r₄ → command_of s ≡ bad
command_over s w x y z r₁ r₂ r₃ r₄ a b c d = rw (a, b, c, d) (over (parted space r₄) (parted_some space r₄))
  where
    over : (ps : List (List ℕ)) → (ps ≡ [] → ⊥) → of_fields (w ∷ x ∷ y ∷ z ∷ ps) ≡ bad
    over [] h = absurd (h refl)
    over (p ∷ ps) h = refl
