-- The lookup gives each number if and only if its cause is the first met.
-- Assumes nothing.
use Prim.Native.Nat.{ℕ}
use mathlib.Core.Path.{◌≡◌, refl, sym, ◌∙◌}
use mathlib.Core.Logic.{inl, inr, ◌↔◌}
use mathlib.Core.List.{List, [], ◌∷◌}
use lib.Dec.{eqb, lit<}
use borrow.Author.Tests.{eqb-false}
use Rattle.std.specs.Prelude.{Result, Ok, Err}
use Rattle.answer.specs.Numbers.{Answer, number_of, value_of}
use Rattle.answer.specs.Causes.{InOrder, Apart, Exactly}
use Rattle.answer.proofs.Causes.{One, one_value, Given, exactly, test_apart}
use Rattle.identifier.specs.Identifier.{Token, word_of, read_of}
use Rattle.identifier.specs.Causes.{wrong_length, wrong_byte}
use Rattle.identifier.proofs.Causes.{OfIdentifier, of_identifier, by_reading, one_identifier, identifier_given}
use Rattle.plane.specs.Record.{Format, format1}
use Rattle.plane.specs.Plane.{plane_from, wrong_at}
use Rattle.plane.specs.Lookup.{plan_from, looked, lookup_read, lookup_call}
use Rattle.plane.specs.Causes.{wrong_plane, lookup_causes, lookup_returns}
use Rattle.plane.proofs.Scan.{at_nowhere}
use Rattle.plane.proofs.Offset.{at_one, offset_exactly}

-- no two offsets
pub one_offset : (F : Format) (p : List ℕ) → One (wrong_plane F p).met
one_offset F p u v i j = at_one (sym ((offset_exactly F p u).1 i) ∙ (offset_exactly F p v).1 j)

-- document 01's causes ascend
pub lookup_order : (id : Token) (p : List ℕ) → InOrder 0 (wrong_length id ∷ wrong_byte id ∷ wrong_plane format1 p ∷ [])
lookup_order id p = (lit< tt, (lit< tt, (lit< tt, tt)))

-- no two causes have one number
pub lookup_apart : (id : Token) (p : List ℕ) → Apart (lookup_causes id p)
lookup_apart id p = test_apart (lookup_causes id p) refl

module _ (id : Token) (p : List ℕ) where
  -- the lookup gives a cause of the identifier exactly if reading that gives it
  pub as_read : (n v : ℕ) → OfIdentifier n
      → ((number_of (lookup_call id p) ≡ n) × (value_of (lookup_call id p) ≡ v)) ↔ ((number_of (read_of id) ≡ n) × (value_of (read_of id) ≡ v))
  unfolding lookup_call
  as_read n v o =
      by_reading id (λ r. ((number_of (lookup_read p r) ≡ n) × (value_of (lookup_read p r) ≡ v)) ↔ ((number_of r ≡ n) × (value_of r ≡ v))) (λ a k. (λ e. e, λ e. e))
      (λ e. absurd (other (wrong_at format1 p) e.0), λ e. absurd (zero e.0))
    where
      zero : 0 ≡ n → ⊥
      zero = eqb-false 0 n (of_identifier (eqb 0) n refl refl refl o)

      other : (x : Result (Unit {0}) ℕ) → number_of (looked p (word_of id) x) ≡ n → ⊥
      other (Ok u) = zero
      other (Err at) = eqb-false 10 n (of_identifier (eqb 10) n refl refl refl o)

  looked_given : (x : Result (Unit {0}) ℕ) → wrong_at format1 p ≡ x → Given (wrong_plane format1 p ∷ []) (lookup_returns id p) (looked p (word_of id) x)
  looked_given (Ok u) e = inr (λ at w. at_nowhere (sym ((offset_exactly format1 p at).1 w) ∙ e), (refl, refl))
  looked_given (Err at) e = inl (refl, (offset_exactly format1 p at).0 e)

  pub lookup_exactly : Exactly (lookup_causes id p) (lookup_returns id p) (lookup_call id p)
  unfolding lookup_call
  lookup_exactly =
      exactly (lookup_causes id p) (lookup_returns id p) (lookup_call id p)
      (one_identifier id (wrong_plane format1 p ∷ []) (lookup_returns id p) (one_offset format1 p, one_value (plan_from (plane_from format1 p) (word_of id))))
      (identifier_given id (λ (a : Answer). a) (lookup_read p) (λ a. refl) (wrong_plane format1 p ∷ []) (lookup_returns id p) (λ e. looked_given (wrong_at format1 p) refl))
