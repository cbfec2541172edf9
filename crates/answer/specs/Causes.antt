-- The causes of a call, in the order in which they are tested, and the answer that they settle: that of the first one met.
-- Assumes nothing.
use Rattle.std.specs.Prelude.{ℕ, ◌<◌, ◌≡◌, ◌⊎◌, ◌↔◌, List, [], ◌∷◌}
use Rattle.answer.specs.Numbers.{Answer, number_of, value_of}

-- a row of document 01's table: the number, and `met v`: the cause is met and v is returned with it
pub record Cause : Type 1 where
  pub number : ℕ
  pub met : ℕ → Type 0

-- the cause that is met if P, with this value
abbrev pub cause_if : ℕ → Type 0 → ℕ → Cause
cause_if number P value = record { number = number; met = λ v. P × (v ≡ value) }

-- the cause is not met
abbrev pub Unmet : Cause → Type 0
Unmet c = (v : ℕ) → c.met v → ⊥

-- none of them is met
abbrev pub NoneMet : List Cause → Type 0
NoneMet [] = Unit {0}
NoneMet (c ∷ cs) = Unmet c × NoneMet cs

-- "Order is the table's order": the numbers ascend, from above n on
abbrev pub InOrder : ℕ → List Cause → Type 0
InOrder n [] = Unit {0}
InOrder n (c ∷ cs) = (n < c.number) × InOrder c.number cs

-- none of them has the number k
abbrev pub NotAmong : ℕ → List Cause → Type 0
NotAmong k [] = Unit {0}
NotAmong k (c ∷ cs) = (k ≡ c.number → ⊥) × NotAmong k cs

-- no two of them have one number, and none has 0
abbrev pub Apart : List Cause → Type 0
Apart [] = Unit {0}
Apart (c ∷ cs) = (c.number ≡ 0 → ⊥) × (NotAmong c.number cs × Apart cs)

-- k is the number of the first cause met and v is returned with it; where none is met, k is 0 and v what the accepted call returns
abbrev pub FirstMet : List Cause → (ℕ → Type 0) → ℕ → ℕ → Type 0
FirstMet [] returns k v = (k ≡ 0) × returns v
FirstMet (c ∷ cs) returns k v = ((k ≡ c.number) × c.met v) ⊎ (Unmet c × FirstMet cs returns k v)

-- "each number given if and only if its cause is the first met", with what is returned with it
abbrev pub Exactly : List Cause → (ℕ → Type 0) → Answer → Type 0
Exactly cs returns a = (k v : ℕ) → ((number_of a ≡ k) × (value_of a ≡ v)) ↔ FirstMet cs returns k v
