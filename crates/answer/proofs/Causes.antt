-- Laws of causes. For a call: show `Given` along its tests (`unless`, `if_so`; `unless_met`, `if_met` where a test says just whether the cause is
-- met), then `exactly`. `number_exactly` and `accepted_exactly` read off what that says of one cause, and of none.
-- Assumes nothing.
use Prim.Native.Nat.{ℕ}
use mathlib.Core.Path.{◌≡◌, refl, sym, ◌∙◌, subst}
use mathlib.Core.Logic.{inl, inr, ◌↔◌}
use mathlib.Core.Bool.{Bool, true, false, cond, not, ◌&&◌, true≢false}
use mathlib.Core.List.{List, [], ◌∷◌, ◌++◌}
use lib.Dec.{eqb}
use borrow.Author.Tests.{eqb-false, not-true}
use Rattle.lists.proofs.Tests.{and_one, and_two}
use Rattle.answer.specs.Numbers.{Answer, number_of, value_of}
use Rattle.answer.specs.Causes.{Cause, cause_if, Unmet, NoneMet, NotAmong, Apart, FirstMet, Exactly}

-- ---- one answer

-- no two values
abbrev pub One : (ℕ → Type 0) → Type 0
One P = (u v : ℕ) → P u → P v → u ≡ v

-- each cause is met with one value at most, and an accepted call returns one
abbrev pub OneEach : List Cause → (ℕ → Type 0) → Type 0
OneEach [] returns = One returns
OneEach (c ∷ cs) returns = One c.met × OneEach cs returns

-- what is returned with `cause_if`, or where the value is said to be this one
pub one_value : (x : ℕ) → One (λ v. v ≡ x)
one_value x u v p q = p ∙ sym q

pub one_if : (k : ℕ) (P : Type 0) (x : ℕ) → One (cause_if k P x).met
one_if k P x u v p q = p.1 ∙ sym q.1

-- the first met cause and its value are unique
pub first_one : (cs : List Cause) (returns : ℕ → Type 0) → OneEach cs returns → (j u k v : ℕ) → FirstMet cs returns j u → FirstMet cs returns k v
    → (j ≡ k) × (u ≡ v)
first_one [] returns o j u k v p q = (p.0 ∙ sym q.0, o u v p.1 q.1)
first_one (c ∷ cs) returns o j u k v (inl p) (inl q) = (p.0 ∙ sym q.0, o.0 u v p.1 q.1)
first_one (c ∷ cs) returns o j u k v (inl p) (inr q) = absurd (q.0 u p.1)
first_one (c ∷ cs) returns o j u k v (inr p) (inl q) = absurd (p.0 v q.1)
first_one (c ∷ cs) returns o j u k v (inr p) (inr q) = first_one cs returns o.1 j u k v p.1 q.1

-- the answer's number and value are those of the first cause met
abbrev pub Given : List Cause → (ℕ → Type 0) → Answer → Type 0
Given cs returns a = FirstMet cs returns (number_of a) (value_of a)

-- and so no other answer is
pub exactly : (cs : List Cause) (returns : ℕ → Type 0) (a : Answer) → OneEach cs returns → Given cs returns a → Exactly cs returns a
exactly cs returns a o g k v = (
  λ e. subst (λ (j : ℕ). FirstMet cs returns j v) e.0 (subst (FirstMet cs returns (number_of a)) e.1 g),
  λ f. first_one cs returns o (number_of a) (value_of a) k v g f,
)

-- ---- one test of a call is one step

by_cases : {A : Type 0} (P : A → Type 0) (b : Bool) (x y : A) → (b ≡ true → P x) → (b ≡ false → P y) → P (cond b x y)
by_cases P true x y f g = f refl
by_cases P false x y f g = g refl

-- A is what the call leaves, `answer` its answer; x is left where the test is true, y where it is false
module _ {A : Type 0} (answer : A → Answer) (c : Cause) (cs : List Cause) (returns : ℕ → Type 0) (b : Bool) (x y : A) where
  -- where the test is true the cause is not met, and the rest decides; where it is false it is met, with the value of the answer
  pub unless : (b ≡ true → Unmet c × Given cs returns (answer x)) → (b ≡ false → (number_of (answer y) ≡ c.number) × c.met (value_of (answer y)))
      → Given (c ∷ cs) returns (answer (cond b x y))
  unless f g = by_cases (λ (z : A). Given (c ∷ cs) returns (answer z)) b x y (λ t. inr (f t)) (λ t. inl (g t))

  -- the other way round
  pub if_so : (b ≡ true → (number_of (answer x) ≡ c.number) × c.met (value_of (answer x))) → (b ≡ false → Unmet c × Given cs returns (answer y))
      → Given (c ∷ cs) returns (answer (cond b x y))
  if_so f g = by_cases (λ (z : A). Given (c ∷ cs) returns (answer z)) b x y (λ t. inl (f t)) (λ t. inr (g t))

-- the same where the test says exactly whether the cause is met
module _ {A : Type 0} (answer : A → Answer) (k : ℕ) (P : Type 0) (value : ℕ) (cs : List Cause) (returns : ℕ → Type 0) (b : Bool) (x y : A) where
  pub unless_met : (b ≡ false) ↔ P → (number_of (answer y) ≡ k) × (value_of (answer y) ≡ value) → (b ≡ true → Given cs returns (answer x))
      → Given (cause_if k P value ∷ cs) returns (answer (cond b x y))
  unless_met e a f =
      unless answer (cause_if k P value) cs returns b x y (λ t. (λ u m. true≢false (sym t ∙ e.1 m.0), f t)) (λ t. (a.0, (e.0 t, a.1)))

  pub if_met : (b ≡ true) ↔ P → (number_of (answer x) ≡ k) × (value_of (answer x) ≡ value) → (b ≡ false → Given cs returns (answer y))
      → Given (cause_if k P value ∷ cs) returns (answer (cond b x y))
  if_met e a f =
      if_so answer (cause_if k P value) cs returns b x y (λ t. (a.0, (e.0 t, a.1))) (λ t. (λ u m. true≢false (sym (e.1 m.0) ∙ t), f t))

-- ---- what it says of one cause, and of none

-- numbers differ where this test says so
abbrev others : ℕ → List Cause → Bool
others k [] = true
others k (c ∷ cs) = not (eqb k c.number) && others k cs

abbrev apart_test : List Cause → Bool
apart_test [] = true
apart_test (c ∷ cs) = not (eqb c.number 0) && (others c.number cs && apart_test cs)

differ : (j k : ℕ) (b : Bool) → (not (eqb j k) && b) ≡ true → j ≡ k → ⊥
differ j k b t = eqb-false j k (not-true (eqb j k) (and_one (not (eqb j k)) b t))

others_out : (k : ℕ) (cs : List Cause) → others k cs ≡ true → NotAmong k cs
others_out k [] t = tt
others_out k (c ∷ cs) t = (differ k c.number _ t, others_out k cs (and_two (not (eqb k c.number)) _ t))

pub test_apart : (cs : List Cause) → apart_test cs ≡ true → Apart cs
test_apart [] t = tt
test_apart (c ∷ cs) t =
    let r = and_two (not (eqb c.number 0)) _ t in
    (differ c.number 0 _ t, (others_out c.number cs (and_one (others c.number cs) _ r), test_apart cs (and_two (others c.number cs) _ r)))

-- a number that no cause has is not given
given_zero : (cs : List Cause) (returns : ℕ → Type 0) (k v : ℕ) → NotAmong k cs → FirstMet cs returns k v → k ≡ 0
given_zero [] returns k v o f = f.0
given_zero (c ∷ cs) returns k v o (inl p) = absurd (o.0 p.0)
given_zero (c ∷ cs) returns k v o (inr p) = given_zero cs returns k v o.1 p.1

not_at : (k : ℕ) (bs : List Cause) (c : Cause) (cs : List Cause) → NotAmong k (bs ++ (c ∷ cs)) → k ≡ c.number → ⊥
not_at k [] c cs o = o.0
not_at k (b ∷ bs) c cs o = not_at k bs c cs o.1

-- a cause of another number is passed
past : (c : Cause) (cs : List Cause) (returns : ℕ → Type 0) (k v : ℕ) → (k ≡ c.number → ⊥) → (P Q : Type 0) → FirstMet cs returns k v ↔ (P × Q)
    → FirstMet (c ∷ cs) returns k v ↔ ((Unmet c × P) × Q)
past c cs returns k v other P Q e = (there, λ p. inr (p.0.0, e.1 (p.0.1, p.1)))
  where
    there : FirstMet (c ∷ cs) returns k v → (Unmet c × P) × Q
    there (inl p) = absurd (other p.0)
    there (inr p) = let q = e.0 p.1 in ((p.0, q.0), q.1)

-- the number of c is given exactly if c is met and none before it
pub first-at : (bs : List Cause) (c : Cause) (cs : List Cause) (returns : ℕ → Type 0) → Apart (bs ++ (c ∷ cs)) → (v : ℕ)
    → FirstMet (bs ++ (c ∷ cs)) returns c.number v ↔ (NoneMet bs × c.met v)
first-at [] c cs returns o v = (there, λ p. inl (refl, p.1))
  where
    there : FirstMet (c ∷ cs) returns c.number v → Unit {0} × c.met v
    there (inl p) = (tt, p.1)
    there (inr p) = absurd (o.0 (given_zero cs returns c.number v o.1.0 p.1))
first-at (b ∷ bs) c cs returns o v =
    past b (bs ++ (c ∷ cs)) returns c.number v (λ e. not_at b.number bs c cs o.1.0 (sym e)) (NoneMet bs) (c.met v)
    (first-at bs c cs returns o.1.1 v)

-- 0 is given exactly if none is met
pub none_met : (cs : List Cause) (returns : ℕ → Type 0) → Apart cs → (v : ℕ) → FirstMet cs returns 0 v ↔ (NoneMet cs × returns v)
none_met [] returns o v = (λ p. (tt, p.1), λ p. (refl, p.1))
none_met (c ∷ cs) returns o v = past c cs returns 0 v (λ e. o.0 (sym e)) (NoneMet cs) (returns v) (none_met cs returns o.1.1 v)

-- the same of an answer
pub number_exactly : (bs : List Cause) (c : Cause) (cs : List Cause) (returns : ℕ → Type 0) (a : Answer) → Apart (bs ++ (c ∷ cs)) → Exactly (bs ++ (c ∷ cs)) returns a
    → (v : ℕ) → ((number_of a ≡ c.number) × (value_of a ≡ v)) ↔ (NoneMet bs × c.met v)
number_exactly bs c cs returns a o e v =
    let f = first-at bs c cs returns o v in
    (λ p. f.0 ((e c.number v).0 p), λ q. (e c.number v).1 (f.1 q))

pub accepted_exactly : (cs : List Cause) (returns : ℕ → Type 0) (a : Answer) → Apart cs → Exactly cs returns a
    → (v : ℕ) → ((number_of a ≡ 0) × (value_of a ≡ v)) ↔ (NoneMet cs × returns v)
accepted_exactly cs returns a o e v =
    let f = none_met cs returns o v in
    (λ p. f.0 ((e 0 v).0 p), λ q. (e 0 v).1 (f.1 q))
