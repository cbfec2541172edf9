-- Calls put one after the other, to a table or to the model; document 01, "A list of calls".
-- Assumes nothing.
use Rattle.std.specs.Prelude.{◌≡◌, Bool, true, cond, List, [], ◌∷◌, eqb}
use Rattle.answer.specs.Numbers.{Answer, number_of}

-- what takes calls C: the answer to a call, and what the call leaves. T is a table, or a state of the model
pub record Machine (T C : Type 0) : Type 0 where
  pub answer : T → C → Answer
  pub next : T → C → T

-- a call is accepted if it meets no cause, else refused
abbrev pub accepted : Answer → Bool
accepted a = eqb (number_of a) 0

module _ {T C : Type 0} (M : Machine T C) where
  -- what the calls leave, each put to what the last one left
  abbrev pub after : T → List C → T
  after t [] = t
  after t (c ∷ cs) = after (M.next t c) cs

  -- their answers
  abbrev pub answers : T → List C → List Answer
  answers t [] = []
  answers t (c ∷ cs) = M.answer t c ∷ answers (M.next t c) cs

  -- those of them that are accepted
  abbrev pub accepted_of : T → List C → List C
  accepted_of t [] = []
  accepted_of t (c ∷ cs) = cond (accepted (M.answer t c)) (c ∷ accepted_of (M.next t c) cs) (accepted_of (M.next t c) cs)

  -- each of them is accepted
  abbrev pub AllAccepted : T → List C → Type 0
  AllAccepted t [] = Unit {0}
  AllAccepted t (c ∷ cs) = (accepted (M.answer t c) ≡ true) × AllAccepted (M.next t c) cs

  -- each of them gets the same answer from t and from u, and after each the two are the same again in what Same compares
  abbrev pub Alike : (T → T → Type 0) → T → T → List C → Type 0
  Alike Same t u [] = Unit {0}
  Alike Same t u (c ∷ cs) =
      (M.answer t c ≡ M.answer u c) × Same (M.next t c) (M.next u c) × Alike Same (M.next t c) (M.next u c) cs

-- a table of M that stands for a state of N answers as the state does, and leaves a table that stands for what the state leaves
pub record Refines {T S C : Type 0} (M : Machine T C) (N : Machine S C) (Stands : T → S → Type 0) : Type 0 where
  pub says : (t : T) (s : S) (c : C) → Stands t s → M.answer t c ≡ N.answer s c
  pub goes : (t : T) (s : S) (c : C) → Stands t s → Stands (M.next t c) (N.next s c)

-- tables that are the same in what Same compares stand for one state, and tables that stand for one state are the same in it
pub record Compares {T S : Type 0} (Stands : T → S → Type 0) (Same : T → T → Type 0) : Type 0 where
  pub one : (t u : T) (s r : S) → Same t u → Stands t s → Stands u r → s ≡ r
  pub same : (t u : T) (s : S) → Stands t s → Stands u s → Same t u
