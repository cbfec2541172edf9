-- Lists of requests to the model, and what the accepted calls tell of the live words; document 01, "A list of calls".
-- Assumes nothing.
use Rattle.std.specs.Prelude.{ℕ, suc, Bool, true, false, cond, List, [], ◌∷◌, ◌++◌, eqb}
use Rattle.std.proofs.Math.Option.{Option, none, some}
use Rattle.model.specs.Levels.{Level}
use Rattle.model.specs.Model.{Size, State, Call, add, change, withdraw, query, opened, step}
use Rattle.model.specs.Request.{Request, respond, calls_of}
use Rattle.model.specs.Machine.{Machine, accepted_of}

-- the model, at any two levels, with words for identifiers
abbrev pub word_model : Level → Level → Machine State (Call ℕ)
word_model L1 L2 = record { answer = λ s c. (step L1 L2 s c).answer; next = λ s c. (step L1 L2 s c).after }

-- the model, at document 01's levels, with anything as identifiers
abbrev pub model : Machine State Request
model = record { answer = λ s q. (respond s q).answer; next = λ s q. (respond s q).after }

-- the calls that all of cs stand for, f those of each
abbrev pub calls_in : {C : Type 0} → (C → List (Call ℕ)) → List C → List (Call ℕ)
calls_in f [] = []
calls_in f (c ∷ cs) = f c ++ calls_in f cs

-- the calls that are accepted since opening, by the words of their identifiers
abbrev pub accepted_calls : Size → List Request → List (Call ℕ)
accepted_calls z qs = calls_in calls_of (accepted_of model (opened z) qs)

-- the number of adds among these calls
abbrev pub adds_in : List (Call ℕ) → ℕ
adds_in [] = 0
adds_in (add w p ∷ cs) = suc (adds_in cs)
adds_in (change w p ∷ cs) = adds_in cs
adds_in (withdraw w ∷ cs) = adds_in cs
adds_in (query w ∷ cs) = adds_in cs

-- the number of withdrawals
abbrev pub withdrawals_in : List (Call ℕ) → ℕ
withdrawals_in [] = 0
withdrawals_in (add w p ∷ cs) = withdrawals_in cs
withdrawals_in (change w p ∷ cs) = withdrawals_in cs
withdrawals_in (withdraw w ∷ cs) = suc (withdrawals_in cs)
withdrawals_in (query w ∷ cs) = withdrawals_in cs

-- v is live after them: of its adds and withdrawals the last is an add. Where there is none: as before, b
abbrev pub live_by : ℕ → Bool → List (Call ℕ) → Bool
live_by v b [] = b
live_by v b (add w p ∷ cs) = live_by v (cond (eqb v w) true b) cs
live_by v b (change w p ∷ cs) = live_by v b cs
live_by v b (withdraw w ∷ cs) = live_by v (cond (eqb v w) false b) cs
live_by v b (query w ∷ cs) = live_by v b cs

-- the plan of v after them: that of its last add or change. Where there is none: as before, q
abbrev pub plan_by : ℕ → ℕ → List (Call ℕ) → ℕ
plan_by v q [] = q
plan_by v q (add w p ∷ cs) = plan_by v (cond (eqb v w) p q) cs
plan_by v q (change w p ∷ cs) = plan_by v (cond (eqb v w) p q) cs
plan_by v q (withdraw w ∷ cs) = plan_by v q cs
plan_by v q (query w ∷ cs) = plan_by v q cs

-- the plan of v, if it is live, after these calls since opening
abbrev pub told : ℕ → List (Call ℕ) → Option ℕ
told v cs = cond (live_by v false cs) (some (plan_by v 0 cs)) none
