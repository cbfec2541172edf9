-- What a list of calls tells of a word is told by the calls for that word: a call for another word may be left out, and leaves what is found of it.
-- Assumes nothing.
use Prim.Native.Nat.{ℕ}
use mathlib.Core.Path.{◌≡◌, refl, ap, ap₂, ◌∙◌}
use mathlib.Core.Bool.{Bool, true, false, cond}
use mathlib.Core.Option.{Option, none, some}
use mathlib.Core.List.{List, [], ◌∷◌, ◌++◌}
use lib.Dec.{eqb}
use borrow.Author.Tests.{ne_eqb}
use Rattle.lists.specs.Entries.{find}
use Rattle.identifier.specs.Identifier.{Token, word_of}
use Rattle.model.specs.Levels.{first_level, second_level}
use Rattle.model.specs.Model.{State, Call, add, change, withdraw, query}
use Rattle.model.specs.Request.{subject, by_word, serve, ask, calls_of}
use Rattle.model.specs.Machine.{accepted}
use Rattle.model.specs.History.{model, calls_in, live_by, plan_by, told}
use Rattle.model.proofs.Valid.{Valid}
use Rattle.model.proofs.Calls.{told-after}
use Rattle.model.proofs.Requests.{stands_for}

module _ (v : ℕ) (ds : List (Call ℕ)) where
  left_out : (c : Call ℕ) → (v ≡ subject c → ⊥) → (b : Bool) (q : ℕ) → (live_by v b (c ∷ ds) ≡ live_by v b ds) × (plan_by v q (c ∷ ds) ≡ plan_by v q ds)
  left_out (add w p) ne b q = let e = ne_eqb v w ne in (ap (λ (t : Bool). live_by v (cond t true b) ds) e, ap (λ (t : Bool). plan_by v (cond t p q) ds) e)
  left_out (change w p) ne b q = let e = ne_eqb v w ne in (refl, ap (λ (t : Bool). plan_by v (cond t p q) ds) e)
  left_out (withdraw w) ne b q = let e = ne_eqb v w ne in (ap (λ (t : Bool). live_by v (cond t false b) ds) e, refl)
  left_out (query w) ne b q = (refl, refl)

module _ (v : ℕ) (c : Call ℕ) (ds : List (Call ℕ)) (ne : v ≡ subject c → ⊥) where
  after : (cs : List (Call ℕ)) (b : Bool) (q : ℕ) → (live_by v b (cs ++ (c ∷ ds)) ≡ live_by v b (cs ++ ds)) × (plan_by v q (cs ++ (c ∷ ds)) ≡ plan_by v q (cs ++ ds))
  after [] b q = left_out v ds c ne b q
  after (add w p ∷ cs) b q = after cs (cond (eqb v w) true b) (cond (eqb v w) p q)
  after (change w p ∷ cs) b q = after cs b (cond (eqb v w) p q)
  after (withdraw w ∷ cs) b q = after cs (cond (eqb v w) false b) q
  after (query w ∷ cs) b q = after cs b q

  pub told-other : (cs : List (Call ℕ)) → told v (cs ++ (c ∷ ds)) ≡ told v (cs ++ ds)
  told-other cs = let e = after cs false 0 in ap₂ (λ (b : Bool) (q : ℕ). cond b (some q) none) e.0 e.1

-- ---- one call, accepted or not

subject_word : (c : Call Token) → subject (by_word c) ≡ word_of (subject c)
subject_word (add i p) = refl
subject_word (change i p) = refl
subject_word (withdraw i) = refl
subject_word (query i) = refl

module _ (s : State) (w : Valid first_level second_level s) (v : ℕ) (c : Call Token) (ne : v ≡ word_of (subject c) → ⊥) where
  -- what it tells, where it is accepted (a), of a word that is live (b) with the plan q
  untold : (a b : Bool) (q : ℕ) → cond (live_by v b (calls_in calls_of (cond a (ask c ∷ []) []))) (some (plan_by v q (calls_in calls_of (cond a (ask c ∷ []) [])))) none ≡ cond b (some q) none
  untold true b q = let e = left_out v [] (by_word c) (λ i. ne (i ∙ subject_word c)) b q in ap₂ (λ (b : Bool) (q : ℕ). cond b (some q) none) e.0 e.1
  untold false b q = refl

  found_as : (o : Option ℕ) → find v s.live ≡ o → find v (serve s c).after.live ≡ o
  found_as (some q) h = told-after first_level second_level model calls_of stands_for v s w true q h (ask c ∷ []) ∙ untold (accepted (serve s c).answer) true q
  found_as none h = told-after first_level second_level model calls_of stands_for v s w false 0 h (ask c ∷ []) ∙ untold (accepted (serve s c).answer) false 0

  pub found-other : find v (serve s c).after.live ≡ find v s.live
  found-other = found_as (find v s.live) refl
