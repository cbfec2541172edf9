-- Lists of requests, to the model and to tables that stand for its states: every state reached is valid, the live count is accepted adds
-- less accepted withdrawals, and each word is live with the plan that the accepted calls tell.
-- Assumes nothing.
use Prim.Native.Nat.{ℕ, ◌+◌}
use native.Mathlib.Omega.{arith}
use mathlib.Core.Path.{◌≡◌, refl, sym, ap, ap₂, ◌∙◌, subst, subst⁻¹}
use mathlib.Core.Bool.{Bool, true, false, cond}
use mathlib.Core.Logic.{◌⊎◌, inl, inr, ⊎_elim}
use mathlib.Core.Option.{none, some}
use mathlib.Core.List.{List, [], ◌∷◌, ◌++◌}
use lib.Dec.{eqb}
use lib.ListN.{length}
use borrow.Author.Tests.{eqb-true, eqb-false}
use Rattle.answer.specs.Numbers.{Answer}
use Rattle.lists.specs.Entries.{Entry, find, insert, update, remove, Ascending}
use Rattle.lists.proofs.Tests.{cases}
use Rattle.lists.proofs.Entries.{insert-length, insert-found, insert-other, remove-length, remove-found, remove-other, update-length, update_found, update_other, none≢some}
use Rattle.model.specs.Levels.{Level}
use Rattle.model.specs.Model.{State, Call, add, change, withdraw, query, Outcome, step}
use Rattle.model.specs.Machine.{Machine, accepted, after, answers, accepted_of, AllAccepted, Alike, Refines, Compares}
use Rattle.model.specs.History.{word_model, calls_in, adds_in, withdrawals_in, live_by, plan_by}
use Rattle.model.proofs.Steps.{refused_keeps, Follows, by_step}
use Rattle.model.proofs.Valid.{Valid, valid_step}

-- the call, if it is accepted
abbrev taking : Answer → Call ℕ → List (Call ℕ)
taking a c = cond (accepted a) (c ∷ []) []

-- a word that has a plan is live
is_live : (b : Bool) (q p x : ℕ) → cond b (some q) none ≡ some p → some x ≡ cond b (some x) none
is_live true q p x e = refl
is_live false q p x e = absurd (none≢some e)

-- what the calls tell of v, after what b and q tell of it
abbrev Told : ℕ → Bool → ℕ → List (Call ℕ) → State → Type 0
Told v b q cs t = find v t.live ≡ cond (live_by v b cs) (some (plan_by v q cs)) none

-- ---- one call

module _ (L1 L2 : Level) (s : State) where
  -- the count after the call
  abbrev Counts : Call ℕ → Outcome → Type 0
  Counts c o = length o.after.live + withdrawals_in (taking o.answer c) ≡ length s.live + adds_in (taking o.answer c)

  pub count_step : (c : Call ℕ) → Counts c (step L1 L2 s c)
  count_step =
      by_step L1 L2 s Counts (λ c a r k. simp r)
      (λ e a. let h = insert-length e s.live in omega arith)
      (λ e q f. let h = update-length e s.live in omega arith)
      (λ w q f. let h = remove-length w q s.live f in omega arith)
      (λ w q. refl)

  module _ (asc : Ascending s.live) (v : ℕ) (b : Bool) (q : ℕ) (h : find v s.live ≡ cond b (some q) none) where
    pub told-step : (c : Call ℕ) → Told v b q (taking (step L1 L2 s c).answer c) (step L1 L2 s c).after
    told-step =
        by_step L1 L2 s (λ c o. Told v b q (taking o.answer c) o.after) (λ c a r k. rw r h)
        (λ e a. cases (eqb v e.word)
        (λ y. rw y (ap (λ (u : ℕ). find u (insert e s.live)) (eqb-true v e.word y) ∙ insert-found e s.live asc a.fresh))
        (λ n. rw n (insert-other e s.live v (eqb-false v e.word n) ∙ h)))
        (λ e p f. cases (eqb v e.word)
        (λ y. rw y (ap (λ (u : ℕ). find u (update e s.live)) (eqb-true v e.word y) ∙ update_found e p s.live f
        ∙ is_live b q p e.plan (sym h ∙ ap (λ (u : ℕ). find u s.live) (eqb-true v e.word y) ∙ f)))
        (λ n. rw n (update_other e s.live v (eqb-false v e.word n) ∙ h)))
        (λ w p f. cases (eqb v w)
        (λ y. rw y (ap (λ (u : ℕ). find u (remove w s.live)) (eqb-true v w y) ∙ remove-found w s.live asc))
        (λ n. rw n (remove-other w s.live v (eqb-false v w n) ∙ h)))
        (λ w p. h)

-- ---- calls in front of others

counts_append : (cs ds : List (Call ℕ)) → (adds_in (cs ++ ds) ≡ adds_in cs + adds_in ds) × (withdrawals_in (cs ++ ds) ≡ withdrawals_in cs + withdrawals_in ds)
counts_append [] ds = (omega arith, omega arith)
counts_append (add w p ∷ cs) ds = let h = counts_append cs ds in (omega arith, h.1)
counts_append (change w p ∷ cs) ds = counts_append cs ds
counts_append (withdraw w ∷ cs) ds = let h = counts_append cs ds in (h.0, omega arith)
counts_append (query w ∷ cs) ds = counts_append cs ds

told-append : (v : ℕ) (b : Bool) (q : ℕ) (cs ds : List (Call ℕ)) (t : State) → Told v (live_by v b cs) (plan_by v q cs) ds t → Told v b q (cs ++ ds) t
told-append v b q [] ds t h = h
told-append v b q (add w p ∷ cs) ds t h = told-append v (cond (eqb v w) true b) (cond (eqb v w) p q) cs ds t h
told-append v b q (change w p ∷ cs) ds t h = told-append v b (cond (eqb v w) p q) cs ds t h
told-append v b q (withdraw w ∷ cs) ds t h = told-append v (cond (eqb v w) false b) q cs ds t h
told-append v b q (query w ∷ cs) ds t h = told-append v b q cs ds t h

-- ---- calls that are accepted one by one

module _ (L1 L2 : Level) where
  abbrev M : Machine State (Call ℕ)
  M = word_model L1 L2

  count_all : (s : State) (ds : List (Call ℕ)) → AllAccepted M s ds → length (after M s ds).live + withdrawals_in ds ≡ length s.live + adds_in ds
  count_all s [] a = refl
  count_all s (d ∷ ds) a =
      let t : State = (step L1 L2 s d).after in
      let one = subst (λ (x : Bool). length t.live + withdrawals_in (cond x (d ∷ []) []) ≡ length s.live + adds_in (cond x (d ∷ []) [])) a.0 (count_step L1 L2 s d) in
      omega (arith, one, count_all t ds a.1, counts_append (d ∷ []) ds)

  told-all : (v : ℕ) (s : State) → Valid L1 L2 s → (b : Bool) (q : ℕ) → Told v b q [] s → (ds : List (Call ℕ)) → AllAccepted M s ds → Told v b q ds (after M s ds)
  told-all v s w b q h [] a = h
  told-all v s w b q h (d ∷ ds) a =
      let t : State = (step L1 L2 s d).after in
      told-append v b q (d ∷ []) ds (after M t ds)
      (told-all v t (valid_step L1 L2 s d w) (live_by v b (d ∷ [])) (plan_by v q (d ∷ []))
      (subst (λ (x : Bool). Told v b q (cond x (d ∷ []) []) t) a.0 (told-step L1 L2 s w.ascending v b q h d)) ds a.1)

  -- refused, and t is s as it was; or accepted, and so are the calls ds one by one, which leave the live words of t
  abbrev pub Done : State → List (Call ℕ) → Bool → State → Type 0
  Done s ds a t = ((a ≡ false) × (t ≡ s)) ⊎ ((a ≡ true) × AllAccepted M s ds × (t.live ≡ (after M s ds).live))

  -- one call is the case of one
  pub done_one : (s : State) (c : Call ℕ) (o : Outcome) → Follows L1 L2 s c o → Done s (c ∷ []) (accepted o.answer) o.after
  done_one s c o (inl r) = inl r
  done_one s c o (inr e) =
      subst⁻¹ (λ (x : Outcome). Done s (c ∷ []) (accepted x.answer) x.after) e
      (cases (accepted (step L1 L2 s c).answer) (λ t. inr (t, (t, tt), refl)) (λ t. inl (t, refused_keeps L1 L2 s c t)))

  pub valid_one : (s : State) (c : Call ℕ) (o : Outcome) → Follows L1 L2 s c o → Valid L1 L2 s → Valid L1 L2 o.after
  valid_one s c o (inl r) v = subst⁻¹ (Valid L1 L2) r.1 v
  valid_one s c o (inr e) v = subst⁻¹ (λ (x : Outcome). Valid L1 L2 x.after) e (valid_step L1 L2 s c v)

-- ---- lists of requests C, each of which stands for the calls f

pub record StandsFor {C : Type 0} (L1 L2 : Level) (N : Machine State C) (f : C → List (Call ℕ)) : Type 0 where
  pub keeps : (s : State) (c : C) → Valid L1 L2 s → Valid L1 L2 (N.next s c)
  pub each : (s : State) (c : C) → Valid L1 L2 s → Done L1 L2 s (f c) (accepted (N.answer s c)) (N.next s c)

module _ {C : Type 0} (L1 L2 : Level) (N : Machine State C) (f : C → List (Call ℕ)) (k : StandsFor L1 L2 N f) where
  pub valid_after : (s : State) → Valid L1 L2 s → (cs : List C) → Valid L1 L2 (after N s cs)
  valid_after s v [] = v
  valid_after s v (c ∷ cs) = valid_after (N.next s c) (k.keeps s c v) cs

  -- the accepted calls, by the words
  abbrev pub taken : State → List C → List (Call ℕ)
  taken s cs = calls_in f (accepted_of N s cs)

  -- those of c
  abbrev took : State → C → List (Call ℕ)
  took s c = cond (accepted (N.answer s c)) (f c) []

  taken_cons : (s : State) (c : C) (cs : List C) → taken s (c ∷ cs) ≡ took s c ++ taken (N.next s c) cs
  taken_cons s c cs = cases (accepted (N.answer s c)) (λ t. rw t refl) (λ t. rw t refl)

  count_one : (s : State) (c : C) → Valid L1 L2 s → length (N.next s c).live + withdrawals_in (took s c) ≡ length s.live + adds_in (took s c)
  count_one s c v =
      ⊎_elim (λ r. rw (r.0, r.1) refl)
      (λ e. rw e.0 (ap (λ (l : List Entry). length l + withdrawals_in (f c)) e.2 ∙ count_all L1 L2 s (f c) e.1)) (k.each s c v)

  told_one : (v : ℕ) (s : State) → Valid L1 L2 s → (b : Bool) (q : ℕ) → Told v b q [] s → (c : C) → Told v b q (took s c) (N.next s c)
  told_one v s w b q h c =
      ⊎_elim (λ r. rw (r.0, r.1) h)
      (λ e. rw e.0 (ap (find v) e.2 ∙ told-all L1 L2 v s w b q h (f c) e.1)) (k.each s c w)

  -- the live count is the one before, with the accepted adds, less the accepted withdrawals
  pub count_after : (s : State) → Valid L1 L2 s → (cs : List C) → length (after N s cs).live + withdrawals_in (taken s cs) ≡ length s.live + adds_in (taken s cs)
  count_after s v [] = refl
  count_after s v (c ∷ cs) =
      let t : State = N.next s c in
      subst⁻¹ (λ (l : List (Call ℕ)). length (after N t cs).live + withdrawals_in l ≡ length s.live + adds_in l) (taken_cons s c cs)
      (omega (arith, count_one s c v, count_after t (k.keeps s c v) cs, counts_append (took s c) (taken t cs)))

  -- v is live, and with the plan, as the accepted calls tell; b and q tell of it before them
  pub told-after : (v : ℕ) (s : State) → Valid L1 L2 s → (b : Bool) (q : ℕ) → find v s.live ≡ cond b (some q) none → (cs : List C)
      → find v (after N s cs).live ≡ cond (live_by v b (taken s cs)) (some (plan_by v q (taken s cs))) none
  told-after v s w b q h [] = h
  told-after v s w b q h (c ∷ cs) =
      let t : State = N.next s c in
      subst⁻¹ (λ (l : List (Call ℕ)). Told v b q l (after N t cs)) (taken_cons s c cs)
      (told-append v b q (took s c) (taken t cs) (after N t cs)
      (told-after v t (k.keeps s c w) (live_by v b (took s c)) (plan_by v q (took s c)) (told_one v s w b q h c) cs))

-- ---- calls put to tables that stand for states: the states settle every answer, and two tables that are the same in what is compared
-- answer every further list alike

module _ {T S C : Type 0} (M : Machine T C) (N : Machine S C) (Stands : T → S → Type 0) (r : Refines M N Stands) where
  pub stands_after : (t : T) (s : S) → Stands t s → (cs : List C) → Stands (after M t cs) (after N s cs)
  stands_after t s h [] = h
  stands_after t s h (c ∷ cs) = stands_after (M.next t c) (N.next s c) (r.goes t s c h) cs

  pub answers-after : (t : T) (s : S) → Stands t s → (cs : List C) → answers M t cs ≡ answers N s cs
  answers-after t s h [] = refl
  answers-after t s h (c ∷ cs) = ap₂ {C = List Answer} ◌∷◌ (r.says t s c h) (answers-after (M.next t c) (N.next s c) (r.goes t s c h) cs)

  pub accepted-after : (t : T) (s : S) → Stands t s → (cs : List C) → accepted_of M t cs ≡ accepted_of N s cs
  accepted-after t s h [] = refl
  accepted-after t s h (c ∷ cs) =
      ap₂ (λ (a : Answer) (l : List C). cond (accepted a) (c ∷ l) l) (r.says t s c h) (accepted-after (M.next t c) (N.next s c) (r.goes t s c h) cs)

  module _ (Same : T → T → Type 0) (k : Compares Stands Same) where
    alike : (t u : T) (s : S) → Stands t s → Stands u s → (cs : List C) → Alike M Same t u cs
    alike t u s h g [] = tt
    alike t u s h g (c ∷ cs) = (
      r.says t s c h ∙ sym (r.says u s c g),
      k.same (M.next t c) (M.next u c) (N.next s c) (r.goes t s c h) (r.goes u s c g),
      alike (M.next t c) (M.next u c) (N.next s c) (r.goes t s c h) (r.goes u s c g) cs,
    )

    -- t and u are what openings left, ds and es any calls, refused ones included
    pub statement_3 : (t u : T) (s q : S) → Stands t s → Stands u q → (ds es : List C) → Same (after M t ds) (after M u es)
        → (cs : List C) → Alike M Same (after M t ds) (after M u es) cs
    statement_3 t u s q h g ds es e cs =
        let h' = stands_after t s h ds in
        let g' = stands_after u q g es in
        alike (after M t ds) (after M u es) (after N s ds) h'
        (subst⁻¹ (Stands (after M u es)) (k.one (after M t ds) (after M u es) (after N s ds) (after N q es) e h' g') g') cs
