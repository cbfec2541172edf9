-- One call: a query and a refused call change nothing; the two rules for adds; what becomes of the live words and their number.
-- Assumes nothing.
use Prim.Native.Nat.{ℕ, ◌<◌, ◌≤◌}
use mathlib.Core.Path.{◌≡◌, refl, sym, ap, ◌∙◌}
use mathlib.Core.Bool.{true, false, true≢false}
use mathlib.Core.Logic.{◌↔◌, ◌⊎◌}
use mathlib.Core.Option.{Option, none, some}
use mathlib.Core.List.{List}
use lib.Dec.{ltb, lit<}
use lib.ListN.{length, get_or}
use borrow.Author.Tests.{ltb-true, ltb-false, lt-ltb, le-ltb}
use Rattle.std.specs.Prelude.{Ok, Err}
use Rattle.lists.specs.Entries.{Entry, words, find, insert, update, remove}
use Rattle.lists.proofs.Tests.{cases, by_test, cond_true, cond_false}
use Rattle.gf2.specs.Bound.{Largest}
use Rattle.answer.specs.declared.Cause.TheVariants.{Live, NotLive, Full}
use Rattle.answer.specs.Numbers.{Answer, number_of}
use Rattle.model.specs.Levels.{Level, due, passed}
use Rattle.model.specs.Model.{base_limit, State, Call, add, add_of, change, withdraw, query, Outcome, with_live, settled, would_leave, base, step_add, step_live, step}
use Rattle.model.specs.Machine.{accepted}
use Rattle.model.proofs.Levels.{lower_largest}

-- t has the bounds of s
abbrev pub Keeps : State → State → Type 0
Keeps s t = (t.bounds1 ≡ s.bounds1) × (t.bounds2 ≡ s.bounds2)

live_keeps : (s : State) (l : List Entry) (o : Option ℕ) → Keeps s (step_live s l o).after
live_keeps s l none = (refl, refl)
live_keeps s l (some p) = (refl, refl)

live_refused : (s : State) (l : List Entry) (o : Option ℕ) → accepted (step_live s l o).answer ≡ false → (step_live s l o).after ≡ s
live_refused s l none r = refl
live_refused s l (some p) r = absurd (true≢false r)

module _ (L1 L2 : Level) where
  -- a query changes nothing
  pub query_keeps : (s : State) (w : ℕ) → (step L1 L2 s (query w)).after ≡ s
  query_keeps s w = go (find w s.live)
    where
      go : (o : Option ℕ) → (step_live s s.live o).after ≡ s
      go none = refl
      go (some p) = refl

  -- changes and withdrawals keep every bound
  pub change_keeps : (s : State) (w p : ℕ) → Keeps s (step L1 L2 s (change w p)).after
  change_keeps s w p = live_keeps s (update (record { word = w; plan = p }) s.live) (find w s.live)

  pub withdraw_keeps : (s : State) (w : ℕ) → Keeps s (step L1 L2 s (withdraw w)).after
  withdraw_keeps s w = live_keeps s (remove w s.live) (find w s.live)

  -- a refused call changes nothing
  pub refused_keeps : (s : State) (c : Call ℕ) → accepted (step L1 L2 s c).answer ≡ false → (step L1 L2 s c).after ≡ s
  refused_keeps s (add w p) = go (find w s.live)
    where
      e : Entry
      e = record { word = w; plan = p }

      go : (o : Option ℕ) → accepted (step_add L1 L2 s e o).answer ≡ false → (step_add L1 L2 s e o).after ≡ s
      go (some q) = λ r. refl
      go none =
          by_test (λ (x : Outcome). accepted x.answer ≡ false → x.after ≡ s) (ltb base_limit (length (base L1 L2 (would_leave L1 L2 s e))))
          (λ t r. refl) (λ t r. absurd (true≢false r))
  refused_keeps s (change w p) = live_refused s (update (record { word = w; plan = p }) s.live) (find w s.live)
  refused_keeps s (withdraw w) = live_refused s (remove w s.live) (find w s.live)
  refused_keeps s (query w) = λ r. query_keeps s w

  -- o is a refusal that changes nothing, or what the call c does
  abbrev pub Follows : State → Call ℕ → Outcome → Type 0
  Follows s c o = ((accepted o.answer ≡ false) × (o.after ≡ s)) ⊎ (o ≡ step L1 L2 s c)

  -- ---- the bounds that the live words l would leave: first level before second

  pub bounds-first : (s : State) (l : List Entry) (i : ℕ) → i < s.size.buckets1
      → Largest (get_or s.bounds1 i 0) (due L1 s.size.buckets1 (words l) i) (get_or (settled L1 L2 s l).bounds1 i 0)
  bounds-first s l i h = lower_largest L1 s.size.buckets1 s.bounds1 (words l) i h

  pub bounds-second : (s : State) (l : List Entry) (i : ℕ) → i < s.size.buckets2
      → Largest (get_or s.bounds2 i 0) (due L2 s.size.buckets2 (passed L1 s.size.buckets1 (settled L1 L2 s l).bounds1 (words l)) i)
      (get_or (settled L1 L2 s l).bounds2 i 0)
  bounds-second s l i h = lower_largest L2 s.size.buckets2 s.bounds2 (passed L1 s.size.buckets1 (settled L1 L2 s l).bounds1 (words l)) i h

  -- ---- the add of a new word

  module _ (s : State) (e : Entry) (f : find e.word s.live ≡ none) where
    -- accepted where the base list has room
    pub accepts : length (base L1 L2 (would_leave L1 L2 s e)) ≤ base_limit
        → step L1 L2 s (add_of e)
        ≡ record { answer = Ok (length (insert e s.live)); after = would_leave L1 L2 s e }
    accepts h = ap (step_add L1 L2 s e) f ∙ cond_false _ _ (le-ltb base_limit (length (base L1 L2 (would_leave L1 L2 s e))) h)

    -- refused as full where it has not
    pub overfull : base_limit < length (base L1 L2 (would_leave L1 L2 s e))
        → step L1 L2 s (add_of e) ≡ record { answer = Err Full; after = s }
    overfull h = ap (step_add L1 L2 s e) f ∙ cond_true _ _ (lt-ltb base_limit (length (base L1 L2 (would_leave L1 L2 s e))) h)

    -- refused as full exactly where it has not
    pub full_exactly : ((step L1 L2 s (add_of e)).answer ≡ Err Full) ↔ (base_limit < length (base L1 L2 (would_leave L1 L2 s e)))
    full_exactly = (
      λ r. cases (ltb base_limit (length (base L1 L2 (would_leave L1 L2 s e))))
          (λ t. ltb-true base_limit (length (base L1 L2 (would_leave L1 L2 s e))) t)
          (λ t. absurd (true≢false (ap accepted (sym (ap (λ (o : Outcome). o.answer) (accepts (ltb-false base_limit _ t))) ∙ r)))),
      λ h. ap (λ (o : Outcome). o.answer) (overfull h),
    )

  -- what an accepted add tells
  pub record Added (s : State) (e : Entry) : Type 0 where
    pub fresh : find e.word s.live ≡ none
    pub fits : length (base L1 L2 (would_leave L1 L2 s e)) ≤ base_limit
    pub left : step L1 L2 s (add_of e) ≡ record { answer = Ok (length (insert e s.live)); after = would_leave L1 L2 s e }

  -- the add of e is refused and changes nothing, or tells that
  add_cases : (s : State) (e : Entry) (P : Outcome → Type 0) → ((a : Answer) → accepted a ≡ false → 5 < number_of a → P (record { answer = a; after = s }))
      → (Added s e → P (record { answer = Ok (length (insert e s.live)); after = would_leave L1 L2 s e })) → P (step L1 L2 s (add_of e))
  add_cases s e P refused adds = go (find e.word s.live) refl
    where
      go : (o : Option ℕ) → find e.word s.live ≡ o → P (step_add L1 L2 s e o)
      go (some q) f = refused (Err (Live q)) refl (lit< tt)
      go none f =
          by_test P (ltb base_limit (length (base L1 L2 (would_leave L1 L2 s e)))) (λ t. refused (Err Full) refl (lit< tt))
          (λ t. let h = ltb-false base_limit _ t in adds (record { fresh = f; fits = h; left = accepts s e f h }))

  pub added : (s : State) (e : Entry) → accepted (step L1 L2 s (add_of e)).answer ≡ true → Added s e
  added s e = add_cases s e (λ o. accepted o.answer ≡ true → Added s e) (λ a r k t. absurd (true≢false (sym t ∙ r))) (λ a t. a)

  -- ---- the cases of a call: what holds in each holds of what it does

  module _ (s : State) (P : Call ℕ → Outcome → Type 0)
      (refused : (c : Call ℕ) (a : Answer) → accepted a ≡ false → 5 < number_of a → P c (record { answer = a; after = s }))
      (adds : (e : Entry) → Added s e → P (add_of e) (record { answer = Ok (length (insert e s.live)); after = would_leave L1 L2 s e }))
      (changes : (e : Entry) (q : ℕ) → find e.word s.live ≡ some q
      → P (change e.word e.plan) (record { answer = Ok q; after = with_live s (update e s.live) }))
      (withdraws : (w q : ℕ) → find w s.live ≡ some q → P (withdraw w) (record { answer = Ok q; after = with_live s (remove w s.live) }))
      (queries : (w q : ℕ) → P (query w) (record { answer = Ok q; after = s })) where
    live_cases : (c : Call ℕ) (l : List Entry) (o : Option ℕ)
        → ((q : ℕ) → o ≡ some q → P c (record { answer = Ok q; after = with_live s l })) → P c (step_live s l o)
    live_cases c l none f = refused c (Err NotLive) refl (lit< tt)
    live_cases c l (some q) f = f q refl

    pub by_step : (c : Call ℕ) → P c (step L1 L2 s c)
    by_step (add w p) = let e : Entry = record { word = w; plan = p } in add_cases s e (P (add_of e)) (refused (add_of e)) (adds e)
    by_step (change w p) = live_cases (change w p) (update (record { word = w; plan = p }) s.live) (find w s.live) (changes (record { word = w; plan = p }))
    by_step (withdraw w) = live_cases (withdraw w) (remove w s.live) (find w s.live) (withdraws w)
    by_step (query w) = live_cases (query w) s.live (find w s.live) (λ q f. queries w q)
