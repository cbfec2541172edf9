-- Lists of requests put to the numbers of a table: they refine the model, so its laws hold of them. The two rules for adds, of every sound table.
-- Assumes nothing.
use Prim.Native.Nat.{ℕ}
use native.Mathlib.Omega.{arith}
use mathlib.Core.Path.{◌≡◌, refl, sym, ap, ◌∙◌, subst}
use mathlib.Core.Bool.{true, false, true≢false}
use mathlib.Core.Logic.{⊎_elim}
use mathlib.Core.Option.{Option, none, some}
use mathlib.Core.List.{List, [], ◌∷◌}
use lib.Dec.{eqb, ltb}
use lib.ListN.{length}
use borrow.Author.Tests.{eqb-true}
use Rattle.std.specs.Prelude.{Ok, Err}
use Rattle.answer.specs.Numbers.{Answer}
use Rattle.lists.proofs.Tests.{by_test}
use Rattle.hash.specs.Mix.{mix_of}
use Rattle.identifier.specs.Identifier.{Token, word_of}
use Rattle.model.specs.Levels.{first_level, second_level}
use Rattle.model.specs.Model as M
use Rattle.model.specs.Model.{base_limit, State, Call, add, change, withdraw, query, opened, base, step}
use Rattle.model.specs.Request.{ask_of, word_for, serve, Request, ask, respond, calls_of}
use Rattle.model.specs.Machine.{accepted, after, accepted_of, Refines, Compares}
use Rattle.model.specs.History.{model, calls_in}
use Rattle.model.proofs.Calls.{stands_after, accepted-after}
use Rattle.model.proofs.Requests.{serve_each, respond_size}
use Rattle.table.specs.Table.{Table, open_table, changed_in, withdrawn_from, added_to}
use Rattle.table.specs.Layout.{in_range, numbers_of, length_of}
use Rattle.table.specs.Calls.{rows, solutions, table_of, plan_in, shaped, sound, FlatSound, Outcome, open_call, joined, replaced, queried, served, call_read, call}
use Rattle.table.specs.History.{request, tables, Opened, accepted_calls, flat_state, Same}
use Rattle.table.proofs.Calls.{FlatStands, Match, stands_shows, call_match, request_match, open_stands_flat, sound_stands_flat}

-- ---- the table refines the model

pub refines : Refines tables model FlatStands
refines = record { says = λ t s q h. (request_match t s h q).says; goes = λ t s q h. (request_match t s h q).stands }

pub compares : Compares FlatStands Same
compares = record { one = λ t u s q e h g. sym (stands_shows t s h) ∙ e ∙ stands_shows u q g; same = λ t u s h g. stands_shows t s h ∙ sym (stands_shows u s g) }

-- ---- opening

pub open_cases : (b1 b2 : ℕ) (t : List ℕ) → (open_call b1 b2 t).answer ≡ Ok 0
    → (in_range b1 b2 ≡ true) × ((open_call b1 b2 t).table ≡ numbers_of (open_table rows solutions b1 b2)) × (length t ≡ length_of rows solutions b1 b2)
unfolding open_call
open_cases b1 b2 t =
    let Fits : Outcome → Type 0 = (λ o. o.answer ≡ Ok 0 → (in_range b1 b2 ≡ true) × (o.table ≡ numbers_of (open_table rows solutions b1 b2)) × (length t ≡ length_of rows solutions b1 b2)) in
    by_test Fits (in_range b1 b2)
    (λ r. by_test Fits (eqb (length t) (length_of rows solutions b1 b2)) (λ q a. (r, refl, eqb-true _ _ q)) (λ q a. let z : ◌≡◌ {A = ℕ} 0 1 = cc in absurd (omega arith)))
    (λ r a. let z : ◌≡◌ {A = ℕ} 0 1 = cc in absurd (omega arith))

pub opened_stands : (t : List ℕ) (o : Opened t) → FlatStands t (opened o.size)
opened_stands t o =
    let k = open_cases o.size.buckets1 o.size.buckets2 o.before (ap (λ (x : Outcome). x.answer) o.accepted) in
    subst (λ (u : List ℕ). FlatStands u (opened o.size)) (sym k.1 ∙ ap (λ (x : Outcome). x.table) o.accepted) (open_stands_flat o.size k.0)

-- a refused opening leaves the table
pub open_refused : (b1 b2 : ℕ) (t : List ℕ) → accepted (open_call b1 b2 t).answer ≡ false → (open_call b1 b2 t).table ≡ t
unfolding open_call
open_refused b1 b2 t =
    by_test (λ (o : Outcome). accepted o.answer ≡ false → o.table ≡ t) (in_range b1 b2)
    (λ r. by_test (λ (o : Outcome). accepted o.answer ≡ false → o.table ≡ t) (eqb (length t) (length_of rows solutions b1 b2)) (λ q a. absurd (true≢false a)) (λ q a. refl))
    (λ r a. refl)

-- ---- what each call leaves where it is refused

module _ (t : List ℕ) where
  -- refused calls keep every number
  abbrev Kept : Outcome → Type 0
  Kept o = accepted o.answer ≡ false → o.table ≡ t

  -- by whether the word is live
  kept_by : (f : Option ℕ → Outcome) → Kept (f none) → ((q : ℕ) → Kept (f (some q))) → (o : Option ℕ) → Kept (f o)
  kept_by f a b none = a
  kept_by f a b (some q) = b q

  kept-replaced : (u : ℕ → Table) (o : Option ℕ) → Kept (replaced t u o)
  kept-replaced u = kept_by (replaced t u) (λ r. refl) (λ q r. absurd (true≢false r))

  kept-served : (w : ℕ) (c : Call Token) → Kept (served t (ask_of w c))
  unfolding served
  kept-served w (add i p) =
      let u : Table = added_to rows solutions mix_of (table_of t) (record { word = w; plan = p }) in
      kept_by (joined t u) (by_test Kept (ltb base_limit (length u.base)) (λ b r. refl) (λ b r. absurd (true≢false r))) (λ q r. refl) (plan_in t w)
  kept-served w (change i p) = kept-replaced (changed_in rows solutions mix_of (table_of t) w p) (plan_in t w)
  kept-served w (withdraw i) = kept-replaced (withdrawn_from rows solutions mix_of (table_of t) w) (plan_in t w)
  kept-served w (query i) = kept_by (queried t) (λ r. refl) (λ q r. refl) (plan_in t w)

  pub request_refused : (q : Request) → accepted (request t q).answer ≡ false → (request t q).table ≡ t
  unfolding call
  request_refused (ask c) = go (word_for c)
    where
      go : (x : Answer) → Kept (call_read t c x)
      go (Err e) = λ r. refl
      go (Ok w) = by_test Kept (shaped t) (λ k. by_test Kept (sound t) (λ h. kept-served w c) (λ h r. refl)) (λ k r. refl)

-- ---- after any list of requests since an accepted opening

pub size_after : (s : State) (qs : List Request) → (after model s qs).size ≡ s.size
size_after s [] = refl
size_after s (q ∷ qs) = size_after (respond s q).after qs ∙ respond_size s q

module _ (t : List ℕ) (o : Opened t) (qs : List Request) where
  abbrev s₀ : State
  s₀ = opened o.size

  abbrev t₁ : List ℕ
  t₁ = after tables t qs

  abbrev s₁ : State
  s₁ = after model s₀ qs

  pub after_stands : FlatStands t₁ s₁
  after_stands = stands_after tables model FlatStands refines t s₀ (opened_stands t o) qs

  -- the same calls are accepted as by the model
  pub same_calls : calls_in calls_of (accepted_of model s₀ qs) ≡ accepted_calls t qs
  same_calls = ap (calls_in calls_of) (sym (accepted-after tables model FlatStands refines t s₀ (opened_stands t o) qs))

-- ---- a sound table, also one handed in from elsewhere

module _ (t : List ℕ) (k : shaped t ≡ true) (h : FlatSound t) where
  abbrev s : State
  s = flat_state t

  st : FlatStands t s
  st = sound_stands_flat t k h

  module _ (i : Token) (p : ℕ) where
    abbrev t' : List ℕ
    t' = (call t (add i p)).table

    pub m : Match (call t (add i p)) (serve s (add i p))
    m = call_match t s st (add i p)

    module _ (a : accepted (call t (add i p)).answer ≡ true) where
      -- the add is the model's
      is_step : serve s (add i p) ≡ step first_level second_level s (add (word_of i) p)
      is_step = ⊎_elim (λ x. absurd (true≢false (sym a ∙ ap accepted m.says ∙ x.0))) (λ e. e) (serve_each s (add i p))

      pub took : accepted (step first_level second_level s (add (word_of i) p)).answer ≡ true
      took = ap (λ (x : M.Outcome). accepted x.answer) (sym is_step) ∙ ap accepted (sym m.says) ∙ a

      pub left : flat_state t' ≡ (step first_level second_level s (add (word_of i) p)).after
      left = stands_shows t' (serve s (add i p)).after m.stands ∙ ap (λ (x : M.Outcome). x.after) is_step
