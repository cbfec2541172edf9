-- Opening and each call give each number if and only if its cause is the first met.
-- Assumes nothing.
use Prim.Native.Nat.{ℕ, suc, ◌+◌, ◌^◌, ◌<◌}
use mathlib.Core.Path.{◌≡◌, refl, sym, ap, ◌∙◌, subst⁻¹}
use mathlib.Core.Bool.{Bool, true, false, cond, true≢false, ◌&&◌}
use mathlib.Core.Logic.{◌⊎◌, inl, inr, ⊎_elim, ◌↔◌}
use mathlib.Core.Option.{Option, none, some}
use mathlib.Core.List.{List, [], ◌∷◌, ◌++◌}
use lib.Dec.{eqb, ltb, leb, lit<}
use lib.ListN.{length, get_or}
use borrow.Author.Tests.{ltb-true, lt-ltb, leb-false, lt-leb, eqb-false, ne_eqb}
use Rattle.std.specs.Prelude.{Ok, Err}
use Rattle.lists.specs.Entries.{Entry, assignable, find, update, remove}
use Rattle.lists.proofs.Entries.{insert-length, none≢some}
use Rattle.lists.proofs.Tests.{by_test, cases, cond_true}
use Rattle.hash.specs.Mix.{mix_of}
use Rattle.answer.specs.declared.Cause.TheVariants.{WrongTable, NotSound, DeskPlanGiven}
use Rattle.answer.specs.Numbers.{Answer, cause_number, number_of, value_of}
use Rattle.answer.specs.Causes.{Cause, InOrder, Apart, Exactly}
use Rattle.answer.proofs.Determined.{refused≢accepted}
use Rattle.answer.proofs.Causes.{One, OneEach, one_value, one_if, Given, exactly, unless_met, if_met, test_apart}
use Rattle.identifier.specs.Identifier.{one_of, Token, word_of, read_of, with_plan}
use Rattle.identifier.specs.Causes.{wrong_length, wrong_byte, id_causes}
use Rattle.identifier.proofs.Causes.{OfIdentifier, of_identifier, by_reading, one_identifier, identifier_given}
use Rattle.identifier.proofs.Words.{word_lt}
use Rattle.model.specs.Levels.{first_level, second_level}
use Rattle.model.specs.Model as M
use Rattle.model.specs.Model.{base_limit, Call, add, change, withdraw, query, would_leave, base, step_add, step_live, step}
use Rattle.model.specs.Request.{subject, plan_allowed, ask_of}
use Rattle.table.specs.Table.{Table, added_to}
use Rattle.table.specs.Layout.{leading, buckets1_at, buckets2_at, totals_at, in_range, length_of}
use Rattle.table.specs.Test.{shape_test}
use Rattle.table.specs.Calls.{rows, solutions, table_of, plan_in, shaped, sound, FlatSound, Outcome, turned_down, open_call, queried, replaced, joined, served, call_read, call, total_call}
use Rattle.table.specs.History.{flat_state}
use Rattle.table.specs.Causes.{wrong_room, Misshapen, wrong_table, not_sound, wrong_plan, LivePlan, not_live, open_causes, open_returns, word_causes, plan_causes, call_causes, sound_causes, call_returns, total_causes, total_returns}
use Rattle.table.proofs.Calls.{stands_test, served_match, sound_stands_flat, sound_exactly}

-- ---- tests and what they say

pub and_fails : (a b : Bool) {P Q : Type 0} → (a ≡ false) ↔ P → (b ≡ false) ↔ Q → ((a && b) ≡ false) ↔ (P ⊎ Q)
and_fails true b p q = (λ e. inr (q.0 e), ⊎_elim (λ x. absurd (true≢false (p.1 x))) q.1)
and_fails false b p q = (λ e. inl (p.0 refl), λ x. refl)

-- the test of the shape fails exactly if cause 4 is met
pub shape_exactly : (t : List ℕ) → (shaped t ≡ false) ↔ Misshapen t
unfolding shape_test
shape_exactly t =
    and_fails (leb leading (length t)) _ (leb-false leading (length t), lt-leb leading (length t))
    (and_fails (in_range (get_or t buckets1_at 0) (get_or t buckets2_at 0)) _ (λ e. e, λ e. e) (eqb-false _ _, ne_eqb _ _))

-- the test of soundness fails exactly if cause 5 is met
pub unsound_exactly : (t : List ℕ) → shaped t ≡ true → ((i : ℕ) → get_or t i 0 < 2 ^ rows) → (sound t ≡ false) ↔ (FlatSound t → ⊥)
unsound_exactly t k b =
    let e = sound_exactly t k b in
    (λ f h. true≢false (sym (e.1 h) ∙ f), λ f. cases (sound t) (λ h. absurd (f (e.0 h))) (λ h. h))

-- causes 4 and 5 of a call that makes these two tests: x is what it does with a sound table
pub table_given : (t : List ℕ) → ((i : ℕ) → get_or t i 0 < 2 ^ rows) → {A : Type 0} (answer : A → Answer) (x y z : A) → answer y ≡ Err NotSound → answer z ≡ Err (WrongTable (length t))
    → (cs : List Cause) (returns : ℕ → Type 0) → (shaped t ≡ true → FlatSound t → Given cs returns (answer x))
    → Given (wrong_table t ∷ not_sound t ∷ cs) returns (answer (cond (shaped t) (cond (sound t) x y) z))
table_given t b answer x y z five four cs returns g =
    unless_met answer 4 (Misshapen t) (length t) (not_sound t ∷ cs) returns (shaped t) (cond (sound t) x y) z (shape_exactly t) (ap number_of four, ap value_of four)
    (λ k. unless_met answer 5 (FlatSound t → ⊥) 0 cs returns (sound t) x y (unsound_exactly t k b) (ap number_of five, ap value_of five)
    (λ h. g k ((sound_exactly t k b).0 h)))

-- ---- opening

abbrev answer_of : Outcome → Answer
answer_of o = o.answer

pub open_order : (b1 b2 : ℕ) (t : List ℕ) → InOrder 0 (open_causes b1 b2 t)
open_order b1 b2 t = (lit< tt, (lit< tt, tt))

pub open_exactly : (b1 b2 : ℕ) (t : List ℕ) → Exactly (open_causes b1 b2 t) open_returns (open_call b1 b2 t).answer
unfolding open_call
open_exactly b1 b2 t =
    exactly (open_causes b1 b2 t) open_returns (open_call b1 b2 t).answer (one_if 3 _ 0, (one_if 4 _ (length t), one_value 0))
    (unless_met answer_of 3 _ 0 (wrong_room b1 b2 t ∷ []) open_returns (in_range b1 b2) _ _ (λ e. e, λ e. e) (refl, refl)
    (λ r. unless_met answer_of 4 _ (length t) [] open_returns (eqb (length t) (length_of rows solutions b1 b2)) _ _ (eqb-false _ _, ne_eqb _ _) (refl, refl) (λ e. (refl, refl))))

-- ---- the total of a plan

pub total_exactly : (t : List ℕ) (p : ℕ) → Exactly (total_causes t) (total_returns t p) (total_call t p)
unfolding total_call
total_exactly t p =
    exactly (total_causes t) (total_returns t p) (total_call t p) (one_if 4 _ (length t), one_value (get_or t (totals_at + p) 0))
    (unless_met (λ (a : Answer). a) 4 _ (length t) [] (total_returns t p) (shaped t) _ _ (shape_exactly t) (refl, refl) (λ e. (refl, refl)))

-- ---- the calls

one_plan : (t : List ℕ) (i : Token) → One (LivePlan t i)
one_plan t i u v p q = cc

one_each : (t : List ℕ) (c : Call Token) → OneEach (word_causes t c) (call_returns t c)
one_each t (add i p) = (one_plan t i, (one_if 8 _ 0, one_value (suc (length (flat_state t).live))))
one_each t (change i p) = (one_if 7 _ 0, one_plan t i)
one_each t (withdraw i) = (one_if 7 _ 0, one_plan t i)
one_each t (query i) = (one_if 7 _ 0, one_plan t i)

word_order : (t : List ℕ) (c : Call Token) → InOrder 5 (word_causes t c)
word_order t (add i p) = (lit< tt, (lit< tt, tt))
word_order t (change i p) = (lit< tt, tt)
word_order t (withdraw i) = (lit< tt, tt)
word_order t (query i) = (lit< tt, tt)

pub call_order : (t : List ℕ) (c : Call Token) → InOrder 0 (wrong_length (subject c) ∷ wrong_byte (subject c) ∷ wrong_table t ∷ not_sound t ∷ word_causes t c)
call_order t c = (lit< tt, (lit< tt, (lit< tt, (lit< tt, word_order t c))))

-- no two causes of a call have one number
pub call_apart : (t : List ℕ) (c : Call Token) → Apart (call_causes t c)
call_apart t (add i p) = test_apart (call_causes t (add i p)) refl
call_apart t (change i p) = test_apart (call_causes t (change i p)) refl
call_apart t (withdraw i) = test_apart (call_causes t (withdraw i)) refl
call_apart t (query i) = test_apart (call_causes t (query i)) refl

one_plans : (t : List ℕ) (c : Call Token) (cs : List Cause) → OneEach cs (call_returns t c) → OneEach (plan_causes c ++ cs) (call_returns t c)
one_plans t (add i p) cs o = (one_if 14 _ 0, o)
one_plans t (change i p) cs o = (one_if 14 _ 0, o)
one_plans t (withdraw i) cs o = o
one_plans t (query i) cs o = o

module _ (t : List ℕ) where
  -- the model's answers by the word: change, withdrawal and query, which would leave the live words l
  live_given : (i : Token) (l : List Entry) (o : Option ℕ) → find (word_of i) (flat_state t).live ≡ o
      → Given (not_live t i ∷ []) (LivePlan t i) (step_live (flat_state t) l o).answer
  live_given i l (some p) e = inr (λ v m. m.0 p e, (refl, e))
  live_given i l none e = inl (refl, ((λ p f. none≢some (sym e ∙ f)), refl))

  -- add
  add_given : (i : Token) (p : ℕ) (o : Option ℕ) → find (word_of i) (flat_state t).live ≡ o
      → Given (word_causes t (add i p)) (call_returns t (add i p)) (step_add first_level second_level (flat_state t) (record { word = word_of i; plan = p }) o).answer
  add_given i p (some q) e = inl (refl, e)
  add_given i p none e =
      inr (
        λ q f. none≢some (sym e ∙ f),
        if_met (λ (o : M.Outcome). o.answer) 8 _ 0 [] (call_returns t (add i p))
            (ltb base_limit (length (base first_level second_level (would_leave first_level second_level (flat_state t) (record { word = word_of i; plan = p }))))) _ _
            (ltb-true base_limit _, lt-ltb base_limit _) (refl, refl) (λ f. (refl, insert-length _ (flat_state t).live)),
      )

  step_given : (c : Call Token) → Given (word_causes t c) (call_returns t c) (step first_level second_level (flat_state t) (ask_of (word_of (subject c)) c)).answer
  step_given (add i p) = add_given i p (find (word_of i) (flat_state t).live) refl
  step_given (change i p) = live_given i (update (record { word = word_of i; plan = p }) (flat_state t).live) (find (word_of i) (flat_state t).live) refl
  step_given (withdraw i) = live_given i (remove (word_of i) (flat_state t).live) (find (word_of i) (flat_state t).live) refl
  step_given (query i) = live_given i (flat_state t).live (find (word_of i) (flat_state t).live) refl

  given_14 : (c : Call Token) (p w : ℕ) (cs : List Cause) → (assignable p ≡ true → Given cs (call_returns t c) (call_read t c (Ok w)).answer)
      → Given (wrong_plan p ∷ cs) (call_returns t c) (call_read t c (cond (assignable p) (Ok w) (Err DeskPlanGiven))).answer
  given_14 c p w cs g = unless_met (λ (r : Answer). (call_read t c r).answer) 14 _ 0 cs (call_returns t c) (assignable p) (Ok w) (Err DeskPlanGiven) (λ e. e, λ e. e) (refl, refl) g

  -- cause 14, before the causes cs
  plan_given : (c : Call Token) (w : ℕ) (cs : List Cause) → (plan_allowed c ≡ true → Given cs (call_returns t c) (call_read t c (Ok w)).answer)
      → Given (plan_causes c ++ cs) (call_returns t c) (call_read t c (with_plan (plan_allowed c) (Ok w))).answer
  plan_given (add i p) w cs g = given_14 (add i p) p w cs g
  plan_given (change i p) w cs g = given_14 (change i p) p w cs g
  plan_given (withdraw i) w cs g = g refl
  plan_given (query i) w cs g = g refl

  module _ (c : Call Token) where
    -- a sound table answers as the model does
    served_given : plan_allowed c ≡ true → shaped t ≡ true → FlatSound t → Given (word_causes t c) (call_returns t c) (served t (ask_of (word_of (subject c)) c)).answer
    served_given f k h =
        subst⁻¹ (Given (word_causes t c) (call_returns t c))
        (served_match t (flat_state t) (sound_stands_flat t k h) (word_of (subject c)) (word_lt (subject c)) c f).says (step_given c)

    -- the causes cs after those of the identifier and 14
    by_read : (cs : List Cause) → OneEach cs (call_returns t c) → (plan_allowed c ≡ true → Given cs (call_returns t c) (call_read t c (Ok (word_of (subject c)))).answer)
        → Exactly (id_causes (subject c) ++ (plan_causes c ++ cs)) (call_returns t c) (call t c).answer
    unfolding call
    by_read cs o g =
        exactly (id_causes (subject c) ++ (plan_causes c ++ cs)) (call_returns t c) (call t c).answer
        (one_identifier (subject c) (plan_causes c ++ cs) (call_returns t c) (one_plans t c cs o))
        (identifier_given (subject c) answer_of (λ r. call_read t c (with_plan (plan_allowed c) r)) (λ a. refl) (plan_causes c ++ cs) (call_returns t c)
        (λ e. plan_given c (word_of (subject c)) cs g))

    pub call_exactly : ((i : ℕ) → get_or t i 0 < 2 ^ rows) → Exactly (call_causes t c) (call_returns t c) (call t c).answer
    call_exactly b =
        by_read (wrong_table t ∷ not_sound t ∷ word_causes t c) (one_if 4 _ (length t), (one_if 5 _ 0, one_each t c))
        (λ f. table_given t b answer_of (served t (ask_of (word_of (subject c)) c)) (turned_down NotSound t) (turned_down (WrongTable (length t)) t) refl refl
        (word_causes t c) (call_returns t c) (served_given f))

    -- a sound table meets neither 4 nor 5
    pub sound-call : shaped t ≡ true → FlatSound t → Exactly (sound_causes t c) (call_returns t c) (call t c).answer
    sound-call k h =
        by_read (word_causes t c) (one_each t c)
        (λ f. subst⁻¹ (λ (o : Outcome). Given (word_causes t c) (call_returns t c) o.answer) (cond_true _ _ k ∙ cond_true _ _ (stands_test t (flat_state t) (sound_stands_flat t k h))) (served_given f k h))

-- ---- causes 15, 1, 2 and 14, whatever the table

-- the numbers that a call can give once its word is taken
abbrev from_table : List ℕ
from_table = 0 ∷ 4 ∷ 5 ∷ 6 ∷ 7 ∷ 8 ∷ []

-- n is none of them
module _ (t : List ℕ) (n : ℕ) (l : one_of from_table n ≡ false) where
  -- an answer with another number than n
  abbrev Other : Outcome → Type 0
  Other o = number_of o.answer ≡ n → ⊥

  other : (k : ℕ) → one_of from_table k ≡ true → k ≡ n → ⊥
  other k o e = true≢false (sym o ∙ ap (one_of from_table) e ∙ l)

  other_by : (f : Option ℕ → Outcome) → Other (f none) → ((q : ℕ) → Other (f (some q))) → (o : Option ℕ) → Other (f o)
  other_by f a b none = a
  other_by f a b (some q) = b q

  other-served : (c : Call ℕ) → Other (served t c)
  unfolding served
  other-served (add w p) =
      let u : Table = added_to rows solutions mix_of (table_of t) (record { word = w; plan = p }) in
      other_by (joined t u) (by_test Other (ltb base_limit (length u.base)) (λ b. other 8 refl) (λ b. other 0 refl)) (λ q. other 6 refl) (plan_in t w)
  other-served (change w p) = other_by (replaced t _) (other 7 refl) (λ q. other 0 refl) (plan_in t w)
  other-served (withdraw w) = other_by (replaced t _) (other 7 refl) (λ q. other 0 refl) (plan_in t w)
  other-served (query w) = other_by (queried t) (other 7 refl) (λ q. other 0 refl) (plan_in t w)

  other_word : (c : Call Token) (w : ℕ) → Other (call_read t c (Ok w))
  other_word c w = by_test Other (shaped t) (λ k. by_test Other (sound t) (λ h. other-served (ask_of w c)) (λ h. other 5 refl)) (λ k. other 4 refl)

module _ (t : List ℕ) (c : Call Token) where
  -- a call gives a cause of its identifier exactly if reading that gives it
  pub as_read : (n v : ℕ) → OfIdentifier n
      → ((number_of (call t c).answer ≡ n) × (value_of (call t c).answer ≡ v)) ↔ ((number_of (read_of (subject c)) ≡ n) × (value_of (read_of (subject c)) ≡ v))
  unfolding call
  as_read n v o =
      let l : one_of from_table n ≡ false = of_identifier (one_of from_table) n refl refl refl o in
      by_reading (subject c)
      (λ r. ((number_of (call_read t c (with_plan (plan_allowed c) r)).answer ≡ n) × (value_of (call_read t c (with_plan (plan_allowed c) r)).answer ≡ v)) ↔ ((number_of r ≡ n) × (value_of r ≡ v)))
      (λ a k. (λ e. e, λ e. e)) (
        λ e. absurd (by_test (λ (r : Answer). Other t n l (call_read t c r)) (plan_allowed c) (λ a. other_word t n l c (word_of (subject c))) (λ a. eqb-false 14 n (of_identifier (eqb 14) n refl refl refl o)) e.0),
        λ e. absurd (other t n l 0 refl e.0),
      )

  pub cause_14 : (number_of (call t c).answer ≡ 14) ↔ ((read_of (subject c) ≡ Ok (word_of (subject c))) × (plan_allowed c ≡ false))
  unfolding call
  cause_14 =
      let i : Token = subject c in
      by_reading i (λ r. (number_of (call_read t c (with_plan (plan_allowed c) r)).answer ≡ 14) ↔ ((r ≡ Ok (word_of i)) × (plan_allowed c ≡ false)))
      (λ f o. (λ e. absurd (eqb-false (cause_number f) 14 (of_identifier (λ k. eqb k 14) (cause_number f) refl refl refl o) e), λ q. absurd (refused≢accepted _ _ q.0)))
      (cases (plan_allowed c)
      (λ a. rw a (λ e. absurd (other_word t 14 refl c (word_of i) e), λ q. absurd (true≢false q.1)))
      (λ a. rw a (λ e. (refl, refl), λ q. refl)))
