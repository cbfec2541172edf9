-- Calls with anything as identifier: each is turned down by cause 15, 1, 2 or 14 and changes nothing, or is the step by its word. Causes 4
-- and 5 are never given, and the size stays. Assumes nothing.
use Prim.Native.Nat.{ℕ, ◌^◌, ◌<◌}
use native.Mathlib.Omega.{arith}
use mathlib.Core.Path.{◌≡◌, refl, sym, ap, ◌∙◌, subst, subst⁻¹}
use mathlib.Core.Bool.{true, false}
use mathlib.Core.Logic.{inl, inr, ⊎_elim}
use lib.Dec.{eqb, leb}
use borrow.Author.Tests.{leb-false, eqb-false, ne_eqb}
use Rattle.std.specs.Prelude.{Ok, Err}
use Rattle.lists.proofs.Tests.{by_test}
use Rattle.answer.specs.Numbers.{Answer, number_of, cause_number}
use Rattle.identifier.specs.Identifier.{Token, word_of, with_plan}
use Rattle.identifier.proofs.Causes.{of_identifier, by_reading}
use Rattle.identifier.proofs.Words.{word_lt}
use Rattle.model.specs.Levels.{first_level, second_level}
use Rattle.model.specs.Model.{State, Call, Outcome, step}
use Rattle.model.specs.Request.{subject, plan_allowed, word_for, ask_of, by_word, serve_read, serve, Request, ask, respond, calls_of}
use Rattle.model.specs.Machine.{accepted}
use Rattle.model.specs.History.{model}
use Rattle.model.proofs.Steps.{refused_keeps, Follows, by_step}
use Rattle.model.proofs.Valid.{Valid}
use Rattle.model.proofs.Calls.{Done, done_one, valid_one, StandsFor}

-- not the number of cause 4, nor that of 5
abbrev pub Never45 : ℕ → Type 0
Never45 n = (n ≡ 4 → ⊥) × (n ≡ 5 → ⊥)

-- a call is for the word of its identifier, and its plan is allowed, or it is refused with a cause that is none of the table's
abbrev pub Reads : Call Token → Answer → Type 0
Reads c (Ok w) = (w ≡ word_of (subject c)) × (plan_allowed c ≡ true)
Reads c (Err e) = (0 < cause_number e) × Never45 (cause_number e)

pub reads : (c : Call Token) → Reads c (word_for c)
reads c =
    by_reading (subject c) (λ r. Reads c (with_plan (plan_allowed c) r))
    (λ e o. let n : ℕ = cause_number e in (
      leb-false n 0 (of_identifier (λ k. leb k 0) n refl refl refl o),
      (eqb-false n 4 (of_identifier (λ k. eqb k 4) n refl refl refl o), eqb-false n 5 (of_identifier (λ k. eqb k 5) n refl refl refl o)),
    ))
    (by_test (Reads c) (plan_allowed c) (λ a. (refl, a)) (λ a. omega arith))

-- so the word is the identifier's, and has 64 bits
pub word-for : (c : Call Token) (w : ℕ) → word_for c ≡ Ok w → w ≡ word_of (subject c)
word-for c w e = (subst (Reads c) e (reads c)).0

-- and the plan may be given
pub word_plan : (c : Call Token) (w : ℕ) → word_for c ≡ Ok w → plan_allowed c ≡ true
word_plan c w e = (subst (Reads c) e (reads c)).1

pub word_small : (c : Call Token) (w : ℕ) → word_for c ≡ Ok w → w < 2 ^ 64
word_small c w e = subst⁻¹ (λ (v : ℕ). v < 2 ^ 64) (word-for c w e) (word_lt (subject c))

pub serve_each : (s : State) (c : Call Token) → Follows first_level second_level s (by_word c) (serve s c)
serve_each s c = go (word_for c) (reads c)
  where
    go : (r : Answer) → Reads c r → Follows first_level second_level s (by_word c) (serve_read s c r)
    go (Err e) h = inl (ne_eqb (cause_number e) 0 (omega arith), refl)
    go (Ok w) h = inr (ap (λ (v : ℕ). step first_level second_level s (ask_of v c)) h.0)

-- a request stands for its calls
pub stands_for : StandsFor first_level second_level model calls_of
stands_for = record { keeps = keeps; each = each }
  where
    keeps : (s : State) (q : Request) → Valid first_level second_level s → Valid first_level second_level (respond s q).after
    keeps s (ask c) = valid_one first_level second_level s (by_word c) (serve s c) (serve_each s c)

    each : (s : State) (q : Request) → Valid first_level second_level s → Done first_level second_level s (calls_of q) (accepted (respond s q).answer) (respond s q).after
    each s (ask c) v = done_one first_level second_level s (by_word c) (serve s c) (serve_each s c)

-- a refused call changes nothing
pub respond_keeps : (s : State) (q : Request) → accepted (respond s q).answer ≡ false → (respond s q).after ≡ s
respond_keeps s (ask c) r =
    ⊎_elim (λ h. h.1)
    (λ e. ap (λ (o : Outcome). o.after) e ∙ refused_keeps first_level second_level s (by_word c) (sym (ap (λ (o : Outcome). accepted o.answer) e) ∙ r))
    (serve_each s c)

-- ---- causes 4 and 5

pub respond_never : (s : State) (q : Request) → Never45 (number_of (respond s q).answer)
respond_never s (ask c) = go (word_for c) (reads c)
  where
    go : (r : Answer) → Reads c r → Never45 (number_of (serve_read s c r).answer)
    go (Err e) h = h.1
    go (Ok w) h =
        by_step first_level second_level s (λ c o. Never45 (number_of o.answer)) (λ c a r k. omega arith) (λ e a. omega arith) (λ e q f. omega arith) (λ w q f. omega arith)
        (λ w q. omega arith) (ask_of w c)

-- ---- the size that an opening fixed stays

pub respond_size : (s : State) (q : Request) → (respond s q).after.size ≡ s.size
respond_size s (ask c) = go (word_for c)
  where
    go : (r : Answer) → (serve_read s c r).after.size ≡ s.size
    go (Err e) = refl
    go (Ok w) = by_step first_level second_level s (λ c o. o.after.size ≡ s.size) (λ c a r k. refl) (λ e a. refl) (λ e q f. refl) (λ w q f. refl) (λ w q. refl) (ask_of w c)
