-- A table is filled word by word, and is sound at each.
-- Assumes nothing.
use Prim.Native.Nat.{ℕ, suc, ◌+◌, ◌%◌, ◌^◌, ◌≤◌, ◌<◌}
use native.Mathlib.Nat.{mod-lt}
use native.Mathlib.Numerals.{add-one}
use native.Mathlib.Omega.{arith}
use mathlib.Core.Path.{◌≡◌, refl, sym, ap, ◌∙◌, subst, subst⁻¹}
use mathlib.Core.Bool.{Bool, true, false, not, true≢false, cond}
use mathlib.Core.List.{List, []}
use lib.Dec.{eqb}
use lib.ListN.{length, get_or, drop, drop_of_length-le}
use lib.Seq.{drop-cons}
use borrow.Author.Tests.{lt-ltb}
use Rattle.std.specs.Prelude.{Ok, Err, is_ok, is_err}
use Rattle.answer.specs.Numbers.{Answer}
use Rattle.answer.proofs.Determined.{accepted-ok}
use Rattle.lists.specs.Entries.{desk_plan, assignable}
use Rattle.lists.proofs.Tests.{by_test, cond_true, cond_false}
use Rattle.model.specs.Model.{add}
use Rattle.model.specs.Machine.{accepted}
use Rattle.table.specs.Layout.{in_range, length_of}
use Rattle.table.specs.Calls.{rows, solutions, Outcome, open_call}
use Rattle.table.proofs.Statements.{opening_stands, stands_sound, served-sound}
use Rattle.table_edit.specs.Ready.{Ready}
use Rattle.run_probe.specs.Steps.{Probed}
use Rattle.run_probe.specs.Fill.{add_of, taken_from, filled}

-- the plan of each word may be given
pub low-plan : (w : ℕ) → assignable (w % 128) ≡ true
low-plan w = let l : w % 128 < 128 = mod-lt w (omega arith) in lt-ltb (w % 128) desk_plan (omega arith)

-- the code's test of the answer a, which the definition calls b
pub tested : {a b : Answer} {y : Bool} → a ≡ b → y ≡ is_err a → accepted b ≡ not y
tested {a} q h = ap (λ (z : Answer). accepted z) (sym q) ∙ sym (accepted-ok a) ∙ either a ∙ ap not (sym h)
  where
    either : (a : Answer) → is_ok a ≡ not (is_err a)
    either (Ok n) = refl
    either (Err c) = refl

-- a number and words are those of the definition
abbrev pub Gives : Probed → ℕ → List ℕ → Type 0
Gives p n ws = (n ≡ p.number) × (ws ≡ p.words)

-- i of the words were accepted, and t is the table then
pub record Filling (t₀ ws t : List ℕ) (i : ℕ) : Type 0 where
  pub ready : Ready t
  pub same : taken_from i t (drop i ws) ≡ taken_from 0 t₀ ws

module _ (t₀ ws t : List ℕ) (i : ℕ) (h : Filling t₀ ws t i) where
  abbrev w : ℕ
  w = get_or ws i 0

  module _ (l : i < length ws) (u : List ℕ) (q : u ≡ (add_of t w).table) where
    here : cond (accepted (add_of t w).answer) (taken_from (suc i) (add_of t w).table (drop (suc i) ws)) (record { number = i; words = (add_of t w).table }) ≡ taken_from 0 t₀ ws
    unfolding taken_from
    here = ap (taken_from i t) (sym (drop-cons ws i 0 l)) ∙ h.same

    pub filling_next : w < 2 ^ 64 → accepted (add_of t w).answer ≡ true → Filling t₀ ws u (i + 1)
    filling_next small y =
        let k = served-sound t h.ready.shape h.ready.sound w small (add w (w % 128)) (low-plan w) in
        subst⁻¹ (λ (v : List ℕ). Filling t₀ ws v (i + 1)) q (record {
          ready = record { shape = k.0; sound = k.1 };
          same = rw add-one (sym (cond_true _ _ y) ∙ here);
        })

    pub filling_stops : accepted (add_of t w).answer ≡ false → Gives (taken_from 0 t₀ ws) i u
    filling_stops n = subst (λ (p : Probed). Gives p i u) (sym (cond_false _ _ n) ∙ here) (refl, q)

  pub filling_ends : length ws ≤ i → Gives (taken_from 0 t₀ ws) i t
  unfolding taken_from
  filling_ends l =
      let e : taken_from i t [] ≡ taken_from 0 t₀ ws = ap (taken_from i t) (sym (drop_of_length-le ws l)) ∙ h.same in
      subst (λ (p : Probed). Gives p i t) e (refl, refl)

-- all were accepted
pub filling_all : (t₀ ws t : List ℕ) (i : ℕ) → Filling t₀ ws t i → length ws ≤ i → i ≤ length ws → Gives (taken_from 0 t₀ ws) (length ws) t
filling_all t₀ ws t i h l k = let e : i ≡ length ws = omega arith in subst (λ n. Gives (taken_from 0 t₀ ws) n t) e (filling_ends t₀ ws t i h l)

module _ (b1 b2 : ℕ) (t ws u : List ℕ) (q : u ≡ (open_call b1 b2 t).table) where
  opened : accepted (open_call b1 b2 t).answer ≡ true → open_call b1 b2 t ≡ record { answer = Ok 0; table = (open_call b1 b2 t).table }
  unfolding open_call
  opened =
      by_test (λ (o : Outcome). accepted o.answer ≡ true → o ≡ record { answer = Ok 0; table = o.table }) (in_range b1 b2)
      (λ r. by_test (λ (o : Outcome). accepted o.answer ≡ true → o ≡ record { answer = Ok 0; table = o.table }) (eqb (length t) (length_of rows solutions b1 b2))
      (λ e y. refl) (λ e y. absurd (true≢false (sym y))))
      (λ r y. absurd (true≢false (sym y)))

  -- what an accepted opening leaves is sound
  pub opened_ready : accepted (open_call b1 b2 t).answer ≡ true → Ready u
  opened_ready y =
      let k = stands_sound _ _ (opening_stands (open_call b1 b2 t).table (record { size = record { buckets1 = b1; buckets2 = b2 }; before = t; accepted = opened y })) in
      subst⁻¹ Ready q (record { shape = k.0; sound = k.2 })

  pub filled_some : accepted (open_call b1 b2 t).answer ≡ true → (n : ℕ) (v : List ℕ) → Gives (taken_from 0 u ws) n v → Gives (filled b1 b2 t ws) n v
  unfolding filled
  filled_some y n v = subst (λ (p : Probed). Gives p n v) (ap (λ (x : List ℕ). taken_from 0 x ws) q ∙ sym (cond_true _ _ y))

  pub filled_none : accepted (open_call b1 b2 t).answer ≡ false → Gives (filled b1 b2 t ws) 0 u
  unfolding filled
  filled_none n = subst (λ (p : Probed). Gives p 0 u) (sym (cond_false _ _ n)) (refl, q)
