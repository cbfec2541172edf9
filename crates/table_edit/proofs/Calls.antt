-- The calls: what each does where its word is live or not, and where a cause before that is met.
-- Assumes nothing.
use Prim.Native.Nat.{ℕ, ◌+◌, ◌-◌, ◌^◌, ◌≤◌, ◌<◌}
use native.Mathlib.Nat.{sub-zero}
use native.Mathlib.Omega.{arith}
use mathlib.Core.Path.{◌≡◌, refl, sym, ap, ◌∙◌, subst, subst⁻¹}
use mathlib.Core.Bool.{Bool, true, false}
use mathlib.Core.List.{List}
use mathlib.Core.Option.{Option, none, some}
use lib.ListN.{length, get_or, set, length-set}
use Rattle.std.specs.Prelude.{Ok, Err, Some, None, ok_or}
use Rattle.answer.specs.Numbers.{Answer}
use Rattle.lists.proofs.Tests.{cases, cond_true, cond_false}
use Rattle.lists.specs.Entries.{Entry, find}
use Rattle.lists.specs.Totals.{plan_count, totals_of, one_more, one_less}
use Rattle.lists.proofs.Entries.{assignable_byte, find_mem, remove-length}
use Rattle.lists.proofs.Totals.{count_le, count_found, totals_length, totals-at, less_le}
use Rattle.hash.specs.Mix.{mix_of}
use Rattle.answer.specs.declared.Cause.{Cause}
use Rattle.answer.specs.declared.Cause.TheVariants.{NotLive}
use Rattle.identifier.specs.Identifier.{Token, read_of, with_plan}
use Rattle.answer.proofs.Determined.{refused≢accepted}
use Rattle.model.specs.Model.{Call, change, withdraw, query}
use Rattle.model.specs.Request.{word_for, ask_of}
use Rattle.table.specs.Table.{Table, total_numbers, with_count, with_totals}
use Rattle.table.specs.Layout.{live_count_at, totals_at, numbers_of, table_from}
use Rattle.table.specs.Calls.{rows, solutions, table_of, plan_in, shaped, sound, Outcome, turned_down, queried, replaced, served, call_read, call}
use Rattle.table.specs.History.{flat_state}
use Rattle.table.proofs.Numbers.{write_count, read_total, write_more, write_less, long_numbers}
use Rattle.table.proofs.Level.{touch_keeps, touch_totals}
use Rattle.table.proofs.Calls.{FlatStands, stands_look, sound_stands_flat, sound_exactly}
use Rattle.table_edit.proofs.Touched.{live_room}
use Rattle.table_base.specs.Base.{found_of}
use Rattle.table_edit.specs.declared.Edit.{Edit}
use Rattle.table_edit.specs.declared.Edit.TheVariants.{Change, Withdraw}
use Rattle.table_edit.specs.Ready.{Ready, admitted}
use Rattle.table_edit.specs.Edit.{on_bucket, on_base, touched, leaving, recounted, recounted_in, edit_allowed, Movable, asked}

-- ---- a word that is live, or not

found_some : (o : Option ℕ) (p : ℕ) → found_of o ≡ Some p → o ≡ some p
found_some (some q) p e = cc
found_some none p e = absurd (let z : ◌≡◌ {A = ℕ} 0 1 = cc in omega arith)

found_none : (o : Option ℕ) → found_of o ≡ None → o ≡ none
found_none (some q) e = absurd (let z : ◌≡◌ {A = ℕ} 0 1 = cc in omega arith)
found_none none e = refl

-- not live is cause 7
pub was_live : (o : _) (p : ℕ) → ok_or o NotLive ≡ Ok p → o ≡ Some p
was_live (Some q) p e = cc
was_live None p e = absurd (refused≢accepted _ p e)

pub was_gone : (o : _) (c : Cause) → ok_or {T = ℕ} o NotLive ≡ Err c → (o ≡ None) × (c ≡ NotLive)
was_gone (Some q) c e = absurd (refused≢accepted c q (sym e))
was_gone None c e = (refl, cc)

asked_for : (t : List ℕ) (o : Option ℕ) → queried t o ≡ record { answer = ok_or (found_of o) NotLive; table = t }
asked_for t (some p) = refl
asked_for t none = refl

pub query_said : (t : List ℕ) (w : ℕ) (f : _) → f ≡ found_of (plan_in t w) → served t (query w) ≡ record { answer = ok_or f NotLive; table = t }
unfolding served
query_said t w f e = asked_for t (plan_in t w) ∙ ap {B = Outcome} (λ o. record { answer = ok_or o NotLive; table = t }) (sym e)

-- the table after an edit, with the live count
abbrev edited : Edit → ℕ → Table → Table
edited d w T = with_count (touched d w T) (T.count - leaving d)

-- with the totals too, where the word had the plan q
abbrev moved : Edit → ℕ → Table → ℕ → Table
moved d w T q = with_totals (edited d w T) (recounted d q T.totals)

edit_served : (t : List ℕ) (w : ℕ) (d : Edit) → served t (asked d w) ≡ replaced t (moved d w (table_of t)) (plan_in t w)
unfolding served
edit_served t w (Change p) =
    let d : Edit = Change p in
    ap (λ (c : ℕ). replaced t (λ q. with_totals (with_count (touched d w (table_of t)) c) (recounted d q (table_of t).totals)) (plan_in t w))
    (touch_keeps rows solutions mix_of (table_of t) w (on_bucket d) (on_base d) ∙ sym (sub-zero (table_of t).count))
edit_served t w Withdraw = refl

-- the totals of a table, moved where they lie
moved_numbers : (d : Edit) (q : ℕ) (X : Table) → length X.totals ≡ total_numbers → q < total_numbers → edit_allowed d ≡ true
    → numbers_of (with_totals X (recounted d q X.totals)) ≡ recounted_in d q (numbers_of X)
moved_numbers (Change p) q X h l f =
    let Y : Table = with_totals X (one_less q X.totals) in
    write_more rows solutions Y p (omega (arith, assignable_byte p f, length-set X.totals q (get_or X.totals q 0 - 1))) ∙ ap (one_more (totals_at + p)) (write_less rows solutions X q (omega arith))
moved_numbers Withdraw q X h l f = write_less rows solutions X q (omega arith)

-- no total is larger than the live count
pub total_few : (t : List ℕ) → Ready t → (p : ℕ) → p < total_numbers → get_or (table_of t).totals p 0 ≤ (table_of t).count
total_few t h p l =
    let st = sound_stands_flat t h.shape h.sound in
    omega (arith, ap (λ (ts : List ℕ). get_or ts p 0) st.stands.totalled, totals-at total_numbers (flat_state t).live p l, count_le p (flat_state t).live, st.stands.counted)

-- a live word's total can be taken one off, and no total is too large for one more
movable : (d : Edit) (q : ℕ) (X : Table) (es : List Entry) → X.totals ≡ totals_of total_numbers es → q < total_numbers → 0 < plan_count q es → length es + 1 < 2 ^ 64 → edit_allowed d ≡ true
    → Movable d q (numbers_of X)
movable d q X es e l h few f = record {
  long = numbers_long;
  fits = l;
  some = subst⁻¹ (λ (x : ℕ). 0 < x) (read_total rows solutions X q (omega (arith, many)) ∙ at q l) h;
  plan = f;
  room = room;
}
  where
    many : length X.totals ≡ total_numbers
    many = ap length e ∙ totals_length total_numbers es

    at : (p : ℕ) → p < total_numbers → get_or X.totals p 0 ≡ plan_count p es
    at p k = ap (λ (ts : List ℕ). get_or ts p 0) e ∙ totals-at total_numbers es p k

    numbers_long : totals_at + total_numbers ≤ length (numbers_of X)
    numbers_long = omega (arith, long_numbers rows solutions X, many)

    room : (p : ℕ) → p < total_numbers → get_or (one_less (totals_at + q) (numbers_of X)) (totals_at + p) 0 + 1 < 2 ^ 64
    room p k =
        let Y : Table = with_totals X (one_less q X.totals) in
        let y : p < length Y.totals = omega (arith, length-set X.totals q (get_or X.totals q 0 - 1), many) in
        omega (
          arith,
          ap (λ (t : List ℕ). get_or t (totals_at + p) 0) (write_less rows solutions X q (omega (arith, many))),
          read_total rows solutions Y p y,
          less_le q p X.totals,
          at p k,
          count_le p es,
        )

leaving_le : (d : Edit) → leaving d ≤ 1
leaving_le (Change q) = omega arith
leaving_le Withdraw = omega arith

module _ (t : List ℕ) (w : ℕ) (f : _) (e : f ≡ found_of (plan_in t w)) where
  module _ (p : ℕ) (l : f ≡ Some p) where
    pub live : plan_in t w ≡ some p
    live = found_some (plan_in t w) p (sym e ∙ l)

    module _ (h : Ready t) (b : w < 2 ^ rows) where
      st : FlatStands t (flat_state t)
      st = sound_stands_flat t h.shape h.sound

      found : find w (flat_state t).live ≡ some p
      found = sym (stands_look t (flat_state t) st w b) ∙ live

      -- the live count is not 0
      pub counted : (d : Edit) → leaving d ≤ get_or t live_count_at 0
      unfolding table_from
      counted d = omega (arith, leaving_le d, st.stands.counted, remove-length w p (flat_state t).live found)

      plan-small : p < total_numbers
      plan-small = (st.stands.small _ (find_mem w p (flat_state t).live found)).1

      -- the table once it is touched and the live count is written
      module _ (d : Edit) (pf : edit_allowed d ≡ true) (ys : List ℕ) (y : ys ≡ numbers_of (touched d w (table_of t))) where
        abbrev T : Table
        T = table_of t

        abbrev X : Table
        X = edited d w T

        totals_stay : X.totals ≡ T.totals
        totals_stay = touch_totals rows solutions mix_of T w (on_bucket d) (on_base d)

        numbers_X : numbers_of X ≡ set ys live_count_at (get_or t live_count_at 0 - leaving d)
        unfolding table_from
        numbers_X = write_count rows solutions (touched d w T) (T.count - leaving d) ∙ ap (λ (l : List ℕ). set l live_count_at (T.count - leaving d)) (sym y)

        pub edit_movable : Movable d p (set ys live_count_at (get_or t live_count_at 0 - leaving d))
        edit_movable =
            subst (Movable d p) numbers_X
            (movable d p X (flat_state t).live (totals_stay ∙ st.stands.totalled) plan-small (count_found w p (flat_state t).live found) (subst (λ (k : ℕ). k + 1 < 2 ^ 64) st.stands.counted (live_room h)) pf)

        pub edit_live : served t (asked d w) ≡ record { answer = Ok p; table = recounted_in d p (set ys live_count_at (get_or t live_count_at 0 - leaving d)) }
        edit_live =
            edit_served t w d ∙ ap (replaced t (moved d w T)) live
            ∙ ap {B = Outcome} (λ l. record { answer = Ok p; table = l })
            (ap (λ (ts : List ℕ). numbers_of (with_totals X (recounted d p ts))) (sym totals_stay)
            ∙ moved_numbers d p X (ap length (totals_stay ∙ st.stands.totalled) ∙ totals_length total_numbers (flat_state t).live) plan-small pf ∙ ap (recounted_in d p) numbers_X)

  module _ (l : f ≡ None) where
    pub gone : plan_in t w ≡ none
    gone = found_none (plan_in t w) (sym e ∙ l)

    pub edit_gone : (d : Edit) → served t (asked d w) ≡ turned_down NotLive t
    edit_gone d = edit_served t w d ∙ ap (replaced t (moved d w (table_of t))) gone

-- ---- the causes before that

abbrev after : List ℕ → Call Token → Answer → Outcome
after t c (Err a) = turned_down a t
after t c (Ok w) = served t (ask_of w c)

after-admitted : (t : List ℕ) (c : Call Token) (x : Answer) → call_read t c x ≡ after t c (admitted t x)
after-admitted t c (Err a) = refl
after-admitted t c (Ok w) = cases (shaped t) (λ p. rw p (cases (sound t) (λ q. rw q) (λ q. rw q))) (λ p. rw p)

module _ (t : List ℕ) (c : Call Token) (x : Answer) (e : x ≡ admitted t (word_for c)) where
  pub call_word : (w : ℕ) → x ≡ Ok w → call t c ≡ served t (ask_of w c)
  unfolding call
  call_word w q = after-admitted t c (word_for c) ∙ ap (after t c) (sym e ∙ q)

  pub call_refused : (a : Cause) → x ≡ Err a → call t c ≡ turned_down a t
  unfolding call
  call_refused a q = after-admitted t c (word_for c) ∙ ap (after t c) (sym e ∙ q)

-- the same for an edit
pub edit_word : (t : List ℕ) (i : Token) (d : Edit) (x : Answer) → x ≡ admitted t (with_plan (edit_allowed d) (read_of i)) → (w : ℕ) → x ≡ Ok w → call t (asked d i) ≡ served t (asked d w)
edit_word t i (Change q) x = call_word t (change i q) x
edit_word t i Withdraw x = call_word t (withdraw i) x

pub edit_refused : (t : List ℕ) (i : Token) (d : Edit) (x : Answer) → x ≡ admitted t (with_plan (edit_allowed d) (read_of i)) → (a : Cause) → x ≡ Err a → call t (asked d i) ≡ turned_down a t
edit_refused t i (Change q) x = call_refused t (change i q) x
edit_refused t i Withdraw x = call_refused t (withdraw i) x

passed : (t : List ℕ) (x : Answer) (w : ℕ) → admitted t x ≡ Ok w → (shaped t ≡ true) × (sound t ≡ true)
passed t (Err a) w e = absurd (refused≢accepted a w e)
passed t (Ok v) w e =
    cases (shaped t)
    (λ p. cases (sound t) (λ q. (p, q)) (λ q. absurd (refused≢accepted _ w (sym (cond_true _ _ p ∙ cond_false (Ok v) _ q) ∙ e))))
    (λ p. absurd (refused≢accepted _ w (sym (cond_false _ _ p) ∙ e)))

-- a call that is admitted meets a sound table
pub ready : (t : List ℕ) (x y : Answer) (w : ℕ) → x ≡ admitted t y → x ≡ Ok w → ((i : ℕ) → get_or t i 0 < 2 ^ rows) → Ready t
ready t x y w e q b = let p = passed t y w (sym e ∙ q) in record { shape = p.0; sound = (sound_exactly t p.0 b).0 p.1 }

-- and its plan may be given
word_allowed : (b : Bool) (y : Answer) (w : ℕ) → with_plan b y ≡ Ok w → b ≡ true
word_allowed b (Err a) w e = absurd (refused≢accepted a w e)
word_allowed true (Ok v) w e = refl
word_allowed false (Ok v) w e = absurd (refused≢accepted _ w e)

admitted_word : (t : List ℕ) (y : Answer) (w : ℕ) → admitted t y ≡ Ok w → y ≡ Ok w
admitted_word t (Err a) w e = absurd (refused≢accepted a w e)
admitted_word t (Ok v) w e = let p = passed t (Ok v) w e in sym (cond_true _ _ p.0 ∙ cond_true _ _ p.1) ∙ e

pub allowed : (t : List ℕ) (x : Answer) (b : Bool) (y : Answer) (w : ℕ) → x ≡ admitted t (with_plan b y) → x ≡ Ok w → b ≡ true
allowed t x b y w e q = word_allowed b y w (admitted_word t (with_plan b y) w (sym e ∙ q))

-- ---- the tests of an admission

module _ (t : List ℕ) (w : ℕ) where
  pub admits : shaped t ≡ true → sound t ≡ true → admitted t (Ok w) ≡ Ok w
  admits p q = cond_true _ _ p ∙ cond_true _ _ q
