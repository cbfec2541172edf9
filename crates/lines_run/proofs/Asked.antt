-- A call put to a sound table: what its identifier is read as and its plan decide alone.
-- Assumes nothing.
use mathlib.Core.Path.{◌≡◌, refl, sym, ap, ◌∙◌}
use mathlib.Core.List.{List}
use Prim.Native.Nat.{ℕ}
use Rattle.std.specs.Prelude.{Ok, Err}
use Rattle.answer.specs.Numbers.{Answer}
use Rattle.answer.specs.declared.Cause.{Cause}
use Rattle.identifier.specs.Identifier.{Token, read_of, with_plan}
use Rattle.model.specs.Request.{ask_of, word_for}
use Rattle.table.specs.Calls.{turned_down, served, call}
use Rattle.table.specs.History.{flat_state}
use Rattle.table.proofs.Statements.{stands_sound, sound_stands}
use Rattle.table_edit.specs.Ready.{Ready, admitted}
use Rattle.table_edit.proofs.Calls.{call_word, call_refused, admits}
use Rattle.lines_text.specs.declared.Verb.{Verb}
use Rattle.lines_text.specs.declared.Verb.TheVariants.{Add, Set, Del, Get}
use Rattle.lines_text.specs.Parsed.{call_of}
use Rattle.lines_run.specs.Buffer.{verb_allowed}

-- neither cause 4 nor cause 5 is met
admits_all : (t : List ℕ) → Ready t → (x : Answer) → x ≡ admitted t x
admits_all t h (Err a) = refl
admits_all t h (Ok w) = sym (admits t w h.shape (stands_sound t (flat_state t) (sound_stands t h.shape h.sound)).1)

-- what the call is for, and the call by its word
named : (v : Verb) (i : Token) (w : ℕ) → (with_plan (verb_allowed v) (read_of i) ≡ word_for (call_of v i)) × (ask_of w (call_of v i) ≡ call_of v w)
named (Add p) i w = (refl, refl)
named (Set p) i w = (refl, refl)
named Del i w = (refl, refl)
named Get i w = (refl, refl)

module _ (t : List ℕ) (h : Ready t) (v : Verb) (i : Token) (x : Answer) (e : x ≡ with_plan (verb_allowed v) (read_of i)) where
  read : x ≡ admitted t (word_for (call_of v i))
  read = e ∙ (named v i 0).0 ∙ admits_all t h (word_for (call_of v i))

  pub asked_word : (w : ℕ) → x ≡ Ok w → call t (call_of v i) ≡ served t (call_of v w)
  asked_word w q = call_word t (call_of v i) x read w q ∙ ap (served t) (named v i w).1

  pub asked_refused : (a : Cause) → x ≡ Err a → call t (call_of v i) ≡ turned_down a t
  asked_refused = call_refused t (call_of v i) x read
