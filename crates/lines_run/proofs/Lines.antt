-- The lines of an input one after the other, from index i on, and how long what they print is.
-- Assumes nothing.
use mathlib.Core.Path.{◌≡◌, refl, ap, ◌∙◌}
use mathlib.Core.List.{List, [], ◌∷◌, ◌++◌}
use Rattle.std.specs.Prelude.{Option, None, Some}
use Prim.Native.Nat.{ℕ, suc, ◌≤◌}
use native.Mathlib.Omega.{arith}
use lib.Dec.{leb}
use lib.ListN.{length}
use Rattle.lists.proofs.Tests.{cases}
use Rattle.lines_text.specs.Line.{lf, parted, Command, opening, ask, bad, command_of}
use Rattle.lines_text.specs.Printed.{most_printed, bad_line}
use Rattle.lines_text.proofs.Parted.{parted_some}
use Rattle.lines_text.proofs.Printed.{printed_most}
use Rattle.lines_open.specs.Desk.{Desk, obey}
use Rattle.lines_run.specs.Run.{line_limit, unfinished, turn, output_from}

-- ---- the longest line that is printed

module _ {T : Type 0} (D : Desk T) where
  obey_most : (m : Option T) (c : Command) → length (obey D m c).output ≤ most_printed
  obey_most m (opening b1 b2) = printed_most (D.answer b1 b2)
  obey_most None (ask c) = omega arith
  obey_most (Some t) (ask c) = printed_most (D.calls.answer t c)
  obey_most m bad = omega arith

  pub turn_most : (m : Option T) (s : List ℕ) → length (turn D m s).output ≤ most_printed
  turn_most m s = cases (leb (suc (length s)) line_limit) (λ e. rw e (obey_most m (command_of s))) (λ e. rw e (omega arith))

  -- ---- one line, and those after it

  more : (m : Option T) (s : List ℕ) (ps : List (List ℕ)) → (ps ≡ [] → ⊥) → output_from D m (s ∷ ps) ≡ (turn D m s).output ++ output_from D (turn D m s).state ps
  more m s [] h = absurd (h refl)
  more m s (p ∷ ps) h = refl

  module _ (m : Option T) (s : List ℕ) where
    -- a line with its LF, and what is after it
    pub from_line : (line after : List ℕ) → parted lf s ≡ line ∷ parted lf after
        → output_from D m (parted lf s) ≡ (turn D m line).output ++ output_from D (turn D m line).state (parted lf after)
    from_line line after e = ap (output_from D m) e ∙ more m line (parted lf after) (parted_some lf after)

    -- a last line without LF
    pub from-unfinished : (length s ≡ 0 → ⊥) → parted lf s ≡ s ∷ [] → output_from D m (parted lf s) ≡ bad_line
    from-unfinished h e = ap (output_from D m) e ∙ unfinished_some s h
      where
        unfinished_some : (s : List ℕ) → (length s ≡ 0 → ⊥) → unfinished s ≡ bad_line
        unfinished_some [] h = absurd (h refl)
        unfinished_some (x ∷ s) h = refl

    -- no line is left
    pub from_end : length s ≡ 0 → parted lf s ≡ s ∷ [] → output_from D m (parted lf s) ≡ []
    from_end h e = ap (output_from D m) e ∙ unfinished_none s h
      where
        unfinished_none : (s : List ℕ) → length s ≡ 0 → unfinished s ≡ []
        unfinished_none [] h = refl
        unfinished_none (x ∷ s) h = absurd (omega arith)
