-- What is open, in the first numbers of a buffer for the longest table, and what an opening leaves there.
-- Assumes nothing.
use mathlib.Core.Path.{◌≡◌, refl, sym, ap, ◌∙◌}
use mathlib.Core.Bool.{true, false}
use mathlib.Core.List.{List, ◌++◌}
use Rattle.std.specs.Prelude.{Option, Some}
use Prim.Native.Nat.{ℕ, ◌≤◌}
use native.Mathlib.Omega.{arith}
use lib.ListN.{length, take, drop, replicate, length-append, length-replicate}
use lib.Seq.{length-take-le, take-append-le, take_all, drop_at}
use borrow.Author.Tests.{eq-eqb}
use Rattle.std.specs.Prelude.{Ok, Err}
use Rattle.answer.specs.Numbers.{Answer}
use Rattle.answer.specs.declared.Cause.TheVariants.{WrongBuckets}
use Rattle.table.specs.Table.{open_table}
use Rattle.table.specs.Layout.{in_range, length_of, longest, numbers_of}
use Rattle.table.specs.Calls.{rows, solutions, Outcome, open_call}
use Rattle.table_layout.proofs.Shape.{range}
use Rattle.table_open.proofs.Opened.{accepted}
use Rattle.lines_text.specs.Line.{opening}
use Rattle.lines_text.specs.Printed.{printed}
use Rattle.lines_open.specs.Desk.{obey, tables}
use Rattle.lines_open.specs.declared.Buffer.{Buffer}
use Rattle.lines_open.specs.Buffer.{held_in, Fits, Did}

-- ---- what is open

-- the first numbers were lent and came back as u
pub part_back : (n : ℕ) (t u : List ℕ) → length u ≡ n → take n (u ++ drop n t) ≡ u
part_back n t u e = take-append-le n u (drop n t) (omega arith) ∙ take_all n u (omega arith)

-- and what is beyond them stayed
pub beyond_part : (n : ℕ) (t u : List ℕ) → length u ≡ n → drop n (u ++ drop n t) ≡ drop n t
beyond_part n t u e = drop_at u (drop n t) n e

-- and none is missing
pub part_whole : (n : ℕ) (t u : List ℕ) → length u ≡ n → n ≤ length (u ++ drop n t)
part_whole n t u e = rw (length-append u (drop n t)) (omega arith)

-- ---- an opening

abbrev pub zeros : ℕ → ℕ → List ℕ
zeros b1 b2 = replicate (length_of rows solutions b1 b2) 0

-- the outcome of an opening in the program
pub open_is : (b1 b2 : ℕ) → (in_range b1 b2 ≡ true → open_call b1 b2 (zeros b1 b2) ≡ record { answer = Ok 0; table = numbers_of (open_table rows solutions b1 b2) })
    × (in_range b1 b2 ≡ false → open_call b1 b2 (zeros b1 b2) ≡ record { answer = Err WrongBuckets; table = zeros b1 b2 })
unfolding open_call
open_is b1 b2 = (
  λ r. rw (r, length-replicate {A = ℕ} (length_of rows solutions b1 b2) 0, eq-eqb (length_of rows solutions b1 b2) (length_of rows solutions b1 b2) refl),
  λ r. rw r,
)

module _ (b1 b2 n : ℕ) (t : List ℕ) (i : in_range b1 b2 ≡ true) (e : n ≡ length_of rows solutions b1 b2) (l : length t ≡ longest rows solutions) where
  pub part-fits : n ≤ length t
  part-fits = let h = range b1 b2 i in omega arith

  pub part_length : length (take n t) ≡ n
  part_length = length-take-le n t part-fits

  -- the part was lent to the opening
  pub opened-part : open_call b1 b2 (take n t) ≡ record { answer = tables.answer b1 b2; table = tables.opened b1 b2 }
  opened-part = accepted b1 b2 (take n t) i (part_length ∙ e) ∙ sym ((open_is b1 b2).0 i)

  -- what came back as u, with this answer
  module _ (m : Option (List ℕ)) (a : Answer) (u : List ℕ) (f : (a ≡ (open_call b1 b2 (take n t)).answer) × (u ≡ (open_call b1 b2 (take n t)).table)) where
    pub opening_says : printed a ≡ (obey tables m (opening b1 b2)).output
    opening_says = ap printed (f.0 ∙ ap (λ (q : Outcome). q.answer) opened-part)

    pub opening_leaves : length u ≡ length (take n t) → Some (take n (u ++ drop n t)) ≡ (obey tables m (opening b1 b2)).state
    opening_leaves k = ap Some (part_back n t u (k ∙ part_length)) ∙ rw ((open_is b1 b2).0 i) (ap Some (f.1 ∙ rw (opened-part, (open_is b1 b2).0 i)))

-- an opening that is refused changes nothing
pub open_refused : (b1 b2 : ℕ) (b : Buffer) → in_range b1 b2 ≡ false → Fits b → Did (obey tables (held_in b) (opening b1 b2)) b (Some (Err WrongBuckets)) b
open_refused b1 b2 b i f = rw ((open_is b1 b2).1 i) (record { output = refl; fits = f; state = refl; stays = refl })
