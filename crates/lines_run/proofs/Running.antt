-- A run at the start of a line: what is printed, and what the lines from there on add to it.
-- Assumes nothing.
use Rattle.std.proofs.Common.{◌≡◌, ℕ, ◌+◌, ◌*◌, ◌≤◌, List, [], ◌∷◌, ◌++◌, length, min, take, leb, sym, ap, ◌∙◌, subst, arith, length-append}
use lib.ListN.{length-take}
use lib.Seq.{take_all}
use borrow.Author.Tests.{leb-true, leb-false}
use Rattle.lists.proofs.Tests.{cases}
use Rattle.std.specs.Prelude.{Option, None}
use Rattle.answer.specs.Numbers.{Answer}
use Rattle.codec.specs.Parts.{written}
use Rattle.codec.proofs.Part.{written-append, written_none}
use Rattle.lines_text.specs.Line.{lf, parted}
use Rattle.lines_text.specs.Printed.{most_printed, bad_line}
use Rattle.lines_open.specs.declared.Buffer.{Buffer}
use Rattle.lines_open.specs.Desk.{tables}
use Rattle.lines_open.specs.Buffer.{held_in, said, Did}
use Rattle.lines_run.specs.Run.{input_limit, counted, turn, output_from, output}
use Rattle.lines_run.specs.Buffer.{AllReady, Holds, Printed}
use Rattle.lines_run.proofs.Agree.{ready_next}
use Rattle.lines_run.proofs.Lines.{turn_most, from_line, from-unfinished, from_end}

-- what the lines of s print, if m is open
abbrev pub lines_from : Option (List ℕ) → List ℕ → List ℕ
lines_from m s = output_from tables m (parted lf s)

-- at the start of the lines `rest` of s: at is the number of bytes printed, o are the bytes, o₀ were those at first
pub record Running (s o₀ : List ℕ) (b : Buffer) (o : List ℕ) (at : ℕ) (rest : List ℕ) : Type 0 where
  pub wide : length o ≡ length o₀
  pub holds : Holds b
  pub left : length rest ≤ length s
  pub few : at + most_printed * length rest ≤ most_printed * length s
  pub count : at + length (lines_from (held_in b) rest) ≡ length (lines_from None s)
  pub bytes : written at (lines_from (held_in b) rest) o ≡ written 0 (lines_from None s) o₀

module _ (s o₀ : List ℕ) (b : Buffer) (o : List ℕ) (at : ℕ) (rest : List ℕ) (h : Running s o₀ b o at rest) where
  -- one line further
  module _ (line after : List ℕ) (e : parted lf rest ≡ line ∷ parted lf after) (l : length line + 1 + length after ≡ length rest)
      (b' : Buffer) (a : Option Answer) (d : Did (turn tables (held_in b) line) b a b') where
    more : lines_from (held_in b) rest ≡ said a ++ lines_from (held_in b') after
    more = from_line tables (held_in b) rest line after e ∙ rw (d.output, d.state)

    said_most : length (said a) ≤ most_printed
    said_most = rw d.output (turn_most tables (held_in b) line)

    pub running_next : (at' : ℕ) (o' : List ℕ) → length o' ≡ length o → (at' ≡ at + length (said a)) × (o' ≡ written at (said a) o) → Running s o₀ b' o' at' after
    running_next at' o' w p = record {
      wide = w ∙ h.wide;
      holds = record { fits = d.fits; ready = subst AllReady (sym d.state) (ready_next (held_in b) h.holds.ready line) };
      left = let q = h.left in omega arith;
      few = let q = h.few in let n = said_most in let k = p.0 in omega arith;
      count = let q = h.count in let k = p.0 in let n : length (lines_from (held_in b) rest) ≡ length (said a) + length (lines_from (held_in b') after) = ap length more ∙ length-append (said a) (lines_from (held_in b') after) in omega arith;
      bytes = rw (p.1, p.0) (sym (written-append at (said a) (lines_from (held_in b') after) o) ∙ ap (λ (r : List ℕ). written at r o) (sym more) ∙ h.bytes);
    }

  module _ (e : parted lf rest ≡ rest ∷ []) where
    -- a last line without LF
    pub running_bad : (length rest ≡ 0 → ⊥) → (k : ℕ) (o' : List ℕ) → (k ≡ at + length bad_line) × (o' ≡ written at bad_line o)
        → Printed (lines_from None s) (most_printed * length s) o₀ k o'
    running_bad i k o' p =
        let u = from-unfinished tables (held_in b) rest i e in
        record {
          count = let c = h.count in let n = ap length u in let q = p.0 in omega arith;
          bytes = p.1 ∙ ap (λ (r : List ℕ). written at r o) (sym u) ∙ h.bytes;
          fits = let f = h.few in let q = p.0 in omega arith;
        }

    pub running_end : length rest ≡ 0 → Printed (lines_from None s) (most_printed * length s) o₀ at o
    running_end i =
        let u = from_end tables (held_in b) rest i e in
        record {
          count = let c = h.count in let n = ap length u in omega arith;
          bytes = sym (written_none at o) ∙ ap (λ (r : List ℕ). written at r o) (sym u) ∙ h.bytes;
          fits = let f = h.few in omega arith;
        }

-- the bytes that count
pub counted_is : (s : List ℕ) (k : ℕ) → k ≡ min (length s) input_limit → take k s ≡ counted s
counted_is s k e =
    cases (leb (length s) input_limit)
    (λ t. let l = leb-true _ _ t in take_all k s (omega arith) ∙ sym (take_all input_limit s (omega arith)))
    (λ t. let l = leb-false _ _ t in let n : k ≡ input_limit = omega arith in rw n)

-- x are the bytes of the input s that count
pub run-printed : (s x : List ℕ) → x ≡ counted s → (o o' : List ℕ) (k : ℕ) → Printed (lines_from None x) (most_printed * length x) o k o'
    → Printed (output s) (most_printed * length (counted s)) o k o'
unfolding output
run-printed s x e o o' k p = rw (← e) p

-- the longest output of all
pub run_most : (s : List ℕ) (k : ℕ) → k ≤ most_printed * length (counted s) → k ≤ most_printed * input_limit
run_most s k h = let l : length (counted s) ≤ input_limit = rw length-take (omega arith) in omega arith
