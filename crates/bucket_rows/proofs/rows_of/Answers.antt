-- `bucket_rows::rows_of` meets its contract.
-- Assumes nothing.
use mathlib.Core.Path.{◌≡◌, sym, ◌∙◌}
use mir.Syntax.{w64}
use mir.Val.{Fits}
use Prim.Native.Nat.{ℕ}
use lib.ListN.{length, get_or}
use Rattle.bucket_pairs.specs.declared.Guess.TheVariants.{Rows, Singular}
use Rattle.bucket_rows.proofs.Free.{cols→own}
use Rattle.bucket_rows.proofs.Exact.{sound_empty, sound_guess, sound_yes, sound_no}
use borrow.Author.Rules.{rules}
use Rattle.bucket_rows.proofs.rows_of.Goals as goal

pub returns-then-not-free_cols : goal.returns-then-not-free_cols
returns-then-not-free_cols c = sound_no 64 c.args.mark c.args.cols (sym c.free_cols.ensures ∙ c.if-not-free_cols.true)

pub returns-then-mark-eq0 : goal.returns-then-mark-eq0
returns-then-mark-eq0 c =
    sound_empty 64 c.args.mark c.args.cols (search rules) c.if-mark-eq0.true (sym c.free_cols.ensures ∙ c.if-not-free_cols.false)

pub guess_rows-requires : goal.guess_rows-requires
guess_rows-requires c =
    let n : length c.args.cols ≡ 64 = search rules in
    cols→own 64 c.args.mark c.args.cols n (sym c.free_cols.ensures ∙ c.if-not-free_cols.false)

pub returns-in-Rows : goal.returns-in-Rows
returns-in-Rows c =
    let n : length c.args.cols ≡ 64 = search rules in
    let f : (i : ℕ) → Fits w64 (get_or c.args.cols i 0) = λ i. search rules in
    let r : (i : ℕ) → Fits w64 (get_or c.in-Rows.rows i 0) = λ i. search rules in
    sound_guess 64 c.args.mark c.args.cols (Rows c.in-Rows.rows) n (λ i. (f i).fits) (λ i. (r i).fits) (sym c.free_cols.ensures ∙ c.if-not-free_cols.false) c.in-Rows.ensures

pub returns-in-Singular : goal.returns-in-Singular
returns-in-Singular c =
    let n : length c.args.cols ≡ 64 = search rules in
    let f : (i : ℕ) → Fits w64 (get_or c.args.cols i 0) = λ i. search rules in
    sound_guess 64 c.args.mark c.args.cols Singular n (λ i. (f i).fits) tt (sym c.free_cols.ensures ∙ c.if-not-free_cols.false) c.in-Singular.ensures

pub returns : goal.returns
returns c =
    sound_yes 64 c.args.mark c.args.cols c.eliminate.result (sym c.free_cols.ensures ∙ c.if-not-free_cols.false) c.eliminate.ensures
