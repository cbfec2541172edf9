-- `bucket_words::withdraw` meets its contract: what is stored is the bucket after the step. The column of a live vector is not 0, so it has a
-- lowest bit, the row that is freed.
-- Assumes nothing.
use mathlib.Core.Path.{◌≡◌, sym, ap, ap₂, ◌∙◌, subst}
use mathlib.Core.List.{List}
use Prim.Native.Nat.{ℕ, ◌^◌, ◌<◌}
use lib.Count.{count_trailing_zeros}
use lib.ListN.{get_or, take, drop}
use mir.Val.{Fits}
use mir.Syntax.{w64}
use borrow.Author.Rules.{rules}
use Rattle.std.specs.Prelude.{Option, Some, is_some, option_map, unwrap_or}
use Rattle.gf2.specs.Vectors.{product, row_step, sol_step, exchange, row_in}
use Rattle.bucket.specs.declared.Bucket.{Bucket}
use Rattle.bucket.specs.Bucket.{row_by, row_of}
use Rattle.bucket.proofs.Laws.{row-by, freed_lt, withdraw-done, withdraw_none}
use Rattle.bucket_words.specs.Words.{words_of, bucket_from}
use Rattle.bucket_words.proofs.OnWords.{withdrawn_is}
use Rattle.bucket_words.proofs.withdraw.Goals.{In-Some}
use Rattle.bucket_words.proofs.withdraw.Goals as goal

-- the row of k, by the columns and the product that the code has
row_is : (t : List ℕ) (k : ℕ) {cols : List ℕ} {p : ℕ} {o : Option ℕ} → cols ≡ take 64 t → p ≡ product cols k → o ≡ row_by 64 p (get_or t 64 0) → row_of 64 k (bucket_from 64 8 t) ≡ o
unfolding bucket_from
row_is t k e q f =
    sym (row-by 64 k (bucket_from 64 8 t)) ∙ ap (λ (p : ℕ). row_by 64 p (get_or t 64 0)) (sym (q ∙ ap (λ (l : List ℕ). product l k) e)) ∙ sym f

row : (c : In-Some) → row_of 64 c.args.k (bucket_from 64 8 c.args.part.now) ≡ Some c.in-Some.i
row c = row_is c.args.part.now c.args.k c.array_of-cols.ensures c.product-p.ensures c.row_by.ensures ∙ c.in-Some.is

freed : (c : In-Some) → count_trailing_zeros 64 (get_or c.array_of-cols.result c.in-Some.i 0) < 64
unfolding bucket_from
freed c =
    let f : Fits w64 (get_or c.array_of-cols.result c.in-Some.i 0) = search rules in
    subst (λ (l : List ℕ). count_trailing_zeros 64 (get_or l c.in-Some.i 0) < 64) (sym c.array_of-cols.ensures)
    (freed_lt 64 c.args.k (bucket_from 64 8 c.args.part.now) (row c) (subst (λ (l : List ℕ). get_or l c.in-Some.i 0 < 2 ^ 64) c.array_of-cols.ensures f.fits))

pub returns-in_default : goal.returns-in_default
returns-in_default c =
    let a = withdraw_none 64 c.args.k (bucket_from 64 8 c.args.part.now) (row_is c.args.part.now c.args.k c.array_of-cols.ensures c.product-p.ensures c.row_by.ensures ∙ c.in_default.is) in
    record { says = ap is_some (sym a); words = ap (λ (o : Option Bucket). unwrap_or (option_map words_of o) c.args.part.now) (sym a) }

pub power-freed-requires : goal.power-freed-requires
power-freed-requires c = freed (goal.at.power-freed-requires c).In-Some

pub returns : goal.returns
returns c =
    let t = c.args.part.now in
    let i = c.in-Some.i in
    let j : ℕ = count_trailing_zeros 64 (get_or c.array_of-cols.result i 0) in
    let here = row (goal.at.returns c).In-Some in
    let column : j ≡ count_trailing_zeros 64 (get_or (take 64 t) i 0) = ap (λ (l : List ℕ). count_trailing_zeros 64 (get_or l i 0)) c.array_of-cols.ensures in
    let cols : c.col_step-next.result ≡ row_step (get_or (exchange i j (take 64 t)) j 0) j (2 ^ j) (exchange i j (take 64 t)) =
    c.col_step-next.ensures
    ∙ ap₂ (λ (q : ℕ) (cs : List ℕ). row_step (get_or cs j 0) j q cs) c.power-freed.ensures (c.exchanged.ensures ∙ ap (exchange i j) c.array_of-cols.ensures) in
    let row_j : c.product_in.result ≡ row_in (take 8 (drop 65 t)) j = c.product_in.ensures ∙ ap₂ product c.array_of-sols.ensures c.power-freed.ensures in
    let sols : c.sol_step-cleared.result ≡ sol_step (get_or c.col_step-next.result j 0) c.product_in.result (take 8 (drop 65 t)) =
    c.sol_step-cleared.ensures ∙ ap (sol_step (get_or c.col_step-next.result j 0) c.product_in.result) c.array_of-sols.ensures in
    let a = withdraw-done 64 c.args.k (bucket_from 64 8 t) here in
    record {
      says = ap is_some (sym a);
      words = c.store_step.ensures
          ∙ ap words_of (withdrawn_is 64 8 t c.requires c.args.k i here j column (freed (goal.at.returns c).In-Some) cols c.power-freed.ensures row_j sols)
          ∙ ap (λ (o : Option Bucket). unwrap_or (option_map words_of o) t) (sym a);
    }
