-- `bucket_words::add_by` meets its contract: what is stored is the bucket after the step.
-- Assumes nothing.
use mathlib.Core.Path.{◌≡◌, sym, ap, ◌∙◌}
use mathlib.Core.List.{List}
use Prim.Native.Nat.{ℕ}
use lib.Bits.{bit_xor}
use lib.ListN.{get_or, take, drop}
use Rattle.std.specs.Prelude.{Option, Some, None, is_some, option_map, unwrap_or}
use Rattle.gf2.specs.Vectors.{product, row_step, sol_step}
use Rattle.bucket.specs.declared.Bucket.{Bucket}
use Rattle.bucket.specs.Bucket.{add_at, add}
use Rattle.bucket.proofs.Laws.{add-by}
use Rattle.bucket_words.specs.Words.{words_of, bucket_from}
use Rattle.bucket_words.proofs.OnWords.{added_is}
use Rattle.bucket_words.proofs.add_by.Goals as goal

pub returns-in_default : goal.returns-in_default
unfolding bucket_from
returns-in_default c =
    let b = bucket_from 64 8 c.args.part.now in
    let a : add 64 c.args.k c.args.plan b ≡ None =
    add-by 64 c.args.k c.args.p c.args.plan b c.requires.1 c.lowest.ensures ∙ ap (option_map (λ i. add_at i c.args.k c.args.plan b)) c.in_default.is in
    record { says = ap is_some (sym a); words = ap (λ (o : Option Bucket). unwrap_or (option_map words_of o) c.args.part.now) (sym a) }

pub returns : goal.returns
unfolding bucket_from
returns c =
    let b = bucket_from 64 8 c.args.part.now in
    let i = c.in-Some.i in
    let a : add 64 c.args.k c.args.plan b ≡ Some (add_at i c.args.k c.args.plan b) =
    add-by 64 c.args.k c.args.p c.args.plan b c.requires.1 c.lowest.ensures ∙ ap (option_map (λ i. add_at i c.args.k c.args.plan b)) c.in-Some.is in
    let cols : c.col_step-stepped.result ≡ row_step (get_or (take 64 c.args.part.now) i 0) i c.args.p (take 64 c.args.part.now) =
    c.col_step-stepped.ensures ∙ ap (λ (cs : List ℕ). row_step (get_or cs i 0) i c.args.p cs) c.array_of-cols.ensures in
    let plan : c.product_in.result ≡ product (take 8 (drop 65 c.args.part.now)) c.args.k = c.product_in.ensures ∙ ap (λ (ss : List ℕ). product ss c.args.k) c.array_of-sols.ensures in
    let sols : c.sol_step-solved.result ≡ sol_step (get_or c.col_step-stepped.result i 0) (bit_xor c.product_in.result c.args.plan) (take 8 (drop 65 c.args.part.now)) =
    c.sol_step-solved.ensures ∙ ap (sol_step (get_or c.col_step-stepped.result i 0) (bit_xor c.product_in.result c.args.plan)) c.array_of-sols.ensures in
    record {
      says = ap is_some (sym a);
      words = c.store_step.ensures ∙ ap words_of (added_is 64 8 c.args.part.now c.args.k c.args.p c.args.plan i c.requires.1 cols c.power.ensures plan sols)
          ∙ ap (λ (o : Option Bucket). unwrap_or (option_map words_of o) c.args.part.now) (sym a);
    }
