-- `bucket_settle::position_among` meets its contract.
-- Assumes nothing.
use mathlib.Core.Path.{◌≡◌, refl, ap, ◌∙◌}
use mathlib.Core.Bool.{cond}
use mathlib.Core.List.{List, [], ◌∷◌}
use Prim.Native.Nat.{ℕ, ◌≤◌}
use native.Mathlib.Omega.{arith}
use lib.Dec.{ltb}
use lib.ListN.{length}
use borrow.Author.Tests.{ltb-false}
use Rattle.std.proofs.Common.{rules, tests}
use Rattle.std.specs.Prelude.{Option, Some, None}
use Rattle.std.specs.Option.{unwrap_or}
use Rattle.std.specs.List.{position_or_len}
use Rattle.std.proofs.lemmas.Iterator.{YieldsList-from_slice}
use Rattle.std.proofs.lemmas.Iterator.Search.{position_from_yields_List}
use Rattle.lists.proofs.Tests.{cases}
use Rattle.lists.specs.Entries.{Entry}
use Rattle.bucket_settle.specs.Steps.{position_of}
use Rattle.bucket_settle.proofs.Insert.{position_le}
use Rattle.bucket_settle.proofs.position_among.Goals as goal

-- the first entry whose word is larger
abbrev first : ℕ → List Entry → ℕ
first w es = position_or_len (λ (e : Entry). ltb w e.word) es

first-position : (w : ℕ) (es : List Entry) → first w es ≡ position_of w es
first-position w [] = refl
first-position w (e ∷ es) =
    cases (ltb w e.word) (λ t. rw t) (λ f. rw f (omega (arith, first-position w es)))

-- or none
or_all : (i n : ℕ) → i ≤ n → unwrap_or (cond (ltb i n) (Some i) None) n ≡ i
or_all i n h = cases (ltb i n) (λ t. rw t) (λ f. rw f (let k = ltb-false i n f in omega arith))

pub returns : goal.returns
returns c =
    let w = c.args.word in
    let es = c.args.entries.now in
    let found : c.position.result ≡ cond (ltb (first w es) (length es)) (Some (first w es)) None =
    position_from_yields_List (λ (e : Entry). ltb w e.word) _ _ c.position.result c.position.ensures.ran (YieldsList-from_slice es cc) (λ x b q k. search (rules, tests)) in
    c.unwrap_or.ensures ∙ ap (λ (o : Option ℕ). unwrap_or o (length es)) found ∙ or_all (first w es) (length es) (omega (arith, first-position w es, position_le w es)) ∙ first-position w es
