-- `patch::below` meets its contract.
-- Assumes nothing.
use mathlib.Core.Path.{◌≡◌, refl, ap, ◌∙◌}
use mathlib.Core.Bool.{cond}
use mathlib.Core.List.{List, [], ◌∷◌}
use Prim.Native.Nat.{ℕ, ◌≤◌}
use native.Mathlib.Omega.{arith}
use lib.Dec.{ltb, leb}
use lib.ListN.{length}
use borrow.Author.Tests.{ltb-true, ltb-false, lt-leb, le-leb}
use Rattle.std.proofs.Common.{rules, tests}
use Rattle.std.specs.Prelude.{Option, Some, None}
use Rattle.std.specs.Option.{unwrap_or}
use Rattle.std.specs.List.{position_or_len}
use Rattle.std.proofs.lemmas.Iterator.{YieldsList-from_slice}
use Rattle.std.proofs.lemmas.Iterator.Search.{position_from_yields_List}
use Rattle.lists.proofs.Tests.{cases}
use Rattle.lists.specs.Entries.{Entry}
use Rattle.patch.specs.Cursor.{below}
use Rattle.patch.proofs.Cursor.{below_length}
use Rattle.patch.proofs.below.Goals as goal

-- the first entry whose word is not below w
abbrev first : ℕ → List Entry → ℕ
first w es = position_or_len (λ (e : Entry). leb w e.word) es

first-below : (w : ℕ) (es : List Entry) → first w es ≡ below w es
first-below w [] = refl
first-below w (e ∷ es) =
    cases (ltb e.word w)
    (λ t. rw (t, lt-leb w e.word (ltb-true e.word w t)) (omega (arith, first-below w es)))
    (λ f. rw (f, le-leb w e.word (ltb-false e.word w f)))

-- or none
or_all : (i n : ℕ) → i ≤ n → unwrap_or (cond (ltb i n) (Some i) None) n ≡ i
or_all i n h = cases (ltb i n) (λ t. rw t) (λ f. rw f (let k = ltb-false i n f in omega arith))

pub returns : goal.returns
returns c =
    let w = c.args.w in
    let es = c.args.entries.now in
    let found : c.position.result ≡ cond (ltb (first w es) (length es)) (Some (first w es)) None =
    position_from_yields_List (λ (e : Entry). leb w e.word) _ _ c.position.result c.position.ensures.ran (YieldsList-from_slice es cc) (λ x b q k. search (rules, tests)) in
    c.unwrap_or.ensures ∙ ap (λ (o : Option ℕ). unwrap_or o (length es)) found ∙ or_all (first w es) (length es) (omega (arith, first-below w es, below_length w es)) ∙ first-below w es
