-- One word more among those that leave: the steps of the code on the entries are steps on their list.
-- Assumes nothing.
use Prim.Native.Nat.{ℕ, suc, ◌+◌, ◌≤◌, ◌<◌, zero-le}
use native.Mathlib.Numerals.{add-one}
use native.Mathlib.Omega.{arith}
use mathlib.Core.Path.{◌≡◌, refl, sym, ap, ap₂, ◌∙◌}
use mathlib.Core.List.{List, [], ◌∷◌, ◌++◌, append_assoc}
use lib.Dec.{ltb}
use lib.ListN.{length, get_or, take, drop, length-append}
use lib.Seq.{take_at, take_all, take-suc, length-take-le, take-append-le, drop-append-le}
use Rattle.lists.specs.Entries.{Entry, insert}
use Rattle.lists.proofs.Entries.{insert-length}
use Rattle.lists.proofs.Tests.{by_test, cases}
use Rattle.lists.proofs.Loops.{length-put}
use Rattle.bucket_settle.specs.Steps.{put_in, position_of}

-- the loop carries the entry that the one before it took the place of
pub carry_end : (l es : List Entry) (at : ℕ) (c : Entry) (i : ℕ) (e : Entry) → length l ≤ at → length l ≡ length es → take at l ++ c ∷ drop at l ≡ take i es ++ e ∷ drop i es → l ≡ put_in i e es
unfolding put_in
carry_end l es at c i e h n q = sym (take_at l (c ∷ drop at l) (length es) n) ∙ rw (take_all at l h) at (ap (take (length es)) q)

-- the last entry, which goes, is z
put-last : (es : List Entry) (z : Entry) (i : ℕ) (e : Entry) → i ≤ length es → put_in i e (es ++ z ∷ []) ≡ take i es ++ e ∷ drop i es
unfolding put_in
put-last es z i e h =
    let whole : List Entry = take i es ++ e ∷ drop i es in
    let q : take i (es ++ z ∷ []) ++ e ∷ drop i (es ++ z ∷ []) ≡ whole ++ z ∷ [] =
    rw (take-append-le, drop-append-le i es (z ∷ []) h) (simp append_assoc) in
    let n : length whole ≡ length (es ++ z ∷ []) = length-put i e es h ∙ sym (length-append es (z ∷ []) ∙ omega arith) in
    ap (take (length (es ++ z ∷ []))) q ∙ take_at whole (z ∷ []) (length (es ++ z ∷ [])) n

pub position_le : (v : ℕ) (es : List Entry) → position_of v es ≤ length es
position_le v [] = zero-le
position_le v (e ∷ es) = by_test (λ (i : ℕ). i ≤ suc (length es)) (ltb v e.word) (λ t. zero-le) (λ f. let h = position_le v es in omega arith)

placed : (e : Entry) (es : List Entry) → insert e es ≡ take (position_of e.word es) es ++ e ∷ drop (position_of e.word es) es
placed e [] = refl
placed e (x ∷ es) =
    cases (ltb e.word x.word) (λ t. rw t) (λ f. rw f (ap (λ (l : List Entry). x ∷ l) (placed e es)))

pub insert_law : (e : Entry) (es : List Entry) (z : Entry) → put_in (position_of e.word es) e (es ++ z ∷ []) ≡ insert e es
insert_law e es z = put-last es z (position_of e.word es) e (position_le e.word es) ∙ sym (placed e es)

-- in an array xs, of which the first k entries are used
pub insert_into : (xs : List Entry) (k : ℕ) (e : Entry) (rest : List Entry) {at : ℕ} {ps : List Entry} → k < length xs → at ≡ position_of e.word (take k xs) → ps ≡ put_in at e (take (k + 1) xs)
    → take (k + 1) (ps ++ rest) ≡ insert e (take k xs)
insert_into xs k e rest {at} {ps} h p q =
    let s : take (k + 1) xs ≡ take k xs ++ get_or xs k e ∷ [] = ap (λ (j : ℕ). take j xs) (add-one k) ∙ take-suc xs k e h in
    let w : ps ≡ insert e (take k xs) = q ∙ ap₂ (λ (j : ℕ) (ys : List Entry). put_in j e ys) p s ∙ insert_law e (take k xs) (get_or xs k e) in
    let n : length ps ≡ k + 1 = ap length w ∙ insert-length e (take k xs) ∙ omega (arith, length-take-le k xs (omega arith)) in
    take_at ps rest (k + 1) n ∙ w
