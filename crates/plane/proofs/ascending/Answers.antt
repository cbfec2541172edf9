-- `plane::ascending` meets its contract. The entries before entry i fit, and `last` is the word of the last of them.
-- Assumes nothing.
use mathlib.Core.Path.{◌≡◌, sym, ap, ◌∙◌}
use mathlib.Core.Bool.{true}
use Prim.Native.Nat.{ℕ, ◌+◌, ◌-◌, ◌*◌, ◌≤◌}
use native.Mathlib.Omega.{arith}
use borrow.Author.Tests.{leb-true, leb-false}
use lib.Dec.{lit<}
use lib.ListN.{length, take, drop, length-drop}
use lib.Seq.{get_or-take, length-take-le}
use mathlib.Core.List.{List}
use Rattle.lists.specs.Entries.{Entry}
use Rattle.lists.proofs.Parts.{stretch}
use Rattle.plane.specs.Record.{entry_kind, entry_body, entry_length}
use Rattle.plane.specs.Plane.{entries_wrong}
use Rattle.plane.specs.Steps.{least_after}
use Rattle.plane.proofs.Scan.{refused, passed, whole_kind, assignable_entry, entries_here, entries_low, entries_turn}
use Rattle.plane.proofs.Read.{entry-part}
use Rattle.plane.proofs.ascending.Goals.{Else-not-entry_assignable}
use Rattle.plane.proofs.ascending.Goals as goal

-- an entry that is not cut, in a part of just its bytes
part : (at : ℕ) (p : List ℕ) → at + entry_length ≤ length p → assignable_entry entry_kind (take (at + entry_length - at) (drop at p)) ≡ assignable_entry entry_kind (drop at p)
part at p h =
    let n : entry_length ≤ length (drop at p) = rw length-drop (omega arith) in
    let m : length (take entry_length (drop at p)) ≡ entry_length = length-take-le entry_length (drop at p) n in
    rw (stretch at entry_length p, whole_kind entry_kind entry_body (take entry_length (drop at p)) (omega arith), whole_kind entry_kind entry_body (drop at p) n, get_or-take entry_length (drop at p) 0 0 (lit< tt), get_or-take entry_length (drop at p) entry_body 0 (lit< tt))

-- the entry is there
there : (c : Else-not-entry_assignable) → assignable_entry entry_kind (drop (c.args.first + c.loop-i.i * entry_length) c.args.plane.now) ≡ true
there c =
    sym (part (c.args.first + c.loop-i.i * entry_length) c.args.plane.now (omega arith))
    ∙ passed c.entry_assignable.result c.entry_assignable.ensures c.if-not-entry_assignable.false

pub returns-then-not-entry_assignable : goal.returns-then-not-entry_assignable
returns-then-not-entry_assignable c =
    let at = c.args.first + c.loop-i.i * entry_length in
    let off = sym (part at c.args.plane.now (omega arith)) ∙ refused c.entry_assignable.result c.entry_assignable.ensures c.if-not-entry_assignable.true in
    sym (c.loop-i.invariant ∙ entries_here (least_after c.loop-i.last) (c.args.k - c.loop-i.i) at (drop at c.args.plane.now) (omega arith) off)

pub returns-then-not-exceeds : goal.returns-then-not-exceeds
returns-then-not-exceeds c =
    let at = c.args.first + c.loop-i.i * entry_length in
    let word = c.entry_word-word.ensures ∙ ap (λ (e : Entry). e.word) (entry-part at c.args.plane.now) in
    let low = leb-false (least_after c.loop-i.last) c.entry_word-word.result (refused c.exceeds.result c.exceeds.ensures c.if-not-exceeds.true) in
    sym (c.loop-i.invariant ∙ entries_low (least_after c.loop-i.last) (c.args.k - c.loop-i.i) at c.entry_word-word.result (drop at c.args.plane.now) (omega arith) (there (goal.at.returns-then-not-exceeds c).Else-not-entry_assignable) word low)

pub loop-i-preserved : goal.loop-i-preserved
loop-i-preserved c =
    let at = c.args.first + c.loop-i.i * entry_length in
    let word = c.entry_word-word.ensures ∙ ap (λ (e : Entry). e.word) (entry-part at c.args.plane.now) in
    let high = leb-true (least_after c.loop-i.last) c.entry_word-word.result (passed c.exceeds.result c.exceeds.ensures c.if-not-exceeds.false) in
    c.loop-i.invariant ∙ entries_turn (least_after c.loop-i.last) c.args.k c.loop-i.i c.args.first c.entry_word-word.result c.args.plane.now (omega arith) (there (goal.at.loop-i-preserved c).Else-not-entry_assignable) word high

pub returns : goal.returns
unfolding entries_wrong
returns c =
    let z : c.args.k - c.loop-i.i ≡ 0 = omega arith in
    sym (rw z at c.loop-i.invariant)
