-- `bucket_settle::Outgoing::insert` meets its contract.
-- Assumes nothing.
use native.Mathlib.Omega.{arith}
use mathlib.Core.Path.{◌≡◌, ap, ◌∙◌}
use Prim.Native.Nat.{◌+◌, ◌<◌}
use lib.ListN.{length, take, drop, length-append, length-drop}
use lib.Seq.{length-take-le}
use Rattle.lists.specs.Entries.{Entry, insert}
use Rattle.bucket_settle.specs.Outgoing.{most_outgoing}
use Rattle.bucket_settle.specs.Steps.{position_of}
use Rattle.bucket_settle.proofs.Padded.{padded_insert}
use Rattle.bucket_settle.proofs.Insert.{insert_into}
use borrow.Author.Rules.{rules}
use Rattle.bucket_settle.proofs.Outgoing.insert.Goals as goal

pub invariant_of-self : goal.invariant_of-self
invariant_of-self c =
    let xs = c.self.inside.entries in
    let k = c.self.inside.count in
    let ps = c.put_into.new.entries in
    let l = c.self.invariant.1 in
    let n = length-take-le k xs (omega arith) in
    let h : k < most_outgoing = omega (arith, c.requires, ap length c.self.view_is) in
    let j : length ps ≡ k + 1 = search rules in
    (omega arith, omega (arith, length-append ps (drop (k + 1) xs), length-drop (k + 1) xs), padded_insert most_outgoing k xs h l c.self.invariant.2 ps j)

pub returns : goal.returns
returns c =
    let xs = c.self.inside.entries in
    let k = c.self.inside.count in
    let n : length xs ≡ 65 = search rules in
    let l : length (take k xs) ≡ k = length-take-le k xs (omega (arith, c.self.invariant.0)) in
    let h : k < length xs = omega (arith, c.requires, ap length c.self.view_is) in
    insert_into xs k c.args.e _ h (c.position_among-at.ensures ∙ ap (λ (x : Entry). position_of x.word (take k xs)) c.e.view_is) c.put_into.ensures
    ∙ ap (insert c.args.e) c.self.view_is
