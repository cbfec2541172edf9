-- `plane_lookup::base_plan` meets its contract. The entries that the loop has passed have other words.
-- Assumes nothing.
use native.Mathlib.Omega.{arith}
use mathlib.Core.Path.{◌≡◌, sym, ap, ◌∙◌}
use mathlib.Core.List.{◌∷◌}
use borrow.Author.Tests.{eq-eqb, ne_eqb}
use Rattle.std.specs.Slice.Iter.{chunks_exact_rest}
use Rattle.lists.specs.Entries.{find}
use Rattle.plane.specs.Record.{entry_from}
use Rattle.plane.specs.Right.{entries_read}
use Rattle.plane.specs.Lookup.{or_desk}
use Rattle.plane.proofs.Read.{entries_more, entries_none}
use Rattle.plane_lookup.proofs.base_plan.Goals.{In-Some}
use Rattle.plane_lookup.proofs.base_plan.Goals as goal

-- the entry in hand, and those behind it
split : (c : In-Some) → find c.args.v (entries_read c.args.entries.now) ≡ find c.args.v (entry_from c.in-Some.e.now ∷ entries_read (chunks_exact_rest c.next.new.self))
split c =
    let s = c.in-Some.ensures.steps.1 in
    c.loop-e.invariant.3 ∙ ap (find c.args.v) (ap entries_read s.0 ∙ entries_more c.in-Some.e.now (chunks_exact_rest c.next.new.self) (s.1 ∙ c.loop-e.invariant.2))

pub returns-then-entry_word-v : goal.returns-then-entry_word-v
returns-then-entry_word-v c =
    rw (split (goal.at.returns-then-entry_word-v c).In-Some, eq-eqb c.args.v (entry_from c.in-Some.e.now).word (sym c.if-entry_word-v.true ∙ c.entry_word.ensures)) c.from.ensures

pub loop-e-preserved : goal.loop-e-preserved
loop-e-preserved c =
    let s = c.in-Some.ensures.steps in
    let other = ne_eqb c.args.v (entry_from c.in-Some.e.now).word (λ e. c.if-entry_word-v.false (c.entry_word.ensures ∙ sym e)) in
    (omega (arith, s.0), tt, s.0 ∙ c.loop-e.invariant.2, split (goal.at.loop-e-preserved c).In-Some ∙ rw other)

pub returns : goal.returns
returns c =
    sym (ap or_desk (c.loop-e.invariant.3 ∙ ap (find c.args.v) (entries_none (chunks_exact_rest c.loop-e.e-iterator) (omega (arith, c.in-None.ensures.steps)))))
