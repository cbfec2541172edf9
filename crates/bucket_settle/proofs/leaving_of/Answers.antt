-- `bucket_settle::leaving_of` meets its contract. The loop goes from the last row to the first, as the sort of a list inserts.
-- Assumes nothing.
use mathlib.Core.Path.{◌≡◌, sym, ap, ◌∙◌, subst, subst⁻¹}
use mathlib.Core.List.{List}
use Prim.Native.Nat.{ℕ, suc, ◌-◌, ◌≤◌, ◌<◌}
use native.Mathlib.Omega.{arith}
use lib.ListN.{length, get_or}
use Rattle.lists.specs.Entries.{Entry, insert}
use Rattle.bucket_settle.specs.Settle.{threshold_of}
use Rattle.bucket_settle.proofs.Leave.{Found, found_none, found_few, found-leaves, found_stays, found_all}
use borrow.Author.Rules.{rules}
use Rattle.bucket_settle.proofs.leaving_of.Goals as goal

-- the row before i
before : (P : ℕ → Type 0) {i : ℕ} → 0 < i → P i → P (suc (i - 1))
before P {i} h p = subst P (omega arith) p

pub loop-i-init : goal.loop-i-init
loop-i-init c =
    let h : length c.args.rows ≤ 64 = search rules in
    subst⁻¹ (Found threshold_of c.args.t c.args.b c.args.b.mark c.args.rows 64) c.new-out.ensures (found_none threshold_of c.args.t c.args.b c.args.b.mark c.args.rows 64 h)

pub insert-requires : goal.insert-requires
insert-requires c =
    let h : length c.args.rows ≡ 64 = search rules in
    omega (arith, found_few threshold_of c.args.t c.args.b c.args.b.mark c.args.rows c.loop-i.i c.loop-i.invariant)

pub loop-i-preserved-then-leaves : goal.loop-i-preserved-then-leaves
loop-i-preserved-then-leaves c =
    let v = get_or c.args.rows (c.loop-i.i - 1) 0 in
    let h : c.loop-i.i - 1 < length c.args.rows = search rules in
    found-leaves threshold_of c.args.t c.args.b c.args.b.mark c.args.rows (c.loop-i.i - 1) h
    (before (λ (j : ℕ). Found threshold_of c.args.t c.args.b c.args.b.mark c.args.rows j c.loop-i.out) c.loop-i-test.true c.loop-i.invariant)
    (sym c.leaves.ensures ∙ c.if-leaves.true)
    (c.insert.ensures ∙ ap {B = List Entry} (λ (p : ℕ). insert (record { word = v; plan = p }) c.loop-i.out) c.lookup.ensures)

pub loop-i-preserved : goal.loop-i-preserved
loop-i-preserved c =
    let h : c.loop-i.i - 1 < length c.args.rows = search rules in
    found_stays threshold_of c.args.t c.args.b c.args.b.mark c.args.rows (c.loop-i.i - 1) h
    (before (λ (j : ℕ). Found threshold_of c.args.t c.args.b c.args.b.mark c.args.rows j c.loop-i.out) c.loop-i-test.true c.loop-i.invariant)
    (sym c.leaves.ensures ∙ c.if-leaves.false)

pub returns : goal.returns
returns c =
    found_all threshold_of c.args.t c.args.b c.args.b.mark c.args.rows c.loop-i.i c.loop-i-test.false c.loop-i.invariant
