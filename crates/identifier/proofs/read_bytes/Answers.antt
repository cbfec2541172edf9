-- `identifier::read_bytes` meets its contract. The loop's invariant: scanning the bytes that are left, from i and h on, finds what the scan of all finds.
-- Assumes nothing.
use mathlib.Core.Path.{sym, ap, ◌∙◌}
use native.Mathlib.Numerals.{add-one}
use lib.ListN.{drop_of_length-le}
use Rattle.std.specs.Prelude.{Ok}
use Rattle.identifier.proofs.Scan.{scan_refused, scan-more, scan-end}
use Rattle.identifier.proofs.read_bytes.Goals as goal

pub returns-then-folded-ge-REFUSED : goal.returns-then-folded-ge-REFUSED
returns-then-folded-ge-REFUSED c =
    let entry = c.table-table.ensures _ (c.type_inv.s c.loop-i.i).fits in
    sym (scan_refused c.args.s.now c.loop-i.i c.loop-i.h c.loop-i-test.true (rw (← entry) c.if-folded-ge-REFUSED.true)) ∙ c.loop-i.invariant

pub loop-i-preserved : goal.loop-i-preserved
loop-i-preserved c =
    let entry = c.table-table.ensures _ (c.type_inv.s c.loop-i.i).fits in
    let next = scan-more c.args.s.now c.loop-i.i c.loop-i.h c.loop-i-test.true (rw (← entry) c.if-folded-ge-REFUSED.false) in
    rw (add-one c.loop-i.i, c.fnv_step-h.ensures, entry) (sym next ∙ c.loop-i.invariant)

pub returns : goal.returns
returns c =
    ap Ok c.mix.ensures ∙ sym (scan-end c.loop-i.i c.loop-i.h) ∙ rw (drop_of_length-le, c.loop-i-test.false) at c.loop-i.invariant
