-- `bucket_pairs::rows_in` meets its contract. The loop's invariant: what the pairs from `p` on give, with the rows so far, is what all give.
-- Assumes nothing.
use mathlib.Core.Path.{sym, ap, ◌∙◌}
use native.Mathlib.Omega.{arith}
use native.Mathlib.Numerals.{add-one}
use borrow.Author.Tests.{eq-eqb, ne_eqb}
use lib.ListN.{length, length-set}
use Rattle.lists.proofs.Tests.{cond_true, cond_false}
use Rattle.bucket_pairs.specs.Pairs.{read_rows}
use Rattle.bucket_pairs.proofs.Read.{only_is, rows_stop, rows_more, rows_end}
use Rattle.bucket_pairs.proofs.rows_in.Goals as goal

pub loop-p-init : goal.loop-p-init
unfolding read_rows
loop-p-init c = (ap length c.unit_rows-rows.ensures, rw c.unit_rows-rows.ensures)

pub returns-in_default : goal.returns-in_default
returns-in_default c = rows_stop 64 c.args.ws.now c.loop-p.p-index c.loop-p.rows c.loop-p.left c.loop-p-test.true c.in_default.ensures ∙ c.loop-p.invariant.1

pub offset_bounds-rows-j : goal.offset_bounds-rows-j
offset_bounds-rows-j c = let l = (only_is 64 _ c.in-Some.j c.in-Some.ensures).0 in record { fits = omega arith }

pub bounds-rows-j : goal.bounds-rows-j
bounds-rows-j c = (only_is 64 _ c.in-Some.j c.in-Some.ensures).0

pub loop-p-preserved : goal.loop-p-preserved
loop-p-preserved c = (
  simp length-set c.loop-p.invariant.0,
  rw add-one (rows_more 64 c.args.ws.now c.loop-p.p-index c.loop-p.rows c.loop-p.left c.in-Some.j c.loop-p-test.true c.in-Some.ensures ∙ c.loop-p.invariant.1),
)

pub returns-then-left-ne0 : goal.returns-then-left-ne0
returns-then-left-ne0 c =
    sym (rows_end 64 c.args.ws.now c.loop-p.p-index c.loop-p.rows c.loop-p.left (omega arith) ∙ cond_false _ _ (ne_eqb c.loop-p.left 0 (λ z. omega arith))) ∙ c.loop-p.invariant.1

pub returns : goal.returns
returns c =
    sym (rows_end 64 c.args.ws.now c.loop-p.p-index c.loop-p.rows c.loop-p.left (omega arith) ∙ cond_true _ _ (eq-eqb c.loop-p.left 0 (omega arith))) ∙ c.loop-p.invariant.1
