-- `lines_text::read_number` meets its contract.
-- Assumes nothing.
use Rattle.std.proofs.Common.{◌≡◌, ◌<◌, sym, ◌∙◌, arith, rules, tests, length, get_or}
use borrow.Author.Tests.{eqb-false}
use Rattle.lines_text.proofs.Decimal.{number_none, number_leading, number_read, read_other, read_over, read_more, read_end}
use Rattle.lines_text.proofs.read_number.Goals.{then-is_empty-via-then-is_empty, then-is_empty-via-else-is_empty+then-s-eq48, then-s-gt1, else-s-gt1}
use Rattle.lines_text.proofs.read_number.Goals as goal

pub returns-then-is_empty-clause-value : goal.returns-then-is_empty-clause-value
returns-then-is_empty-clause-value c =
    elim c.then-is_empty.branch [
      | then-is_empty-via-then-is_empty w ↦ sym (number_none c.args.limit c.args.s.now (search (rules, tests)))
      | then-is_empty-via-else-is_empty+then-s-eq48 w ↦
          elim w.if-s-gt1.branch [
            | then-s-gt1 w' ↦ sym (number_leading c.args.limit c.args.s.now (search rules) (search (rules, tests)))
            | else-s-gt1 w' ↦ search (rules, tests)
          ]
    ]

pub loop-b-init : goal.loop-b-init
loop-b-init c =
    let short : 1 < length c.args.s.now → get_or c.args.s.now 0 0 ≡ 48 → ⊥ = λ l e. elim c.if-s-gt1.branch [ then-s-gt1 w ↦ eqb-false _ _ (sym w.value-is ∙ c.if-s-eq48.false) e | else-s-gt1 w ↦ omega arith ] in
    (omega arith, number_read c.args.limit c.args.s.now (search (rules, tests)) short)

pub returns-then-not-is_ascii_digit-clause-value : goal.returns-then-not-is_ascii_digit-clause-value
returns-then-not-is_ascii_digit-clause-value c =
    sym (read_other c.args.limit c.loop-b.n c.loop-b.b-index c.args.s.now c.loop-b-test.true (sym c.is_ascii_digit.ensures.value ∙ c.if-not-is_ascii_digit.true)) ∙ c.loop-b.invariant.1

pub returns-then-limit-n-clause-value : goal.returns-then-limit-n-clause-value
returns-then-limit-n-clause-value c =
    sym (read_over c.args.limit c.loop-b.n c.loop-b.b-index c.args.s.now c.loop-b-test.true (sym c.is_ascii_digit.ensures.value ∙ c.if-not-is_ascii_digit.false) (rw c.push_digit-n.ensures at c.if-limit-n.true)) ∙ c.loop-b.invariant.1

pub loop-b-preserved : goal.loop-b-preserved
loop-b-preserved c =
    let more = read_more c.args.limit c.loop-b.n c.loop-b.b-index c.args.s.now c.loop-b-test.true (sym c.is_ascii_digit.ensures.value ∙ c.if-not-is_ascii_digit.false) (rw c.push_digit-n.ensures at c.if-limit-n.false) in
    (search rules, rw c.push_digit-n.ensures more ∙ c.loop-b.invariant.1)

pub returns-clause-value : goal.returns-clause-value
returns-clause-value c =
    sym (read_end c.args.limit c.loop-b.n c.loop-b.b-index c.args.s.now c.loop-b-test.false) ∙ c.loop-b.invariant.1
