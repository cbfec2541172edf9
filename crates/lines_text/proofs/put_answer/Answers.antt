-- `lines_text::put_answer` meets its contract.
-- Assumes nothing.
use native.Mathlib.Omega.{arith}
use mathlib.Core.Path.{◌≡◌}
use Rattle.answer.specs.Numbers.{number_of}
use Rattle.answer.proofs.Determined.{cause_above}
use Rattle.lines_text.specs.Printed.{printed}
use Rattle.lines_text.proofs.Printed.{printed_no}
use Rattle.lines_text.proofs.put_answer.Goals as goal

pub returns-in-Ok : goal.returns-in-Ok
unfolding printed
returns-in-Ok c = rw c.in-Ok.is c.put_line.ensures

pub returns-in-Err : goal.returns-in-Err
returns-in-Err c =
    let some : number_of c.args.a ≡ 0 → ⊥ = λ e. let z = rw c.in-Err.is at e in omega (arith, cause_above c.in-Err.field-0) in
    rw (printed_no c.args.a some, ← c.number.ensures) c.put_line-in-Err.ensures
