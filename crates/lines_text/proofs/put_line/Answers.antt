-- `lines_text::put_line` meets its contract: three parts are written one after the other.
-- Assumes nothing.
use native.Mathlib.Omega.{arith}
use Rattle.lines_text.proofs.Printed.{decimal_most, line_written}
use Rattle.lines_text.proofs.put_line.Goals as goal

pub overflow_add-result : goal.overflow_add-result
overflow_add-result c =
    omega (arith, c.put_decimal-end.ensures.0, decimal_most c.args.n)

pub returns : goal.returns
returns c =
    line_written c.args.at c.args.n c.put_decimal-end.result c.args.start.now c.args.out.now c.put_bytes.new.d c.put_decimal-end.new.out c.put_bytes-2.new.d
    c.put_bytes.ensures c.put_decimal-end.ensures.0 c.put_decimal-end.ensures.1 c.put_bytes-2.ensures
