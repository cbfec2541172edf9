-- `bucket_blocks::spread` meets its contract.
-- Assumes nothing.
use Prim.Native.Nat.{◌-◌}
use Rattle.bucket_pairs.proofs.Tied.{part_keeps}
use Rattle.bucket_blocks.proofs.spread.Goals as goal

pub returns : goal.returns
returns c = λ f lf t.
    let n = part_keeps _ _ _ 0 c.args.done c.args.ws.now _ c.sweep.ensures f lf t in
    let m = c.lay-end.ensures.1 f lf (t.1.0, c.lay-middle.ensures.1 f lf (t.0, n)) in
    part_keeps _ _ _ c.min-todo.result (c.args.count - c.min-todo.result) c.lay-end.new.ws _ c.sweep-2.ensures f lf (t.0, (t.1.0, m))
