-- `bucket::unpaired` meets its contract.
-- Assumes nothing.
use mathlib.Core.Path.{sym, ◌∙◌}
use Prim.Native.Nat.{◌*◌, ◌/◌}
use native.Mathlib.Omega.{arith}
use lib.ListN.{length}
use Rattle.gf2.proofs.Loops.{product-end, product-last}
use Rattle.bucket.proofs.unpaired.Goals as goal

pub returns-then-at-words : goal.returns-then-at-words
returns-then-at-words c =
    let w = c.args.words.now in
    c.dot.ensures ∙ sym (product-last w c.args.k (2 * (length w / 2)) (omega arith))

pub returns : goal.returns
returns c =
    let w = c.args.words.now in
    sym (product-end w c.args.k (2 * (length w / 2)) (omega arith))
