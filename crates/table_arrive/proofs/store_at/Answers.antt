-- `table_arrive::store_at` meets its contract.
-- Assumes nothing.
use Prim.Native.Nat.{ℕ, ◌+◌}
use native.Mathlib.Omega.{arith}
use mathlib.Core.Path.{ap₂}
use mathlib.Core.List.{List, ◌++◌}
use lib.ListN.{take}
use borrow.Rule.Slice.PartMut.{Post-is}
use Rattle.bucket_words.specs.Words.{bucket_words}
use Rattle.table.specs.Calls.{rows, solutions}
use Rattle.table_arrive.proofs.store_at.Goals as goal

pub returns : goal.returns
returns c =
    let t : List ℕ = c.args.t.now in
    ap₂ (λ (ys zs : List ℕ). take c.args.at t ++ (ys ++ zs)) c.store.ensures (Post-is c.args.at (c.args.at + bucket_words rows solutions) t (omega arith))
