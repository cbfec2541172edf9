-- `bucket_blocks::lay` meets its contract. The loop keeps what is tied.
-- Assumes nothing.
use mathlib.Core.Path.{sym, subst}
use Prim.Native.Nat.{ℕ, ◌+◌, ◌≤◌, ◌<◌}
use native.Mathlib.Omega.{arith}
use lib.Pow.{pow-lt}
use Rattle.std.proofs.lemmas.List.Elements.{All-set}
use Rattle.bucket_pairs.specs.Pairs.{TiedPair, Tied}
use Rattle.bucket_pairs.proofs.Tied.{tied_entry}
use Rattle.bucket_blocks.proofs.lay.Goals as goal
use Rattle.bucket_blocks.proofs.lay.Goals.{then-have-k-ne0, else-have-k-ne0}

pub bounds-table-power : goal.bounds-table-power
bounds-table-power c = subst (λ (x : ℕ). x < 16) (sym c.power.ensures) (pow-lt {i = c.loop-k.k} {j = 4} c.loop-k-test.true)

pub loop-k-preserved : goal.loop-k-preserved
loop-k-preserved c =
    let n : c.if-have-k-ne0.p ≤ c.args.at + (c.loop-k.k + 1) =
    elim c.if-have-k-ne0.branch [ then-have-k-ne0 w ↦ omega (arith, w.p-is) | else-have-k-ne0 w ↦ omega (arith, w.p-is) ] in (
      n,
      λ f lf t.
          let v = (c.loop-k.invariant.1 f lf t).0 in (
            elim c.if-have-k-ne0.branch [
              | then-have-k-ne0 w ↦ subst (Tied f) (sym w.ws-is) (All-set (TiedPair f) c.loop-k.ws c.loop-k.p _ (tied_entry f c.args.table.now w.power.result lf t.0) v)
              | else-have-k-ne0 w ↦ subst (Tied f) (sym w.ws-is) v
            ],
            tt,
          ),
    )
