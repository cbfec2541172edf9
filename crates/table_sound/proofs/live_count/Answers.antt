-- `table_sound::live_count` meets its contract.
-- Assumes nothing.
use mathlib.Core.Path.{◌≡◌, ap}
use Prim.Native.Nat.{ℕ, ◌+◌, ◌-◌, ◌*◌, ◌/◌}
use native.Mathlib.Omega.{arith}
use lib.Count.{ones-le}
use lib.ListN.{length, drop}
use Rattle.bucket_words.specs.Words.{bucket_words}
use Rattle.table.specs.Layout.{level_from}
use Rattle.table.specs.Content.{occupied}
use Rattle.table.specs.Calls.{rows, solutions}
use Rattle.table_sound.proofs.Held.{occupied-next}
use Rattle.table_sound.proofs.live_count.Goals as goal

pub loop-i-preserved : goal.loop-i-preserved
loop-i-preserved c =
    let w : ℕ = bucket_words rows solutions in
    let m : ℕ = length c.args.buckets.now / w in
    let i : ℕ = c.loop-i.i in
    let h = ones-le rows _ (c.type_inv.buckets (i * w + rows)).fits in
    let e : i * w + w ≡ (i + 1) * w = omega arith in
    let f = ap (λ (k : ℕ). occupied (level_from rows solutions (m - (i + 1)) (drop k c.args.buckets.now))) e in
    let g = occupied-next rows solutions c.args.buckets.now (i * w) m i c.loop-i-test.true in
    (omega arith, omega (arith, f, g, c.loop-i.invariant.1))
