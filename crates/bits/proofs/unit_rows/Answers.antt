-- `bits::unit_rows` meets its contract: element `i` is that of the unit matrix.
-- Assumes nothing.
use mathlib.Core.Path.{◌≡◌, sym, ◌∙◌}
use Prim.Native.Nat.{ℕ, ◌<◌, ◌^◌}
use lib.ListN.{get_or}
use lib.Seq.{ext_get_or}
use native.Mathlib.Omega.{arith}
use borrow.Author.Rules.{rules}
use Rattle.gf2.specs.Vectors.{units}
use Rattle.gf2.proofs.Inverse.{length-units, get_d_units}
use Rattle.bits.proofs.unit_rows.Goals as goal

pub returns : goal.returns
returns c =
    let r = c.from_fn.ensures.items in
    let at : (i : ℕ) → i < 64 → get_or c.from_fn.result i 0 ≡ 2 ^ i = λ i h. let k = r.at i 0 h in search rules in
    ext_get_or 0 c.from_fn.result (units 64) (r.long ∙ sym (length-units 64)) (λ i h. let k : i < 64 = omega (arith, r.long) in at i k ∙ sym (get_d_units 64 i k))
