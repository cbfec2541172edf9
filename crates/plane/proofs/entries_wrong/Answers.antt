-- `plane::entries_wrong` meets its contract: past the entries that are there the next one is cut.
-- Assumes nothing.
use mathlib.Core.Path.{◌≡◌, sym, ◌∙◌}
use mathlib.Core.List.{List}
use Prim.Native.Nat.{ℕ, ◌+◌, ◌-◌, ◌*◌, ◌/◌, ◌<◌}
use native.Mathlib.Omega.{arith}
use lib.ListN.{length, drop, length-drop}
use Rattle.std.specs.Prelude.{Err}
use Rattle.std.specs.Result.{result_and}
use Rattle.std.proofs.lemmas.Result.{err_from_is_err_and}
use Rattle.plane.specs.Record.{entry_length}
use Rattle.plane.specs.Plane.{entries_wrong}
use Rattle.plane.proofs.Scan.{entries_short}
use Rattle.plane.proofs.entries_wrong.Goals as goal

-- k entries, of which just `there` are not cut
short : (least k first : ℕ) (p : List ℕ) → (length p - first) / entry_length < k
    → entries_wrong least k first (drop first p) ≡ result_and (entries_wrong least ((length p - first) / entry_length) first (drop first p)) (Err (first + (length p - first) / entry_length * entry_length))
short least k first p h = entries_short least k ((length p - first) / entry_length) first (drop first p) h (rw length-drop (omega arith))

pub returns-in_err-ascending : goal.returns-in_err-ascending
returns-in_err-ascending c =
    let s = short 0 c.args.k c.args.first c.args.plane.now (omega arith) in
    let e = err_from_is_err_and c.from_residual.result c.from_residual.ensures.1 in
    rw (e.1, e.2, s, sym c.ascending-2.ensures ∙ c.in_err-ascending.was)

pub returns : goal.returns
returns c =
    rw (short 0 c.args.k c.args.first c.args.plane.now (omega arith), sym c.ascending-2.ensures ∙ c.in_ok-ascending.was)
