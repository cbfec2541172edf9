-- `table_pass::pass_on` meets its contract.
-- Assumes nothing.
use Prim.Native.Nat.{ℕ, ◌≤◌}
use mathlib.Core.Path.{◌≡◌, sym, ◌∙◌, subst⁻¹}
use lib.ListN.{length, take, replicate, length-replicate}
use lib.Seq.{length-take-le}
use Rattle.hash.specs.Mix.{mix_of}
use Rattle.table.specs.Layout.{longest}
use Rattle.table.specs.Calls.{rows, solutions}
use Rattle.table_layout.proofs.Shape.{not_longer}
use Rattle.table_arrive.proofs.Tables.{flat}
use Rattle.table_pass.proofs.Passing.{pass_none, pass_one}
use Rattle.table_pass.proofs.pass_on.Goals.{Start}
use Rattle.table_pass.proofs.pass_on.Goals as goal

shortened : (s : Start) → length {A = ℕ} (take (length s.args.t.now) (replicate (longest rows solutions) 0)) ≡ length s.args.t.now
shortened s = length-take-le (length s.args.t.now) (replicate (longest rows solutions) 0) (subst⁻¹ (λ (k : ℕ). length s.args.t.now ≤ k) (length-replicate {A = ℕ} (longest rows solutions) 0) (not_longer rows solutions _ (flat rows solutions _ s.requires).shape))

pub returns-then-count-eq0 : goal.returns-then-count-eq0
returns-then-count-eq0 c = pass_none rows solutions mix_of _ c.requires _ c.if-count-eq0.true

pub returns-then-count-eq1 : goal.returns-then-count-eq1
returns-then-count-eq1 c = pass_one rows solutions mix_of _ c.requires _ _ (c.e.view_is ∙ c.index-entries-0.is) _ _ _ c.if-count-eq1.true c.second.ensures c.arrive_second.ensures

pub slice_bounds-draft-end : goal.slice_bounds-draft-end
slice_bounds-draft-end c = not_longer rows solutions _ (flat rows solutions _ c.requires).shape

pub slice_bounds-pass_drafted-end : goal.slice_bounds-pass_drafted-end
slice_bounds-pass_drafted-end c = sym (shortened (goal.at.slice_bounds-pass_drafted-end c).Start)

pub pass_drafted-requires : goal.pass_drafted-requires
pass_drafted-requires c = (c.requires, shortened (goal.at.pass_drafted-requires c).Start)
