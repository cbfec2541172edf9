-- `table_add::enter_depending` meets its contract.
-- Assumes nothing.
use Prim.Native.Nat.{ℕ}
use mathlib.Core.Path.{sym, ◌∙◌, subst⁻¹}
use Rattle.lists.proofs.Entries.{assignable_byte}
use Rattle.hash.specs.Mix.{mix_of}
use Rattle.table.specs.Calls.{rows, solutions, table_of}
use Rattle.table_arrive.specs.Arrival.{DependsIn}
use Rattle.table_add.specs.Arrivals.{Passing}
use Rattle.table_add.proofs.Added.{ready_kept, passing_room, passing-done, passing_full}
use Rattle.table_add.proofs.enter_depending.Goals.{Else-holds}
use Rattle.table_add.proofs.enter_depending.Goals as goal

-- level 1 does not hold the word
past : (c : Else-holds) → Passing c.args.t.now c.args.w c.args.plan
past c = record { ready = c.requires.ready; plan = c.requires.plan; past = sym c.holds.ensures ∙ c.if-holds.false }

pub fall_first-requires : goal.fall_first-requires
fall_first-requires c =
    (c.requires.ready, (assignable_byte c.args.plan c.requires.plan, c.requires.first (sym c.holds.ensures ∙ c.if-holds.true)))

pub fall_second-requires : goal.fall_second-requires
fall_second-requires c = (
  ready_kept _ c.requires.ready,
  subst⁻¹ (λ (v : ℕ). DependsIn rows solutions mix_of (table_of c.args.t.now).level2 (record { word = v; plan = c.args.plan })) c.second.ensures (c.requires.second (past (goal.at.fall_second-requires c).Else-holds).past),
)

pub count_one-requires : goal.count_one-requires
count_one-requires c =
    passing_room (past (goal.at.count_one-requires c).Else-holds) c.ranges.w.fits c.second.ensures c.fall_second.ensures c.if-fall_second.true

pub returns-then-fall_second : goal.returns-then-fall_second
returns-then-fall_second c =
    passing-done (past (goal.at.returns-then-fall_second c).Else-holds) c.ranges.w.fits c.second.ensures c.fall_second.ensures c.if-fall_second.true _ _ c.count_one.ensures

pub returns : goal.returns
returns c =
    passing_full (past (goal.at.returns c).Else-holds) c.ranges.w.fits c.second.ensures c.fall_second.ensures c.if-fall_second.false
