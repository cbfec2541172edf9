-- `bucket_fall::fall` meets its contract. The words that have left so far, ahead of what is to come, are the whole settlement.
-- Assumes nothing.
use mathlib.Core.Path.{◌≡◌, refl, sym, ap, ◌∙◌}
use Prim.Native.Nat.{◌-◌, ◌≤◌, ◌<◌}
use native.Mathlib.Omega.{arith}
use mathlib.Core.List.{List}
use borrow.Author.Rules.{rules}
use Rattle.lists.specs.Entries.{Entry, words}
use Rattle.bucket_settle.specs.Settle.{threshold_of, withdraw_all, at_bound}
use Rattle.bucket_fall.proofs.Run.{starts, last_room, ends-added, ends-past, next_room, falls, depends_still}
use Rattle.bucket_fall.proofs.fall.Goals as goal

pub loop-t-init : goal.loop-t-init
loop-t-init c = record {
  falling = starts 64 8 threshold_of (record { word = c.args.k; plan = c.args.plan }) c.requires.0 c.new-out.ensures;
  bound = refl;
  depends = λ z. c.requires.1;
}

pub returns-in-Some : goal.returns-in-Some
returns-in-Some c =
    let h : threshold_of c.args.k < c.loop-t.bucket.bound = omega (arith, c.loop-t.invariant.bound) in
    ends-added _ _ _ _ c.loop-t.invariant.falling h (sym c.tried_again.ensures ∙ c.in-Some.is)

pub extend-requires : goal.extend-requires
extend-requires c =
    next_room _ _ _ _ c.loop-t.invariant.falling (c.loop-t.t - 1) (omega (arith, c.loop-t.invariant.bound)) (c.entries-gone.ensures.0 ∙ c.leaving-leaving.ensures) (omega arith)

pub loop-t-preserved : goal.loop-t-preserved
loop-t-preserved c =
    let s = c.loop-t.invariant.falling in
    let es : List Entry = c.entries-gone.result.now in
    let b : c.at_bound-bucket.result ≡ at_bound (c.loop-t.t - 1) (withdraw_all 64 (words es) c.loop-t.bucket) =
    c.at_bound-bucket.ensures ∙ ap (at_bound _) c.withdraw_all.ensures in
    let d = sym c.tried_again.ensures ∙ c.in_default.is in
    record {
      falling = falls _ _ _ _ s (c.loop-t.t - 1) (omega (arith, c.loop-t.invariant.bound)) (c.entries-gone.ensures.0 ∙ c.leaving-leaving.ensures) (omega (arith, c.loop-t.invariant.bound)) d b c.extend.ensures;
      bound = ap (λ x. x.bound) b;
      depends = λ z. depends_still 64 _ _ _ _ es b z d;
    }

pub push-requires : goal.push-requires
push-requires c = last_room _ _ _ _ c.loop-t.invariant.falling (search rules)

pub returns : goal.returns
returns c =
    let h : c.loop-t.bucket.bound ≤ threshold_of c.args.k = omega (arith, c.loop-t.invariant.bound) in
    ends-past _ _ _ _ c.loop-t.invariant.falling h c.push.ensures
