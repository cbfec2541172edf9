-- `patch::load_base` meets its contract. The entries so far, with those to come, are the base list.
-- Assumes nothing.
use native.Mathlib.Omega.{arith}
use mathlib.Core.Path.{◌≡◌, refl, sym, ap, ◌∙◌}
use mathlib.Core.List.{[], ◌∷◌, ◌++◌, append_assoc, append-nil}
use lib.ListN.{length, drop, length-append}
use Rattle.plane.specs.Record.{format1, entry_from, entry_length}
use Rattle.plane.specs.Plane.{bucket_count, base_count, entries_at, plane_from}
use Rattle.plane.specs.Right.{entries_read}
use Rattle.plane.proofs.Scan.{known}
use Rattle.plane.proofs.Read.{length-read_all, entries_more, entries_none}
use Rattle.patch.proofs.load_base.Goals.{In-Some}
use Rattle.patch.proofs.load_base.Goals as goal

-- the entry in hand, and those behind it
split : (c : In-Some) → c.loop-e.base ++ (entry_from c.in-Some.e.now ∷ entries_read c.next.new.self.rest.now) ≡ (plane_from format1 c.args.plane.now.bytes.now).base
split c =
    let s = c.in-Some.ensures.steps.1 in
    sym (ap (λ q. c.loop-e.base ++ q) (ap entries_read s.0 ∙ entries_more c.in-Some.e.now c.next.new.self.rest.now (s.1 ∙ c.loop-e.invariant.1))) ∙ c.loop-e.invariant.0

pub loop-e-init : goal.loop-e-init
loop-e-init c =
    rw (c.into_iter-e-iterator.ensures.into_iter_gives, c.chunks_exact-e-items.ensures.rest, c.chunks_exact-e-items.ensures.size, c.clear.ensures) (c.base.ensures, refl)

pub push-requires : goal.push-requires
unfolding plane_from
push-requires c =
    let p = c.args.plane.now.bytes.now in
    let k = length-read_all entry_length entry_from (base_count p) (drop (entries_at format1 (bucket_count p)) p) in
    let s = split (goal.at.push-requires c).In-Some in
    omega (arith, known format1 p c.args.plane.now.right, sym (length-append c.loop-e.base _) ∙ ap length s ∙ k)

pub loop-e-preserved : goal.loop-e-preserved
loop-e-preserved c =
    (rw (c.push.ensures, c.read.ensures) (append_assoc c.loop-e.base _ _ ∙ split (goal.at.loop-e-preserved c).In-Some), c.in-Some.ensures.steps.0 ∙ c.loop-e.invariant.1)

pub returns : goal.returns
returns c =
    sym (append-nil c.loop-e.base) ∙ ap (λ q. c.loop-e.base ++ q) (sym (entries_none c.loop-e.e-iterator.rest.now (omega (arith, c.in-None.ensures.steps, c.loop-e.invariant.1)))) ∙ c.loop-e.invariant.0
