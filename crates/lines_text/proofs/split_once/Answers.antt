-- `lines_text::split_once` meets its contract.
-- Assumes nothing.
use Rattle.std.proofs.Common.{◌≡◌, ◌<◌, ◌≢◌, ◌∷◌, length, take, ap, sym, ◌∙◌, rules, tests, arith, length-drop}
use lib.Seq.{take_all}
use Rattle.std.specs.List.{AllWithin, HoldsAt}
use Rattle.std.proofs.lemmas.Iterator.{IsFirst-from_position, YieldsList-from_slice}
use Rattle.lines_text.specs.Line.{parted}
use Rattle.lines_text.proofs.Parted.{parted_one, parted-more}
use Rattle.lines_text.proofs.split_once.Goals as goal

pub returns-in_err-i-clause-parts : goal.returns-in_err-i-clause-parts
returns-in_err-i-clause-parts c =
    let first : AllWithin (λ x. x ≢ c.args.b) c.args.s.now 0 (length c.args.s.now) = IsFirst-from_position _ _ _ (λ x. x ≡ c.args.b) (λ x. x ≢ c.args.b) c.in_err-i.ensures.ran (YieldsList-from_slice c.args.s.now cc) (λ x q k. search (rules, tests)) (λ x q k. search (rules, tests)) in
    rw c.from_residual.ensures (parted_one c.args.b c.args.s.now (λ k l. first k 0 (omega arith) l))

pub returns-clause-parts : goal.returns-clause-parts
returns-clause-parts c =
    let first : (c.in_ok-i.i < length c.args.s.now) × HoldsAt (λ x. x ≡ c.args.b) c.args.s.now c.in_ok-i.i × AllWithin (λ x. x ≢ c.args.b) c.args.s.now 0 c.in_ok-i.i
    = IsFirst-from_position _ _ _ (λ x. x ≡ c.args.b) (λ x. x ≢ c.args.b) c.in_ok-i.ensures.ran (YieldsList-from_slice c.args.s.now cc) (λ x q k. search (rules, tests)) (λ x q k. search (rules, tests)) in
    parted-more c.args.b c.args.s.now c.in_ok-i.i first.0 (first.1 0) (λ k l. first.2 k 0 (omega arith) l)
    ∙ ap (λ l. take c.in_ok-i.i c.args.s.now ∷ parted c.args.b l) (sym (take_all _ _ (rw length-drop (omega arith))))
