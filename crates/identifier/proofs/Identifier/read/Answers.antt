-- `identifier::Identifier::read` meets its contract.
-- Assumes nothing.
use borrow.Author.Tests.{le-leb}
use borrow.Author.Rules.{rules}
use Prim.Native.Nat.{ℕ, ◌≤◌, ◌<◌}
use native.Mathlib.Nat.{le_trans}
use native.Mathlib.Omega.{arith}
use mathlib.Core.Path.{◌≡◌, sym, ap, ◌∙◌}
use mathlib.Core.Logic.{◌⊎◌, inl, inr}
use mathlib.Core.Bool.{true, false}
use lib.Dec.{lit≤}
use lib.ListN.{take}
use Rattle.std.specs.Prelude.{Ok, Err}
use Rattle.answer.specs.declared.Cause.TheVariants.{WrongKind}
use Rattle.identifier.specs.Identifier.{most_bytes, is_kind, read_of}
use Rattle.identifier.specs.Kinds.{kind_of}
use Rattle.identifier.specs.Scan.{scan}
use Rattle.identifier.proofs.Folding.{by_test}
use Rattle.identifier.proofs.Causes.{range_exactly}
use Rattle.identifier.proofs.Scan.{scan_read}
use Rattle.identifier.proofs.Identifier.read.Goals as goal

-- a number with no kind is turned down by cause 15 alone
kind_wrong : {c : _} (n : ℕ) → kind_of n ≡ Err c → (is_kind n ≡ false) × (c ≡ WrongKind)
kind_wrong n e = by_test (is_kind n) (λ t. let z = rw t at e in absurd (cc)) (λ f. (f, let z = rw f at e in cc))

kind_right : {k : _} (n : ℕ) → kind_of n ≡ Ok k → is_kind n ≡ true
kind_right n e = by_test (is_kind n) (λ t. t) (λ f. let z = rw f at e in absurd (cc))

-- what is over a limit is over a lower one
over : (limit last n : ℕ) → limit ≤ last → (n ≡ 0) ⊎ ((n ≡ 0 → ⊥) × (last < n)) → (n ≡ 0) ⊎ (limit < n)
over limit last n l (inl z) = inl z
over limit last n l (inr h) = inr (omega (arith, h.1))

pub returns-in_err-try_from : goal.returns-in_err-try_from
unfolding read_of
returns-in_err-try_from c =
    let k = kind_wrong c.args.kind (sym c.try_from.ensures ∙ c.in_err-try_from.was) in
    rw k.0 (search (rules, k.1))

pub returns-then-n-eq0 : goal.returns-then-n-eq0
unfolding read_of
returns-then-n-eq0 c =
    let k = kind_right c.args.kind (sym c.try_from.ensures ∙ c.in_ok-try_from.was) in
    rw (k, (range_exactly most_bytes c.args.n).1 (over most_bytes _ c.args.n (lit≤ tt) c.then-n-eq0.either))

pub returns : goal.returns
returns c =
    let k = kind_right c.args.kind (sym c.try_from.ensures ∙ c.in_ok-try_from.was) in
    let some : 1 ≤ c.args.n = omega arith in
    let few : c.args.n ≤ most_bytes = le_trans c.if-n-gt-MAX_LEN.false (lit≤ tt) in
    c.read_bytes.ensures ∙ ap (λ (h : ℕ). scan 0 h (take c.args.n c.args.s.now)) c.fnv_step.ensures
    ∙ scan_read (record { kind = c.args.kind; stated = c.args.n; bytes = c.args.s.now }) k (rw (le-leb 1 _ some, le-leb _ most_bytes few))
