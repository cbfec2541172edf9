-- `codec::number` meets its contract: each byte comes in below those after it.
-- Assumes nothing.
use Rattle.std.proofs.Common.{◌≡◌, ℕ, ◌^◌, ◌<◌, ◌≤◌, List, ◌∷◌, [], ◌++◌, length, refl, sym, ap, ◌∙◌, arith, rules, append_assoc, length-append, lit<, lt_of_lt_of_le, pow-suc}
use native.Mathlib.Nat.{pow-le-pow_right}
use Rattle.codec.specs.Bytes.{from_bytes}
use Rattle.codec.proofs.number.Goals as goal

pub loop-b-init : goal.loop-b-init
unfolding from_bytes
loop-b-init c = ([], search rules, refl, lit< tt)

small_before : (n x : ℕ) → n ≤ 7 → x < 256 ^ n → x < 2 ^ 56
small_before n x l h = lt_of_lt_of_le h (pow-le-pow_right {n = 256} (lit< tt) {i = n} {j = 7} l)

pub push_low-x-requires : goal.push_low-x-requires
push_low-x-requires c =
    let (read, left, value, small) = c.loop-b.invariant in
    small_before (length read) c.loop-b.x (grind (arith, length-append)) small

pub loop-b-preserved : goal.loop-b-preserved
unfolding from_bytes
loop-b-preserved c =
    let (read, left, value, small) = c.loop-b.invariant in
    (c.in-Some.b.now ∷ read, grind (arith, append_assoc), rw (c.push_low-x.ensures, value), rw pow-suc (omega arith))

all_read : (left read : List ℕ) → length left ≡ 0 → left ++ read ≡ read
all_read [] read e = refl
all_read (b ∷ left) read e = absurd (omega arith)

pub returns : goal.returns
returns c =
    let (read, left, value, small) = c.loop-b.invariant in
    value ∙ ap from_bytes (sym (left ∙ all_read _ read c.in-None.ensures.steps.0))
