-- What folding does: a to z become A to Z, no other byte is changed, and what is allowed stays allowed. Bytes that differ only in the case of letters
-- are folded to the same. Assumes nothing.
use mathlib.Core.Path.{◌≡◌, refl, sym, ap, ap₂, ◌∙◌, subst}
use mathlib.Core.Bool.{Bool, true, false, ◌&&◌, ◌||◌}
use mathlib.Core.List.{List, [], ◌∷◌, map}
use Prim.Native.Nat.{ℕ, ◌-◌, ◌%◌, ◌≤◌, ◌<◌}
use native.Mathlib.Nat.{le_refl, lt_of_le_of_lt, le-add_right}
use native.Mathlib.Omega.{arith}
use lib.Dec.{leb, ltb, eqb}
use borrow.Author.Tests.{le-leb, lt-leb, leb-true, ltb-true, eqb-true}
use Rattle.identifier.specs.Identifier.{between, small, capital, digit, one_of, marks, allowed, folded, refused_from, fold_of, same_letter, only_case}

-- a fact by the two cases of a test
pub by_test : {P : Type 0} (t : Bool) → (t ≡ true → P) → (t ≡ false → P) → P
by_test true f g = f refl
by_test false f g = g refl

and_parts : (a b : Bool) → (a && b) ≡ true → (a ≡ true) × (b ≡ true)
and_parts true b e = (refl, e)
and_parts false b e = let z : ◌≡◌ {A = ℕ} 0 1 = cc in absurd (omega arith)

or_cases : {P : Type 0} (a b : Bool) → (a || b) ≡ true → (a ≡ true → P) → (b ≡ true → P) → P
or_cases true b e f g = f refl
or_cases false b e f g = g e

pub between_parts : (first last b : ℕ) → between first last b ≡ true → (first ≤ b) × (b ≤ last)
between_parts first last b e =
    let p = and_parts (leb first b) (leb b last) e in
    (leb-true first b p.0, leb-true b last p.1)

pub folded-small : (b : ℕ) → small b ≡ true → folded b ≡ b - 0x20
unfolding folded
folded-small b e = rw e

-- folding changes nothing but a to z
pub folded-other : (b : ℕ) → small b ≡ false → folded b ≡ b
unfolding folded
folded-other b e = rw e

pub folded-capital : (b : ℕ) → small b ≡ true → capital (folded b) ≡ true
folded-capital b e =
    let r = between_parts 0x61 0x7a b e in
    rw (folded-small b e, le-leb 0x41 (b - 0x20) (omega arith), le-leb (b - 0x20) 0x5a (omega arith))

pub folded_not_small : (b : ℕ) → small (folded b) ≡ false
folded_not_small b =
    by_test (small b)
    (λ e. let r = between_parts 0x61 0x7a b e in rw (folded-small b e, lt-leb 0x61 (b - 0x20) (omega arith)))
    (λ e. rw (folded-other b e, e))

pub folded_twice : (b : ℕ) → folded (folded b) ≡ folded b
folded_twice b = folded-other (folded b) (folded_not_small b)

pub capital-allowed : (b : ℕ) → capital b ≡ true → allowed b ≡ true
unfolding allowed
capital-allowed b e = rw e (or_true (small b) (digit b) (one_of marks b))
  where
    or_true : (a c d : Bool) → (a || true || c || d) ≡ true
    or_true true c d = refl
    or_true false c d = refl

pub small-allowed : (b : ℕ) → small b ≡ true → allowed b ≡ true
unfolding allowed
small-allowed b e = rw e

pub allowed-folded : (b : ℕ) → allowed (folded b) ≡ allowed b
allowed-folded b =
    by_test (small b)
    (λ e. capital-allowed (folded b) (folded-capital b e) ∙ sym (small-allowed b e))
    (λ e. ap allowed (folded-other b e))

-- ---- the table's entry tells whether the byte is allowed

pub entry-allowed : (b : ℕ) → allowed b ≡ true → fold_of b ≡ folded b
unfolding fold_of
entry-allowed b e = rw e

pub entry_refused : (b : ℕ) → allowed b ≡ false → refused_from ≤ fold_of b
unfolding fold_of
entry_refused b e = rw e (le-add_right refused_from (b % refused_from))

folded_le : (b : ℕ) → folded b ≤ b
folded_le b = by_test (small b) (λ e. rw (folded-small b e) (omega arith)) (λ e. rw (folded-other b e) (le_refl b))

-- each is below the numbers of bytes that are not allowed
abbrev low : List ℕ → Bool
low [] = true
low (x ∷ xs) = ltb x refused_from && low xs

one_low : (xs : List ℕ) (b : ℕ) → low xs ≡ true → one_of xs b ≡ true → b < refused_from
one_low [] b l e = let z : ◌≡◌ {A = ℕ} 0 1 = cc in absurd (omega arith)
one_low (x ∷ xs) b l e =
    let p = and_parts (ltb x refused_from) (low xs) l in
    or_cases (eqb x b) (one_of xs b) e (λ q. subst (λ (n : ℕ). n < refused_from) (eqb-true x b q) (ltb-true x refused_from p.0)) (one_low xs b p.1)

allowed-low : (b : ℕ) → allowed b ≡ true → b < refused_from
unfolding allowed
allowed-low b e =
    or_cases (small b || capital b || digit b) (one_of marks b) e
    (λ e₁. or_cases (small b || capital b) (digit b) e₁
    (λ e₂. or_cases (small b) (capital b) e₂ (λ p. omega (arith, (between_parts 0x61 0x7a b p).1)) (λ p. omega (arith, (between_parts 0x41 0x5a b p).1)))
    (λ p. omega (arith, (between_parts 0x30 0x39 b p).1)))
    (one_low marks b refl)

-- no byte that is allowed is folded to such a number
pub entry-low : (b : ℕ) → allowed b ≡ true → fold_of b < refused_from
entry-low b e = rw (entry-allowed b e) (lt_of_le_of_lt (folded_le b) (allowed-low b e))

-- ---- lists

small_eq : (a b : ℕ) → (small a && eqb (a - 0x20) b) ≡ true → folded a ≡ folded b
small_eq a b e =
    let p = and_parts (small a) (eqb (a - 0x20) b) e in
    let q : folded a ≡ b = folded-small a p.0 ∙ eqb-true (a - 0x20) b p.1 in
    sym (folded_twice a) ∙ ap folded q

same-folded : (a b : ℕ) → same_letter a b ≡ true → folded a ≡ folded b
same-folded a b e =
    or_cases (eqb a b || (small a && eqb (a - 0x20) b)) (small b && eqb (b - 0x20) a) e
    (λ e₁. or_cases (eqb a b) (small a && eqb (a - 0x20) b) e₁ (λ p. ap folded (eqb-true a b p)) (small_eq a b))
    (λ e₂. sym (small_eq b a e₂))

pub case_folded : (s t : List ℕ) → only_case s t ≡ true → map folded s ≡ map folded t
unfolding only_case
case_folded [] [] e = refl
case_folded [] (b ∷ t) e = let z : ◌≡◌ {A = ℕ} 0 1 = cc in absurd (omega arith)
case_folded (a ∷ s) [] e = let z : ◌≡◌ {A = ℕ} 0 1 = cc in absurd (omega arith)
case_folded (a ∷ s) (b ∷ t) e =
    let p = and_parts (same_letter a b) (only_case s t) e in
    ap₂ ◌∷◌ (same-folded a b p.0) (case_folded s t p.1)
