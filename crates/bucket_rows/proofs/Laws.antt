-- The parts of the elimination: lengths, elements, the loops, and the run step by step.
-- Assumes nothing.
use mathlib.Core.Path.{◌≡◌, refl, sym, ap, ap₂, ◌∙◌, subst}
use mathlib.Core.Bool.{Bool, true, false, ◌&&◌}
use mathlib.Core.List.{List, [], ◌∷◌, ◌++◌, append-nil}
use Prim.Native.Nat.{ℕ, zero, suc, ◌+◌, ◌^◌, ◌≤◌, ◌<◌}
use native.Mathlib.Nat.{not-suc-le-zero, le_of_suc-le-suc}
use native.Mathlib.Decide.{ℕ_discrete, dec_lt}
use native.Mathlib.Numerals.{add-one}
use native.Mathlib.Omega.{arith}
use borrow.Author.Tests.{lt-ltb, le-ltb, ltb-true}
use lib.Bits.{bit_xor, xor_zero_r}
use lib.Count.{count_trailing_zeros}
use lib.Dec.{ltb}
use lib.ListN.{length, get_or, set, take, drop, length-drop, drop_of_length-le}
use lib.Seq.{take_all}
use borrow.Rule.Slice.PartMut.{mid_of, put_mid}
use Rattle.lists.proofs.Tests.{by_test, and-false}
use Rattle.gf2.specs.Vectors.{bit, flip_if, outside}
use Rattle.gf2.proofs.Bit.{bit_lt, bit_zero}
use Rattle.gf2.proofs.Linear.{on_zero, flip_on}
use Rattle.gf2.proofs.Lowest.{tz_bit, tz_lt}
use Rattle.lists.proofs.Loops.{front-step}
use Rattle.std.specs.Prelude.{Option, Some, None, MatchOption}
use Rattle.bucket_rows.specs.Elimination.{clear, clear_from, passed, preferred, below, pick, Work, row_at, step_at, after, placed, ordered, eliminated}

-- ---- clear, from element j on

pub length-clear_from : (j p w : ℕ) (l : List ℕ) → length (clear_from j p w l) ≡ length l
unfolding clear_from
length-clear_from zero p w [] = refl
length-clear_from zero p w (x ∷ l) = ap suc (length-clear_from zero p w l)
length-clear_from (suc j) p w [] = refl
length-clear_from (suc j) p w (x ∷ l) = ap suc (length-clear_from j p w l)

pub clear_from-before : (j p w : ℕ) (l : List ℕ) (i : ℕ) → i < j → get_or (clear_from j p w l) i 0 ≡ get_or l i 0
unfolding clear_from
clear_from-before zero p w l i h = absurd (not-suc-le-zero h)
clear_from-before (suc j) p w [] i h = refl
clear_from-before (suc j) p w (x ∷ l) zero h = refl
clear_from-before (suc j) p w (x ∷ l) (suc i) h = clear_from-before j p w l i (le_of_suc-le-suc h)

pub clear_from-at : (j p w : ℕ) (l : List ℕ) (i : ℕ) → j ≤ i → i < length l → get_or (clear_from j p w l) i 0 ≡ flip_if (bit p (get_or l i 0)) w (get_or l i 0)
unfolding clear_from
clear_from-at j p w [] i h k = absurd (not-suc-le-zero k)
clear_from-at zero p w (x ∷ l) zero h k = refl
clear_from-at zero p w (x ∷ l) (suc i) h k = clear_from-at zero p w l i (omega arith) (le_of_suc-le-suc k)
clear_from-at (suc j) p w (x ∷ l) zero h k = absurd (not-suc-le-zero h)
clear_from-at (suc j) p w (x ∷ l) (suc i) h k = clear_from-at j p w l i (le_of_suc-le-suc h) (le_of_suc-le-suc k)

-- no step where w is 0
pub clear_from_none : (j p : ℕ) (l : List ℕ) → clear_from j p 0 l ≡ l
unfolding clear_from
clear_from_none zero p [] = refl
clear_from_none zero p (x ∷ l) = ap₂ (λ (y : ℕ) (r : List ℕ). y ∷ r) (flip_on (bit p x) 0 x ∙ ap (bit_xor x) (on_zero (bit p x)) ∙ xor_zero_r x) (clear_from_none zero p l)
clear_from_none (suc j) p [] = refl
clear_from_none (suc j) p (x ∷ l) = ap (λ (r : List ℕ). x ∷ r) (clear_from_none j p l)

pub clear_at : (p w : ℕ) (l : List ℕ) (i x : ℕ) → i < length l → x ≡ flip_if (bit p (get_or l i 0)) w (get_or l i 0)
    → take (i + 1) (set l i x) ++ clear p w (drop (i + 1) (set l i x)) ≡ take i l ++ clear p w (drop i l)
clear_at p w l i x h e = front-step (clear p w) (clear p w) l i x h (λ r. ap (λ (y : ℕ). y ∷ clear p w r) (sym e))

pub passed-set : (d j p w y : ℕ) (l r : List ℕ) (k : ℕ) → (d ≡ 0 → ⊥) → length l ≤ j + k → r ≡ clear p w (mid_of j k l) → put_mid j k l r ≡ passed d j p w y l
unfolding clear_from
passed-set zero j p w y l r k h g e = absurd (h refl)
passed-set (suc d) j p w y l r k h g e =
    let b : length (drop j l) ≤ k = rw length-drop (omega arith) in
    let m : mid_of j k l ≡ drop j l = take_all k (drop j l) b in
    ap (λ (q : List ℕ). take j l ++ q) (ap (λ (q : List ℕ). r ++ q) (drop_of_length-le (drop j l) b) ∙ append-nil r ∙ e ∙ ap (clear p w) m)

-- ---- the duals in order

pub length-ordered : (n : ℕ) (ds xs : List ℕ) → length (ordered n ds xs) ≡ length xs
length-ordered n ds [] = refl
length-ordered n ds (x ∷ xs) = ap suc (length-ordered n ds xs)

pub get_d_ordered : (n : ℕ) (ds xs : List ℕ) (i : ℕ) → i < length xs → get_or (ordered n ds xs) i 0 ≡ get_or ds (count_trailing_zeros n (get_or xs i 0)) 0
get_d_ordered n ds [] i h = absurd (not-suc-le-zero h)
get_d_ordered n ds (x ∷ xs) zero h = refl
get_d_ordered n ds (x ∷ xs) (suc i) h = get_d_ordered n ds xs i (le_of_suc-le-suc h)

pub ordered_at : (n : ℕ) (ds l : List ℕ) (i x : ℕ) → i < length l → x ≡ get_or ds (count_trailing_zeros n (get_or l i 0)) 0
    → take (i + 1) (set l i x) ++ ordered n ds (drop (i + 1) (set l i x)) ≡ take i l ++ ordered n ds (drop i l)
ordered_at n ds l i x h e = front-step (ordered n ds) (ordered n ds) l i x h (λ r. ap (λ (y : ℕ). y ∷ ordered n ds r) (sym e))

-- ---- the row that is picked

pub pick-bit : (n j f : ℕ) → pick n j f < n → bit (pick n j f) f ≡ 1
unfolding pick
pick-bit n j f h = go (bit j f) refl h
  where
    go : (d : ℕ) → bit j f ≡ d → preferred d j (count_trailing_zeros n f) < n → bit (preferred d j (count_trailing_zeros n f)) f ≡ 1
    go zero e h = tz_bit n f h
    go (suc d) e h = omega (arith, bit_lt j f)

pub pick_none : (n j f : ℕ) → j < n → f < 2 ^ n → (pick n j f < n → ⊥) → f ≡ 0
unfolding pick
pick_none n j f hj hf h = go (bit j f) h (ℕ_discrete f 0)
  where
    go : (d : ℕ) → (preferred d j (count_trailing_zeros n f) < n → ⊥) → Dec (f ≡ 0) → f ≡ 0
    go d h (yes e) = e
    go zero h (no ne) = absurd (h (tz_lt n f hf ne))
    go (suc d) h (no ne) = absurd (h hj)

-- as the code picks it
pub pick_set : (n j f : ℕ) → j < n → (bit j f ≡ 0 → ⊥) → Some j ≡ below n (pick n j f)
unfolding pick
pick_set n j f h ne = go (bit j f) ne
  where
    go : (d : ℕ) → (d ≡ 0 → ⊥) → Some j ≡ below n (preferred d j (count_trailing_zeros n f))
    go zero z = absurd (z refl)
    go (suc d) z = rw (lt-ltb j n h)

pub pick_lowest : (n j f : ℕ) → f < 2 ^ n → bit j f ≡ 0 → (f ≡ 0 → ⊥) → Some (count_trailing_zeros n f) ≡ below n (pick n j f)
unfolding pick
pick_lowest n j f h e ne = rw (e, lt-ltb (count_trailing_zeros n f) n (tz_lt n f h ne))

zero_none : (n : ℕ) → n ≤ count_trailing_zeros n 0
zero_none n = elim (dec_lt (count_trailing_zeros n 0) n) [
  | yes h ↦ absurd (omega (arith, tz_bit n 0 h, bit_zero (count_trailing_zeros n 0)))
  | no h ↦ omega arith
]

pub pick_nothing : (n j f : ℕ) → f ≡ 0 → None ≡ below n (pick n j f)
unfolding pick
pick_nothing n j f z = rw (z, bit_zero j, le-ltb (count_trailing_zeros n 0) n (zero_none n))

-- a number below n, and one that is not
pub below-some : (n x p : ℕ) → Some p ≡ below n x → (p < n) × (p ≡ x)
below-some n x p e =
    let P : Option ℕ → Type 0 = λ o. MatchOption o (Unit {0}) (λ p. (p < n) × (p ≡ x)) in
    subst P (sym e) (by_test P (ltb x n) (λ t. (ltb-true x n t, refl)) (λ t. tt))

below-none : (n x : ℕ) → None ≡ below n x → ltb x n ≡ false
below-none n x e =
    let P : Option ℕ → Type 0 = λ o. MatchOption o (ltb x n ≡ false) (λ p. Unit {0}) in
    subst P (sym e) (by_test P (ltb x n) (λ t. tt) (λ t. t))

-- its own row, where that is free
pub pick_own : (n j f : ℕ) → bit j f ≡ 1 → pick n j f ≡ j
unfolding pick
pick_own n j f e = rw e

-- ---- the run

-- a column that found no row: the run does not end well
pub stuck : (n : ℕ) (cs : List ℕ) (j m : ℕ) → j < m → ltb (row_at n j (after n cs j)) n ≡ false → placed n cs m ≡ false
unfolding placed
stuck n cs j zero h e = absurd (omega arith)
stuck n cs j (suc m) h e = go (ℕ_discrete j m) (λ l. stuck n cs j m l e)
  where
    go : Dec (j ≡ m) → (j < m → placed n cs m ≡ false) → (placed n cs m && ltb (row_at n m (after n cs m)) n) ≡ false
    go (yes q) ih = subst (λ (m : ℕ). (placed n cs m && ltb (row_at n m (after n cs m)) n) ≡ false) q (ap (λ (b : Bool). placed n cs j && b) e ∙ and-false (placed n cs j))
    go (no ne) ih = ap (λ (b : Bool). b && ltb (row_at n m (after n cs m)) n) (ih (omega arith))

pub after_more : (n : ℕ) (cs : List ℕ) (j : ℕ) (s : Work) (p : ℕ) → s ≡ after n cs j → p ≡ row_at n j s → after n cs (j + 1) ≡ step_at j p s
unfolding after
after_more n cs j s p e q = rw (add-one, ← e, q)

pub placed-more : (n : ℕ) (cs : List ℕ) (j : ℕ) (s : Work) (p : ℕ) → s ≡ after n cs j → p ≡ row_at n j s → p < n → placed n cs j ≡ true → placed n cs (j + 1) ≡ true
unfolding placed
placed-more n cs j s p e q h t = rw (add-one, ← e, ← q, lt-ltb p n h, t)

pub row_none : (n j : ℕ) (s : Work) → None ≡ below n (pick n j (outside (get_or s.prods j 0) s.mark)) → ltb (row_at n j s) n ≡ false
unfolding row_at
row_none n j s e = below-none n _ e

pub row_is : (n j p : ℕ) (s : Work) → p ≡ pick n j (outside (get_or s.prods j 0) s.mark) → p ≡ row_at n j s
unfolding row_at
row_is n j p s e = e

pub answer_is : (n : ℕ) (cs : List ℕ) (s : Work) (r : List ℕ) → s ≡ after n cs n → placed n cs n ≡ true → r ≡ ordered n s.duals s.prods
    → Some r ≡ eliminated n cs
unfolding eliminated
answer_is n cs s r e t q = rw (t, q, e)
