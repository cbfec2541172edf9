-- Laws of a written part: what it leaves of the rest, what is read back, and how parts that are written one after the other join.
-- Assumes nothing.
use mathlib.Core.Path.{◌≡◌, refl, sym, ap, ◌∙◌}
use mathlib.Core.List.{List, [], ◌∷◌, ◌++◌}
use Prim.Native.Nat.{ℕ, zero, suc, ◌+◌, ◌≤◌, ◌<◌}
use native.Mathlib.Nat.{le_of_lt, zero-add, suc-add, not-suc-le-zero}
use native.Mathlib.Numerals.{add-one}
use native.Mathlib.Omega.{arith}
use lib.ListN.{length, get_or, take, drop, set}
use lib.Seq.{length-take-le, take-suc, take-append_seam, drop_at}
use borrow.Rule.Slice.PartMut.{put_mid}
use Rattle.std.proofs.lemmas.List.{drop-drop}
use Rattle.codec.specs.Parts.{part_at, written}

-- ---- the whole

pub length-written : (a : ℕ) (p t : List ℕ) → length (written a p t) ≡ length t
unfolding written
length-written zero [] t = refl
length-written zero (x ∷ p) [] = refl
length-written zero (x ∷ p) (y ∷ t) = ap suc (length-written zero p t)
length-written (suc a) p [] = refl
length-written (suc a) p (y ∷ t) = ap suc (length-written a p t)

-- where p fits, it stands between what was before it and after it
pub written-fits : (a : ℕ) (p t : List ℕ) → a + length p ≤ length t → written a p t ≡ take a t ++ (p ++ drop (a + length p) t)
unfolding written
written-fits zero [] t h = refl
written-fits zero (x ∷ p) [] h = absurd (not-suc-le-zero (rw zero-add at h))
written-fits zero (x ∷ p) (y ∷ t) h =
    rw (zero-add (suc (length p))) (ap (λ (l : List ℕ). x ∷ l) (written-fits zero p t (omega arith) ∙ rw (zero-add (length p))))
written-fits (suc a) p [] h = absurd (not-suc-le-zero (rw suc-add at h))
written-fits (suc a) p (y ∷ t) h = rw (suc-add a (length p)) (ap (λ (l : List ℕ). y ∷ l) (written-fits a p t (omega arith)))

-- the elements of p put in the place of k others
pub put_written : (a : ℕ) (p t : List ℕ) (k : ℕ) → k ≡ length p → a + k ≤ length t → put_mid a k t p ≡ written a p t
put_written a p t k e h =
    let f : a + length p ≤ length t = omega (arith, e) in
    rw (e, written-fits a p t f, drop-drop)

pub written_none : (a : ℕ) (t : List ℕ) → written a [] t ≡ t
unfolding written
written_none zero t = refl
written_none (suc a) [] = refl
written_none (suc a) (y ∷ t) = ap (λ (l : List ℕ). y ∷ l) (written_none a t)

-- only what fits counts
pub written_cut : (a n : ℕ) (p t : List ℕ) → length t ≤ a + n → written a (take n p) t ≡ written a p t
unfolding written
written_cut zero zero [] [] h = refl
written_cut zero zero (x ∷ p) [] h = refl
written_cut zero zero p (y ∷ t) h = absurd (not-suc-le-zero h)
written_cut zero (suc n) [] t h = refl
written_cut zero (suc n) (x ∷ p) [] h = refl
written_cut zero (suc n) (x ∷ p) (y ∷ t) h = ap (λ (l : List ℕ). x ∷ l) (written_cut zero n p t (omega arith))
written_cut (suc a) n p [] h = refl
written_cut (suc a) n p (y ∷ t) h = ap (λ (l : List ℕ). y ∷ l) (written_cut a n p t (omega arith))

-- past the end nothing is written
pub written-past : (a : ℕ) (p t : List ℕ) → length t ≤ a → written a p t ≡ t
written-past a p t h = sym (written_cut a 0 p t (omega arith)) ∙ written_none a t

-- ---- parts of it

-- the part itself
pub part_same : (a : ℕ) (p t : List ℕ) → a + length p ≤ length t → part_at (length p) a (written a p t) ≡ p
part_same a p t h = rw (written-fits a p t h, drop_at (take a t) (p ++ drop (a + length p) t) a (length-take-le a t (omega arith))) (take-append_seam p (drop (a + length p) t))

-- ---- one after the other

pub written-append : (a : ℕ) (p q t : List ℕ) → written a (p ++ q) t ≡ written (a + length p) q (written a p t)
unfolding written
written-append zero [] q t = refl
written-append zero (x ∷ p) q [] = rw (zero-add (suc (length p)))
written-append zero (x ∷ p) q (y ∷ t) =
    rw (zero-add (suc (length p))) (ap (λ (l : List ℕ). x ∷ l) (written-append zero p q t ∙ ap (λ (k : ℕ). written k q (written zero p t)) (zero-add (length p))))
written-append (suc a) p q [] = rw (suc-add a (length p))
written-append (suc a) p q (y ∷ t) = rw (suc-add a (length p)) (ap (λ (l : List ℕ). y ∷ l) (written-append a p q t))

-- one element
pub written_one : (a v : ℕ) (t : List ℕ) → written a (v ∷ []) t ≡ set t a v
unfolding written
written_one zero v [] = refl
written_one zero v (y ∷ t) = refl
written_one (suc a) v [] = refl
written_one (suc a) v (y ∷ t) = ap (λ (l : List ℕ). y ∷ l) (written_one a v t)

pub written-more : (a v : ℕ) (p t : List ℕ) → written a (p ++ (v ∷ [])) t ≡ set (written a p t) (a + length p) v
written-more a v p t = written-append a p (v ∷ []) t ∙ written_one (a + length p) v (written a p t)

-- one element, then the others; two, then the others
pub written_cons : (a x : ℕ) (p t : List ℕ) → written (a + 1) p (set t a x) ≡ written a (x ∷ p) t
written_cons a x p t = ap (written (a + 1) p) (sym (written_one a x t)) ∙ sym (written-append a (x ∷ []) p t)

pub written_two : (a x y : ℕ) (p t : List ℕ) → written (a + 2) p (set (set t a x) (a + 1) y) ≡ written a (x ∷ y ∷ p) t
written_two a x y p t =
    let n : a + 2 ≡ a + 1 + 1 = omega arith in
    rw n (written_cons (a + 1) y p (set t a x) ∙ written_cons a x (y ∷ p) t)

-- three parts one after the other
pub written_three : (a m k : ℕ) (p q r t t1 t2 : List ℕ) → length p ≡ m → length q ≡ k → t1 ≡ written a p t → t2 ≡ written (a + m) q t1
    → written (a + m + k) r t2 ≡ written a (p ++ (q ++ r)) t
written_three a m k p q r t t1 t2 b e f g =
    rw (g, f, ← b, ← e) (sym (written-append a p (q ++ r) t ∙ written-append (a + length p) q r (written a p t)))

-- the first i elements of p, and one more
pub take_next : (a i : ℕ) (p t : List ℕ) → i < length p → written a (take (i + 1) p) t ≡ set (written a (take i p) t) (a + i) (get_or p i 0)
take_next a i p t h =
    let e : length (take i p) ≡ i = length-take-le i p (le_of_lt h) in
    rw (add-one i, take-suc p i 0, written-more a (get_or p i 0) (take i p) t, e)
