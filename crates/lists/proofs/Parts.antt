-- A part of a list: what is dropped and taken, the rest of a slice, a stretch that is lent, the first elements one by one, and zeros.
-- Assumes nothing.
use Prim.Native.Nat.{ℕ, zero, suc, ◌+◌, ◌-◌, ◌*◌, ◌≤◌, ◌<◌}
use native.Mathlib.Nat.{zero-add, suc-add, add_comm, suc-mul}
use native.Mathlib.Numerals.{add-one}
use native.Mathlib.Omega.{arith}
use mathlib.Core.Path.{◌≡◌, refl, sym, ap, ap₂, ◌∙◌}
use mathlib.Core.List.Sublistᴰ
use mathlib.Core.List.{List, [], ◌∷◌, map, Sublistᴰ}
use lib.ListN.{length, get_or, take, drop, set, replicate, length-take, length-drop, length-set, drop_of_length-le}
use lib.Seq.{length-take-le, take_all, take-nil, drop-cons, drop-drop, drop-set-lt, get_or-take, get_or-set_same}

module _ {A : Type 0} where
  pub drop-take : (n m : ℕ) (l : List A) → drop n (take (n + m) l) ≡ take m (drop n l)
  drop-take zero m l = rw zero-add
  drop-take (suc n) m [] = rw (take-nil (suc n + m), take-nil m)
  drop-take (suc n) m (x ∷ l) = rw suc-add (drop-take n m l)

  -- things of `size` elements each: the first, then the others
  pub drop_more : (m size : ℕ) (l : List A) → drop (suc m * size) l ≡ drop (m * size) (drop size l)
  drop_more m size l = ap (λ (k : ℕ). drop k l) (suc-mul m size ∙ add_comm (m * size) size) ∙ sym (drop-drop (m * size) size l)

  pub take-sub : (m : ℕ) (l : List A) → Sublistᴰ (take m l) l
  take-sub zero l = Sublistᴰ.nil-sublist l
  take-sub (suc m) [] = Sublistᴰ.nil-sublist []
  take-sub (suc m) (x ∷ l) = Sublistᴰ.cons-cons refl (take-sub m l)

  -- from index i on after a store there
  pub drop-set : (l : List A) (i : ℕ) (x : A) → i < length l → drop i (set l i x) ≡ x ∷ drop (i + 1) l
  drop-set l i x h =
      let k : i < length (set l i x) = rw length-set h in
      drop-cons (set l i x) i x k ∙ rw (get_or-set_same l i x x, drop-set-lt (suc i) l i x (omega arith), add-one i)

  -- the rest of a slice, as the code lends it
  pub rest : (a : ℕ) (l : List A) → take (length l - a) (drop a l) ≡ drop a l
  rest a l = take_all (length l - a) (drop a l) (rw length-drop (omega arith))

  -- a stretch of k elements, as the code lends it
  pub stretch : (a k : ℕ) (l : List A) → take (a + k - a) (drop a l) ≡ take k (drop a l)
  stretch a k l = let e : a + k - a ≡ k = omega arith in ap (λ (j : ℕ). take j (drop a l)) e

  pub length_stretch : (a k : ℕ) (l : List A) → a + k ≤ length l → length (take (a + k - a) (drop a l)) ≡ k
  length_stretch a k l h = ap length (stretch a k l) ∙ length-take-le k (drop a l) (omega (arith, length-drop a l))

  -- the first m elements, from i on: one and the others; none
  pub first_next : (l : List A) (d : A) (m i : ℕ) → m ≤ length l → i < m → drop i (take m l) ≡ get_or l i d ∷ drop (suc i) (take m l)
  first_next l d m i h k =
      let j : i < length (take m l) = rw length-take-le k in
      drop-cons (take m l) i d j ∙ rw get_or-take

  pub first_past : (l : List A) (m i : ℕ) → m ≤ i → drop i (take m l) ≡ []
  first_past l m i h = drop_of_length-le (take m l) {i = i} (rw length-take (omega arith))

pub drop-map : {A B : Type 0} (f : A → B) (i : ℕ) (xs : List A) → drop i (map f xs) ≡ map f (drop i xs)
drop-map f zero xs = refl
drop-map f (suc i) [] = refl
drop-map f (suc i) (x ∷ xs) = drop-map f i xs

-- ---- numbers that are all 0

pub zeros : (xs : List ℕ) → ((i : ℕ) → get_or xs i 0 ≡ 0) → replicate (length xs) 0 ≡ xs
zeros [] h = refl
zeros (x ∷ xs) h = ap₂ {C = List ℕ} ◌∷◌ (sym (h 0)) (zeros xs (λ i. h (suc i)))

pub zero_at : (k i : ℕ) → ◌≡◌ {A = ℕ} (get_or (replicate k 0) i 0) 0
zero_at zero i = refl
zero_at (suc k) zero = refl
zero_at (suc k) (suc i) = zero_at k i

pub drop-zeros : (a k : ℕ) → ◌≡◌ {A = List ℕ} (drop a (replicate k 0)) (replicate (k - a) 0)
drop-zeros zero k = let e : k ≡ k - 0 = omega arith in ap (λ (j : ℕ). replicate {A = ℕ} j 0) e
drop-zeros (suc a) zero = let e : 0 ≡ 0 - suc a = omega arith in ap (λ (j : ℕ). replicate {A = ℕ} j 0) e
drop-zeros (suc a) (suc k) = let e : k - a ≡ suc k - suc a = omega arith in drop-zeros a k ∙ ap (λ (j : ℕ). replicate {A = ℕ} j 0) e
