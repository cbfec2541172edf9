-- What the loops of the code leave of a list: rewritten or filled from the front, and an element that comes in or goes out.
-- Assumes nothing.
use Prim.Native.Nat.{ℕ, zero, suc, ◌+◌, ◌≤◌, ◌<◌}
use native.Mathlib.Nat.{not-suc-le-zero, le_of_suc-le-suc}
use native.Mathlib.Numerals.{add-one}
use native.Mathlib.Omega.{arith}
use mathlib.Core.Path.{◌≡◌, refl, sym, ap, ap₂, ◌∙◌}
use mathlib.Core.List.{List, [], ◌∷◌, ◌++◌, map, append_assoc, append-nil}
use lib.ListN.{length, get_or, set, take, drop, length-append, length-take, length-drop, drop_of_length-le}
use lib.Seq.{take_all, take-suc, take-suc-set, take-append-le, drop-append-le, drop-cons, drop-set-lt}
use Rattle.lists.specs.Lists.{put_at}

-- ---- a list rewritten from the front: what is written, then what is to come

-- element i becomes x, which is the first that F gives of the rest; G gives the others
pub front-step : (F G : List ℕ → List ℕ) (l : List ℕ) (i x : ℕ) → i < length l → ((r : List ℕ) → F (get_or l i 0 ∷ r) ≡ x ∷ G r)
    → take (i + 1) (set l i x) ++ G (drop (i + 1) (set l i x)) ≡ take i l ++ F (drop i l)
front-step F G l i x h e =
    rw (add-one, take-suc-set l i x h, drop-set-lt (suc i) l i x (omega arith), drop-cons l i 0, e) (append_assoc (take i l) (x ∷ []) (G (drop (suc i) l)))

pub front-end : (F : List ℕ → List ℕ) (l : List ℕ) (i : ℕ) → F [] ≡ [] → length l ≤ i → take i l ++ F (drop i l) ≡ l
front-end F l i e h = rw (take_all i l h, drop_of_length-le l h, e, append-nil)

-- ---- a list filled from the front with the elements of another

pub fill_step : (t s : List ℕ) (i x : ℕ) → i < length t → i < length s → x ≡ get_or s i 0 → take i t ≡ take i s → take (i + 1) (set t i x) ≡ take (i + 1) s
fill_step t s i x h k e q = rw (add-one, take-suc-set t i x h, take-suc s i 0 k, q, e)

pub fill_end : (t s : List ℕ) (i : ℕ) → length t ≤ i → length s ≤ i → take i t ≡ take i s → t ≡ s
fill_end t s i h k q = sym (take_all i t h) ∙ q ∙ take_all i s k

-- ---- an element comes in before element i, or goes out; the others move by one place

module _ {A : Type 0} where
  pub length-put : (i : ℕ) (x : A) (xs : List A) → i ≤ length xs → length (put_at i x xs) ≡ suc (length xs)
  length-put i x xs h = simp (length-append, length-take, length-drop) (omega arith)

  pub put_last : (i : ℕ) (x : A) (xs : List A) → length xs ≤ i → put_at i x xs ≡ xs ++ x ∷ []
  put_last i x xs h = rw (take_all i xs h, drop_of_length-le xs h)

  pub put-append : (i : ℕ) (x : A) (xs ys : List A) → i ≤ length xs → put_at i x (xs ++ ys) ≡ put_at i x xs ++ ys
  put-append i x xs ys h = rw (take-append-le, drop-append-le i xs ys h) (sym (append_assoc (take i xs) (x ∷ drop i xs) ys))

  pub put_same : (i : ℕ) (a b : A) (xs ys : List A) → i ≤ length xs → i ≤ length ys → put_at i a xs ≡ put_at i b ys → xs ≡ ys
  put_same zero a b xs ys h k e = cc
  put_same (suc i) a b [] ys h k e = absurd (not-suc-le-zero h)
  put_same (suc i) a b (x ∷ xs) [] h k e = absurd (not-suc-le-zero k)
  put_same (suc i) a b (x ∷ xs) (y ∷ ys) h k e =
      let p : x ≡ y = cc in
      let q : put_at i a xs ≡ put_at i b ys = cc in
      ap₂ {C = List A} ◌∷◌ p (put_same i a b xs ys (le_of_suc-le-suc h) (le_of_suc-le-suc k) q)

pub map-put : {A B : Type 0} (f : A → B) (es : List A) (i : ℕ) (e : A) → map f (put_at i e es) ≡ put_at i (f e) (map f es)
map-put f es zero e = refl
map-put f [] (suc i) e = refl
map-put f (x ∷ es) (suc i) e = ap (λ l. f x ∷ l) (map-put f es i e)

-- a turn of the loops: the element at i is carried on
pub carry_up : (l : List ℕ) (i c : ℕ) → i < length l → put_at (i + 1) (get_or l i 0) (set l i c) ≡ put_at i c l
carry_up l i c h = front-step (λ r. c ∷ r) (λ r. get_or l i 0 ∷ r) l i c h (λ r. refl)

pub carry_down : (l : List ℕ) (i c : ℕ) → i < length l → put_at i (get_or l i 0) (set l i c) ≡ put_at (suc i) c l
carry_down [] i c h = absurd (not-suc-le-zero h)
carry_down (y ∷ l) zero c h = refl
carry_down (y ∷ l) (suc i) c h = ap {B = List ℕ} (λ r. y ∷ r) (carry_down l i c (le_of_suc-le-suc h))
