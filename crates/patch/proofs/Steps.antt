-- What the loops will ask for: one more record of a run, one more bucket compared, and a bucket's record written over the old one.
-- Assumes nothing.
use Prim.Native.Nat.{ℕ, zero, suc, ◌+◌, ◌-◌, ◌*◌, ◌≤◌, ◌<◌}
use native.Mathlib.Nat.{suc-mul, zero-add, suc-add}
use native.Mathlib.Numerals.{sub-one}
use native.Mathlib.Omega.{arith}
use mathlib.Core.Path.{◌≡◌, refl, sym, ap, ap₂, ◌∙◌}
use mathlib.Core.Bool.{cond}
use mathlib.Core.List.{List, [], ◌∷◌, ◌++◌, append_assoc}
use lib.ListN.{length, get_or, drop, set, length-append}
use lib.Seq.{drop-cons, drop-drop, drop_at, get_or-drop}
use borrow.Author.Tests.{eq-eqb, ne_eqb}
use Rattle.codec.specs.Bytes.{eq_list}
use Rattle.codec.specs.Parts.{written}
use Rattle.codec.proofs.Part.{written-fits}
use Rattle.lists.specs.Lists.{Every}
use Rattle.plane.specs.Record.{Kind, size_of, record_of, bytes_of, PlaneBucket, bucket_bytes}
use Rattle.plane.proofs.Round.{Sized}
use Rattle.patch.specs.Patch.{changes_of}
use Rattle.patch.specs.Wrong.{run}

-- ---- a run

module _ (kind size : ℕ) where
  pub run-here : (m : ℕ) (p : List ℕ) → 0 < m → get_or p 0 0 ≡ kind → run kind size m p ≡ suc (run kind size (m - 1) (drop size p))
  unfolding run
  run-here zero p h e = absurd (omega arith)
  run-here (suc m) p h e = rw (eq-eqb (get_or p 0 0) kind e, sub-one)

  pub run_stop : (m : ℕ) (p : List ℕ) → (get_or p 0 0 ≡ kind → ⊥) → run kind size m p ≡ 0
  unfolding run
  run_stop zero p n = refl
  run_stop (suc m) p n = rw (ne_eqb (get_or p 0 0) kind n)

  -- at the offset `at` of d: a record after n of m ones, and another kind
  byte_at : (at : ℕ) (d : List ℕ) → get_or (drop at d) 0 0 ≡ get_or d at 0
  byte_at at d = let z : at + 0 ≡ at = omega arith in get_or-drop at d 0 0 ∙ ap (λ (i : ℕ). get_or d i 0) z

  pub run-next : (m n at : ℕ) (d : List ℕ) → n < m → get_or d at 0 ≡ kind
      → n + run kind size (m - n) (drop at d) ≡ n + 1 + run kind size (m - (n + 1)) (drop (at + size) d)
  run-next m n at d h e =
      let l : m - n - 1 ≡ m - (n + 1) = omega arith in
      let r : run kind size (m - n) (drop at d) ≡ suc (run kind size (m - (n + 1)) (drop (at + size) d)) =
      run-here (m - n) (drop at d) (omega arith) (byte_at at d ∙ e) ∙ rw (l, drop-drop size at d) in
      omega arith

  pub run-other : (m at : ℕ) (d : List ℕ) → (get_or d at 0 ≡ kind → ⊥) → run kind size m (drop at d) ≡ 0
  run-other m at d n = run_stop m (drop at d) (λ e. n (sym (byte_at at d) ∙ e))

-- ---- one more bucket

pub changes_step : (i : ℕ) (bs cs : List PlaneBucket) (z : PlaneBucket) → i < length bs → i < length cs
    → changes_of i (drop i bs) (drop i cs)
    ≡ cond (eq_list (bucket_bytes (get_or bs i z)) (bucket_bytes (get_or cs i z))) (changes_of (suc i) (drop (suc i) bs) (drop (suc i) cs))
    (record { index = i; bucket = get_or cs i z } ∷ changes_of (suc i) (drop (suc i) bs) (drop (suc i) cs))
changes_step i bs cs z hb hc = rw (drop-cons bs i z hb, drop-cons cs i z hc)

-- ---- a record written over the old one

written-front : (a b rest : List ℕ) → length a ≡ length b → written 0 a (b ++ rest) ≡ a ++ rest
written-front a b rest l = written-fits 0 a (b ++ rest) (omega (arith, length-append b rest)) ∙ ap (λ (p : List ℕ). a ++ p) (drop_at b rest (0 + length a) (omega arith))

pub written-past : (a : List ℕ) (n : ℕ) (p rest : List ℕ) → written (length a + n) p (a ++ rest) ≡ a ++ written n p rest
unfolding written
written-past [] n p rest = rw zero-add
written-past (x ∷ a) n p rest = rw (suc-add (length a) n) (ap (λ (l : List ℕ). x ∷ l) (written-past a n p rest))

module _ {A : Type 0} (k : Kind A) where
  -- the kind byte stays
  pub set-bytes : (xs : List A) (i : ℕ) (x : A) (q : List ℕ) → Every (Sized (record_of k) (size_of k)) xs → Sized (record_of k) (size_of k) x → i < length xs
      → written (i * size_of k + 1) (k.write x) (bytes_of (record_of k) xs ++ q) ≡ bytes_of (record_of k) (set xs i x) ++ q
  unfolding bytes_of written
  set-bytes [] i x q h s l = absurd (omega arith)
  set-bytes (y ∷ ys) zero x q h s l =
      let at : 0 * size_of k + 1 ≡ 1 = omega arith in
      rw (at, append_assoc (k.write y) (bytes_of (record_of k) ys) q, append_assoc (k.write x) (bytes_of (record_of k) ys) q)
      (ap (λ (p : List ℕ). k.number ∷ p) (written-front (k.write x) (k.write y) (bytes_of (record_of k) ys ++ q) (omega (arith, s, h.0))))
  set-bytes (y ∷ ys) (suc i) x q h s l =
      let rest : List ℕ = bytes_of (record_of k) ys ++ q in
      let at : suc i * size_of k + 1 ≡ length (record_of k y) + (i * size_of k + 1) = omega (arith, suc-mul i (size_of k), h.0) in
      ap₂ (λ (n : ℕ) (p : List ℕ). written n (k.write x) p) at (append_assoc (record_of k y) (bytes_of (record_of k) ys) q)
      ∙ written-past (record_of k y) (i * size_of k + 1) (k.write x) rest
      ∙ ap (λ (p : List ℕ). record_of k y ++ p) (set-bytes ys i x q h.1 s (omega arith))
      ∙ sym (append_assoc (record_of k y) (bytes_of (record_of k) (set ys i x)) q)
