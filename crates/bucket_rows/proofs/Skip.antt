-- A column of a free row needs no pass over the later products: no other product has its bit.
-- Assumes nothing.
use mathlib.Core.Path.{◌≡◌, refl, sym, ap, ap₂, ◌∙◌, subst}
use Prim.Native.Nat.{ℕ, zero, suc, ◌+◌, ◌-◌, ◌/◌, ◌%◌, ◌^◌, ◌≤◌, ◌<◌}
use native.Mathlib.Nat.{le_refl}
use native.Mathlib.Decide.{ℕ_discrete, dec_lt}
use native.Mathlib.Omega.{arith}
use lib.Bits.{bit_xor, bit_or, differ, xor_self}
use lib.ListN.{length, get_or, set, length-set}
use lib.Seq.{ext_get_or, get_or-set_same, get_or-set_other}
use Rattle.gf2.specs.Vectors.{bit, on, flip_if, outside}
use Rattle.gf2.proofs.Bit.{bit_lt, bit_zero, bit-xor, bit-pow-same, bit-pow-other, differ_zero, xor_cancel}
use Rattle.gf2.proofs.Linear.{flip_on}
use Rattle.gf2.proofs.Lowest.{bit-or, bit-outside}
use Rattle.bucket_rows.specs.Elimination.{passed, clear_from, pick, Work}
use Rattle.bucket_rows.proofs.Laws.{length-clear_from, clear_from-before, clear_from-at, pick-bit, pick_own}
use Rattle.bucket_rows.proofs.Free.{FreeBits}

-- no free row from j on is taken
abbrev pub Untaken : ℕ → ℕ → ℕ → Type 0
Untaken occ j mark = (a : ℕ) → j ≤ a → bit a occ ≡ 0 → bit a mark ≡ 0

on_none : (a d w : ℕ) → bit a w ≡ 0 → bit a (on d w) ≡ 0
on_none a zero w e = bit_zero a
on_none a (suc d) w e = e

module _ (n occ j p : ℕ) (s : Work) (hl : length s.prods ≡ n) (fb : FreeBits n occ s.prods) (ut : Untaken occ j s.mark)
    (hj : j < n) (hp : p < n) (q : p ≡ pick n j (outside (get_or s.prods j 0) s.mark)) where
  abbrev x : ℕ
  x = get_or s.prods j 0

  abbrev w : ℕ
  w = bit_xor (get_or s.prods j 0) (2 ^ p)

  x-bit : bit p x ≡ 1
  x-bit =
      let b : bit p (outside x s.mark) ≡ 1 =
      subst (λ (p : ℕ). bit p (outside x s.mark) ≡ 1) (sym q) (pick-bit n j (outside x s.mark) (subst (λ (p : ℕ). p < n) q hp)) in
      let d : bit p x - bit p s.mark ≡ 1 = sym (bit-outside p x s.mark) ∙ b in
      omega (arith, bit_lt p x)

  -- the column of a free row takes that row
  own : bit j occ ≡ 0 → p ≡ j
  own z =
      let o : bit j x ≡ 1 = fb j z j hj ∙ bit-pow-same j in
      let m : bit j s.mark ≡ 0 = ut j (le_refl j) z in
      let b : bit j (outside x s.mark) ≡ 1 = bit-outside j x s.mark ∙ omega arith in
      q ∙ pick_own n j (outside x s.mark) b

  apart : {a : ℕ} → (bit j occ ≡ 0 → ⊥) → bit a occ ≡ 0 → a ≡ j → ⊥
  apart f z r = f (subst (λ (y : ℕ). bit y occ ≡ 0) r z)

  -- the column of an occupied row takes an occupied one
  inside : (bit j occ ≡ 0 → ⊥) → bit p occ ≡ 0 → ⊥
  inside f z = omega (arith, x-bit, fb p z j hj, bit-pow-other p j (apart f z))

  -- column j of a free row: only its own product changes
  skip : bit j occ ≡ 0 → clear_from j p w s.prods ≡ set s.prods j (2 ^ p)
  skip z =
      ext_get_or 0 (clear_from j p w s.prods) (set s.prods j (2 ^ p)) (length-clear_from j p w s.prods ∙ sym (length-set s.prods j (2 ^ p)))
      (λ k h. at k (subst (λ (l : ℕ). k < l) (length-clear_from j p w s.prods ∙ hl) h) (ℕ_discrete k j) (dec_lt k j))
    where
      at : (k : ℕ) → k < n → Dec (k ≡ j) → Dec (k < j) → get_or (clear_from j p w s.prods) k 0 ≡ get_or (set s.prods j (2 ^ p)) k 0
      at k h (yes e) d =
          subst (λ (k : ℕ). get_or (clear_from j p w s.prods) k 0 ≡ get_or (set s.prods j (2 ^ p)) k 0) (sym e)
          (clear_from-at j p w s.prods j (le_refl j) (omega (arith, hl)) ∙ ap (λ (d : ℕ). flip_if d w x) x-bit ∙ xor_cancel x (2 ^ p)
          ∙ sym (get_or-set_same s.prods j (2 ^ p) 0 (omega (arith, hl))))
      at k h (no ne) (yes l) = clear_from-before j p w s.prods k l ∙ sym (get_or-set_other s.prods j k (2 ^ p) 0 ne)
      at k h (no ne) (no l) =
          let b : bit p (get_or s.prods k 0) ≡ 0 =
          ap (λ (y : ℕ). bit y (get_or s.prods k 0)) (own z) ∙ fb j z k h ∙ bit-pow-other j k (λ e. ne (sym e)) in
          clear_from-at j p w s.prods k (omega arith) (omega (arith, hl)) ∙ ap (λ (d : ℕ). flip_if d w (get_or s.prods k 0)) b
          ∙ sym (get_or-set_other s.prods j k (2 ^ p) 0 ne)

  -- so the pass that the code makes is the one that the definition asks
  pub passed_is : passed (occ / 2 ^ j % 2) j p w (2 ^ p) s.prods ≡ clear_from j p w s.prods
  passed_is = go (bit j occ) refl
    where
      go : (d : ℕ) → bit j occ ≡ d → passed d j p w (2 ^ p) s.prods ≡ clear_from j p w s.prods
      go zero e = sym (skip e)
      go (suc d) e = refl

  -- no free row has a bit in w
  w_none : (a : ℕ) → bit a occ ≡ 0 → bit a w ≡ 0
  w_none a z = bit-xor a x (2 ^ p) ∙ ap (λ (d : ℕ). differ d (bit a (2 ^ p))) (fb a z j hj) ∙ elim (ℕ_discrete (bit j occ) 0) [
    | yes o ↦ ap (λ (y : ℕ). differ (bit a (2 ^ j)) (bit a (2 ^ y))) (own o) ∙ sym (bit-xor a (2 ^ j) (2 ^ j)) ∙ ap (bit a) (xor_self (2 ^ j)) ∙ bit_zero a
    | no f ↦ ap₂ differ (bit-pow-other a j (apart f z)) (bit-pow-other a p (λ r. inside f (subst (λ (y : ℕ). bit y occ ≡ 0) r z)))
  ]

  pub free_bits_after : FreeBits n occ (clear_from j p w s.prods)
  free_bits_after a z k h = elim (dec_lt k j) [
    | yes l ↦ ap (bit a) (clear_from-before j p w s.prods k l) ∙ fb a z k h
    | no l ↦
        ap (bit a) (clear_from-at j p w s.prods k (omega arith) (omega (arith, hl)) ∙ flip_on (bit p (get_or s.prods k 0)) w (get_or s.prods k 0))
        ∙ bit-xor a (get_or s.prods k 0) (on (bit p (get_or s.prods k 0)) w)
        ∙ ap (differ (bit a (get_or s.prods k 0))) (on_none a (bit p (get_or s.prods k 0)) w (w_none a z)) ∙ differ_zero (bit a (get_or s.prods k 0)) ∙ fb a z k h
  ]

  pub untaken_after : Untaken occ (j + 1) (bit_or s.mark (2 ^ p))
  untaken_after a l z = bit-or a s.mark (2 ^ p) ∙ omega (arith, ut a (omega arith) z, bit-pow-other a p (go (ℕ_discrete (bit j occ) 0)))
    where
      go : Dec (bit j occ ≡ 0) → a ≡ p → ⊥
      go (yes o) r = omega (arith, own o)
      go (no f) r = inside f (subst (λ (y : ℕ). bit y occ ≡ 0) r z)
