-- An add to one bucket: where the bound comes to stand, what the bucket then holds, and what leaves. At every width.
-- Assumes nothing.
use Prim.Native.Nat.{ℕ, zero, suc, ◌^◌, ◌<◌, zero-le}
use native.Mathlib.Omega.{arith}
use mathlib.Core.Path.{◌≡◌, refl, sym, ap, ◌∙◌, subst, subst⁻¹, subst₂}
use mathlib.Core.Bool.{Bool, true, false, not, ◌&&◌}
use mathlib.Core.Option.{none, some}
use mathlib.Core.List.Memᴰ
use mathlib.Core.List.Permᴰ
use mathlib.Core.List.{List, [], ◌∷◌, ◌++◌, map, map-map, Permᴰ, Memᴰ}
use lib.Arith.{lt_of_le-ne}
use lib.Dec.{eqb, ltb}
use borrow.Author.Tests.{eqb-true, eqb-false, eq-eqb, ne_eqb, ltb-true, ltb-false, lt-ltb, le-ltb}
use Rattle.lists.specs.Lists.{keep, count_from}
use Rattle.lists.specs.Entries.{Entry, words, find, remove, Ascending}
use Rattle.lists.proofs.Tests.{cases, by_test, cond_true, cond_false, T→true, and_both, and-false}
use Rattle.lists.proofs.Keep.{keep_perm, keep-keep, keep-map, keep_in, keep_out, keep_ext, keep-part, shuffle, count_le, count_lt, count_in}
use Rattle.lists.proofs.Entries.{find_mem, mem_above}
use Rattle.lists.proofs.Sorts.{ascending_distinct, distinct_ext}
use Rattle.gf2.specs.Select.{elem, sums}
use Rattle.gf2.specs.Bound.{Due, under}
use Rattle.gf2.proofs.Bound.{fall}
use Rattle.bucket.specs.declared.Bucket.{Bucket}
use Rattle.std.specs.Prelude.{Option as Optional}
use Rattle.bucket.specs.Bucket.{lookup, live, add, without}
use Rattle.bucket_settle.specs.Settle.{contents, withdraw_all, at_bound, lowered, Settlement, ahead, or_else, leaving, settle}
use Rattle.bucket_settle.proofs.Hold.{Holds, live-elem, mem_elem, holds_perm, holds-find, row-of, holds_none, holds-add, holds-withdraw}

-- ---- entries made of numbers in order

module _ (f : ℕ → ℕ) (p : ℕ → Bool) where
  abbrev pub marked : ℕ → ℕ → List Entry
  marked a m = map (λ k. record { word = k; plan = f k }) (keep p (count_from a m))

  pub marked_ascending : (a m : ℕ) → Ascending (marked a m)
  marked_ascending a zero = tt
  marked_ascending a (suc m) =
      by_test (λ (l : List ℕ). Ascending (map (λ k. record { word = k; plan = f k }) l)) (p a)
      (λ t. (
        mem_above a (marked (suc a) m) (λ x i.
            let r = Memᴰ.of_map (λ k. record { word = k; plan = f k }) (keep p (count_from (suc a) m)) i in
            subst (λ (e : Entry). a < e.word) r.2 (count_le (suc a) m r.0 (keep_out p (count_from (suc a) m) r.0 r.1).0)),
        marked_ascending (suc a) m,
      ))
      (λ t. marked_ascending (suc a) m)

-- ---- thresholds and bounds

-- x is below u, is u, or is above it
ways : (P : Bool → Bool → Bool → Type 0) (x u : ℕ) → P true true false → P false true true → P false false false → P (ltb x u) (ltb x (suc u)) (eqb x u)
ways P x u below is above =
    cases (ltb x u)
    (λ t. let h = ltb-true x u t in rw (t, lt-ltb x (suc u) (omega arith), ne_eqb x u (λ q. omega (arith, q))) below)
    (λ f. let h = ltb-false x u f in
    cases (eqb x u)
    (λ q. let e = eqb-true x u q in rw (f, q, lt-ltb x (suc u) (omega arith)) is)
    (λ q. rw (f, q, le-ltb x (suc u) (lt_of_le-ne h (λ e. eqb-false x u q (sym e)))) above))

pub below_not : (x u : ℕ) → (ltb x (suc u) && not (eqb x u)) ≡ ltb x u
below_not x u = ways (λ a b c. (b && not c) ≡ a) x u refl refl refl

pub between : (x u : ℕ) → (not (ltb x u) && ltb x (suc u)) ≡ (ltb x (suc u) && eqb x u)
between x u = ways (λ a b c. (not a && b) ≡ (b && c)) x u refl refl refl

pub above_both : (x u : ℕ) → (not (ltb x u) && not (ltb x (suc u))) ≡ not (ltb x (suc u))
above_both x u = ways (λ a b c. (not a && not b) ≡ not b) x u refl refl refl

-- ---- the rows, listed

module _ {n r : ℕ} {b : Bucket} {rows : List Entry} (h : Holds n r b rows) where
  pub word_lt : (x : Entry) → Memᴰ x rows → x.word < 2 ^ n
  word_lt x m = let r = row-of h x m in subst (λ (k : ℕ). k < 2 ^ n) r.3 (h.sound.inverse.rows_lt r.0)

  pub rows_of : Permᴰ (contents n b) rows
  unfolding contents
  rows_of =
      distinct_ext (contents n b) rows (ascending_distinct (contents n b) (marked_ascending (lookup b) (λ k. live n k b) 0 (2 ^ n))) h.distinct
      (λ x i.
      let r = Memᴰ.of_map (λ k. record { word = k; plan = lookup b k }) (keep (λ k. live n k b) (count_from 0 (2 ^ n))) i in
      let q = keep_out (λ k. live n k b) (count_from 0 (2 ^ n)) r.0 r.1 in
      let l : r.0 < 2 ^ n = omega (arith, count_lt 0 (2 ^ n) r.0 q.0) in
      Memᴰ.cast (sym r.2) (find_mem r.0 (lookup b r.0) rows (sym (holds-find h r.0 l) ∙ cond_true (some (lookup b r.0)) none q.1)))
      (λ x i.
      let l = word_lt x i in
      let e : x ≡ record { word = x.word; plan = lookup b x.word } = sym (λ j. record { word = x.word; plan = h.plans x i j }) in
      Memᴰ.cast e (Memᴰ.map (λ k. record { word = k; plan = lookup b k })
      (keep_in (λ k. live n k b) (count_from 0 (2 ^ n)) (count_in 0 (2 ^ n) x.word zero-le (omega arith)) (live-elem h x.word l ∙ T→true _ (mem_elem x rows i)))))

pub rows_ascending : (n : ℕ) (b : Bucket) → Ascending (contents n b)
unfolding contents
rows_ascending n b = marked_ascending (lookup b) (λ k. live n k b) 0 (2 ^ n)

-- ---- words leave

pub holds-bound : {n r : ℕ} {b : Bucket} {rows : List Entry} (t : ℕ) → Holds n r b rows → Holds n r (at_bound t b) rows
holds-bound t h = record {
  matrix = h.matrix;
  sound = record { inverse = h.sound.inverse; free = h.sound.free; mark_lt = h.sound.mark_lt; clear = h.sound.clear };
  lives = h.lives;
  plans = h.plans;
  wide = h.wide;
  distinct = h.distinct;
}

pub withdraw-all : {n r : ℕ} (es : List Entry) {b : Bucket} {rest : List Entry} → Holds n r b (es ++ rest) → Holds n r (withdraw_all n (words es) b) rest
withdraw-all [] h = h
withdraw-all {n} {r} (e ∷ es) {b} {rest} h =
    withdraw-all es
    (subst (λ (l : List Entry). Holds n r (without n e.word b) l) (cond_true (es ++ rest) (e ∷ remove e.word (es ++ rest)) (eq-eqb e.word e.word refl))
    (holds-withdraw h e.word e.plan (word_lt h e (Memᴰ.head refl)) (cond_true (some e.plan) (find e.word (es ++ rest)) (eq-eqb e.word e.word refl))))

-- the bound falls to t: the words of threshold t leave, the rest stays
pub holds-lowered : {n r : ℕ} (thr : ℕ → ℕ) (t : ℕ) {b : Bucket} {rows rest : List Entry} → Holds n r b rows → Permᴰ rows (leaving n thr t b ++ rest) → Holds n r (lowered n thr t b) rest
holds-lowered {n} thr t {b} h s = holds-bound t (withdraw-all (leaving n thr t b) (holds_perm h s))

module _ (thr : ℕ → ℕ) where
  -- of the entries fs: those under the bound t, and the others
  abbrev pub held : ℕ → List Entry → List Entry
  held t fs = keep (λ e. ltb (thr e.word) t) fs

  abbrev pub over : ℕ → List Entry → List Entry
  over t fs = keep (λ e. not (ltb (thr e.word) t)) fs

  abbrev pub seen : Entry → Due
  seen e = record { vector = e.word; threshold = thr e.word }

  pub under-held : (t : ℕ) (fs : List Entry) → under t (map seen fs) ≡ words (held t fs)
  under-held t fs = ap (map (λ (d : Due). d.vector)) (keep-map seen (λ d. ltb d.threshold t) fs) ∙ map-map (λ (d : Due). d.vector) seen (held t fs)

  -- those of threshold u
  abbrev at : ℕ → List Entry → List Entry
  at u fs = keep (λ e. eqb (thr e.word) u) (held (suc u) fs)

  held_split : (u : ℕ) (fs : List Entry) → Permᴰ (held (suc u) fs) (at u fs ++ held u fs)
  held_split u fs =
      subst (λ (l : List Entry). Permᴰ (held (suc u) fs) (at u fs ++ l))
      (keep-keep (λ e. not (eqb (thr e.word) u)) (λ e. ltb (thr e.word) (suc u)) fs
      ∙ keep_ext (λ e. ltb (thr e.word) (suc u) && not (eqb (thr e.word) u)) (λ e. ltb (thr e.word) u) fs (λ e. below_not (thr e.word) u))
      (keep-part (λ e. eqb (thr e.word) u) (held (suc u) fs))

  over_split : (u : ℕ) (fs : List Entry) → Permᴰ (over u fs) (at u fs ++ over (suc u) fs)
  over_split u fs =
      subst₂ (λ (l m : List Entry). Permᴰ (over u fs) (l ++ m))
      (keep-keep (λ e. ltb (thr e.word) (suc u)) (λ e. not (ltb (thr e.word) u)) fs
      ∙ keep_ext (λ e. not (ltb (thr e.word) u) && ltb (thr e.word) (suc u)) (λ e. ltb (thr e.word) (suc u) && eqb (thr e.word) u) fs (λ e. between (thr e.word) u)
      ∙ sym (keep-keep (λ e. eqb (thr e.word) u) (λ e. ltb (thr e.word) (suc u)) fs))
      (keep-keep (λ e. not (ltb (thr e.word) (suc u))) (λ e. not (ltb (thr e.word) u)) fs
      ∙ keep_ext (λ e. not (ltb (thr e.word) u) && not (ltb (thr e.word) (suc u))) (λ e. not (ltb (thr e.word) (suc u))) fs (λ e. above_both (thr e.word) u))
      (keep-part (λ e. ltb (thr e.word) (suc u)) (over u fs))

module _ (n r : ℕ) (thr : ℕ → ℕ) where
  -- what the add of e leaves, where fs were due, under the bound t
  pub record Settles (e : Entry) (fs : List Entry) (t : ℕ) (s : Settlement) : Type 0 where
    pub holds : Holds n r s.bucket (held thr s.bucket.bound (e ∷ fs))
    pub falls : s.bucket.bound ≡ fall t (seen thr e) (map (seen thr) fs)
    pub leaves : Permᴰ (s.out ++ over thr t fs) (over thr s.bucket.bound (e ∷ fs))

  module _ (e : Entry) (fs : List Entry) (small : e.word < 2 ^ n) (plan-lt : e.plan < 2 ^ r) where
    goes_on : (t : ℕ) (b : Bucket) → b.bound ≡ t → Holds n r b (held thr t fs) → ltb (thr e.word) t ≡ false → fall t (seen thr e) (map (seen thr) fs) ≡ t
        → Settles e fs t (record { bucket = b; out = e ∷ [] })
    goes_on t b q h f fe = record {
      holds = subst⁻¹ (λ (u : ℕ). Holds n r b (held thr u (e ∷ fs))) q (rw f h);
      falls = q ∙ sym fe;
      leaves = subst⁻¹ (λ (u : ℕ). Permᴰ (e ∷ over thr t fs) (over thr u (e ∷ fs))) q (rw f (Permᴰ.refl (e ∷ over thr t fs)));
    }

    pub settle_law : (t : ℕ) (b : Bucket) → b.bound ≡ t → Holds n r b (held thr t fs) → Settles e fs t (settle n thr e t b)
    settle_law zero b q h = goes_on zero b q h (le-ltb (thr e.word) 0 zero-le) refl
    settle_law (suc u) b q h =
        by_test (λ (r : Settlement). Settles e fs (suc u) r) (ltb (thr e.word) (suc u))
        (λ l. cases (elem e.word (sums (words (held thr (suc u) fs)))) (depends (settle_law u) l) (stays l))
        (λ f. goes_on (suc u) b q h f (cond_false (fall u (seen thr e) (map (seen thr) fs)) (suc u) (ap (λ (a : Bool). a && elem e.word (sums (under (suc u) (map (seen thr) fs)))) f)))
      where
        same-has : elem e.word (sums (under (suc u) (map (seen thr) fs))) ≡ elem e.word (sums (words (held thr (suc u) fs)))
        same-has = ap (λ (l : List ℕ). elem e.word (sums l)) (under-held thr (suc u) fs)

        stays : ltb (thr e.word) (suc u) ≡ true → elem e.word (sums (words (held thr (suc u) fs))) ≡ false
            → Settles e fs (suc u) (or_else (add n e.word e.plan b) (ahead (leaving n thr u b) (settle n thr e u (lowered n thr u b))))
        stays l f =
            let a = holds-add h e small plan-lt f in
            subst⁻¹ (λ (o : Optional Bucket). Settles e fs (suc u) (or_else o (ahead (leaving n thr u b) (settle n thr e u (lowered n thr u b))))) a.1
            (record {
              holds = subst⁻¹ (λ (t : ℕ). Holds n r a.0 (held thr t (e ∷ fs))) (a.3 ∙ q) (rw l a.2);
              falls = a.3 ∙ q ∙ sym (cond_false (fall u (seen thr e) (map (seen thr) fs)) (suc u) (ap (λ (a : Bool). ltb (thr e.word) (suc u) && a) (same-has ∙ f) ∙ and-false (ltb (thr e.word) (suc u))));
              leaves = subst⁻¹ (λ (t : ℕ). Permᴰ (over thr (suc u) fs) (over thr t (e ∷ fs))) (a.3 ∙ q) (rw l (Permᴰ.refl (over thr (suc u) fs)));
            })

        out_at : Permᴰ (leaving n thr u b) (at thr u fs)
        out_at = keep_perm (λ x. eqb (thr x.word) u) (rows_of h)

        lower : Holds n r (lowered n thr u b) (held thr u fs)
        lower = holds-lowered thr u h (Permᴰ.trans (held_split thr u fs) (Permᴰ.append_right (held thr u fs) (Permᴰ.symm out_at)))

        depends : ((c : Bucket) → c.bound ≡ u → Holds n r c (held thr u fs) → Settles e fs u (settle n thr e u c)) → ltb (thr e.word) (suc u) ≡ true → elem e.word (sums (words (held thr (suc u) fs))) ≡ true
            → Settles e fs (suc u) (or_else (add n e.word e.plan b) (ahead (leaving n thr u b) (settle n thr e u (lowered n thr u b))))
        depends ih l t =
            let r = ih (lowered n thr u b) refl lower in
            let o : List Entry = (settle n thr e u (lowered n thr u b)).out in
            subst⁻¹ (λ (o : Optional Bucket). Settles e fs (suc u) (or_else o (ahead (leaving n thr u b) (settle n thr e u (lowered n thr u b))))) (holds_none h e small t)
            (record {
              holds = r.holds;
              falls = r.falls ∙ sym (cond_true (fall u (seen thr e) (map (seen thr) fs)) (suc u) (and_both l (same-has ∙ t)));
              leaves = Permᴰ.trans (shuffle (leaving n thr u b) o (over thr (suc u) fs))
                  (Permᴰ.trans (Permᴰ.append_left o
                  (Permᴰ.trans (Permᴰ.append_right (over thr (suc u) fs) out_at) (Permᴰ.symm (over_split thr u fs))))
                  r.leaves);
            })
