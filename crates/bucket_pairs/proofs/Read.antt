-- What is read off pairs: the rows, or a dependence, turn by turn; and what each tells where a linear function ties the pairs.
-- Assumes nothing.
use mathlib.Core.Path.{◌≡◌, sym, ap, ◌∙◌, subst}
use mathlib.Core.Bool.{cond, not, ◌&&◌, true≢false}
use mathlib.Core.List.{List, [], ◌∷◌}
use Prim.Native.Nat.{ℕ, suc, ◌-◌, ◌^◌, ◌≤◌, ◌<◌}
use native.Mathlib.Omega.{arith}
use borrow.Author.Tests.{lt-ltb, le-ltb, ltb-true, eq-eqb, ne_eqb, eqb-true}
use Rattle.std.specs.Prelude.{Option, Some, None, MatchOption}
use Rattle.std.specs.Option.{option_map}
use Rattle.std.proofs.lemmas.List.Elements.{All-head, All-tail}
use lib.Count.{count_trailing_zeros}
use lib.Dec.{eqb, ltb}
use lib.Pow.{pow-lt}
use lib.ListN.{length, get_or, set, drop, length-set, drop_of_length-le}
use lib.Seq.{get_or-set_same, get_or-set_other, drop-cons}
use Rattle.lists.proofs.Tests.{by_test, and-false, cond_true, and_one, and_two, and_both}
use Rattle.gf2.specs.Vectors.{bit, outside, product, units}
use Rattle.gf2.proofs.Bit.{by_place, bit_zero, bit_ext, bit-pow-other}
use Rattle.gf2.proofs.Inverse.{length-units, get_d_units}
use Rattle.gf2.proofs.Lowest.{bit-outside}
use Rattle.bucket_pairs.specs.declared.Pair.{Pair}
use Rattle.bucket_pairs.specs.declared.Guess.{Guess}
use Rattle.bucket_pairs.specs.declared.Guess.TheVariants.{Rows, Singular, Unknown}
use Rattle.bucket_pairs.specs.Pairs.{zeros, entry, only_bit, told, read_from, read_rows, depends, dependence, TiedPair, Tied, OwnOutside, Fixes, Guessed}
use Rattle.bucket_pairs.proofs.Tied.{own_fixes}

-- ---- one bit alone

pub only_one : (n x : ℕ) → count_trailing_zeros n x < n → x ≡ 2 ^ count_trailing_zeros n x → Some (count_trailing_zeros n x) ≡ only_bit n x
unfolding only_bit
only_one n x h e = sym (cond_true (Some (count_trailing_zeros n x)) None (and_both (lt-ltb _ _ h) (eq-eqb x (2 ^ count_trailing_zeros n x) e)))

pub only_other : (n x : ℕ) → (x ≡ 2 ^ count_trailing_zeros n x → ⊥) → None ≡ only_bit n x
unfolding only_bit
only_other n x ne = rw (ne_eqb x (2 ^ count_trailing_zeros n x) ne, and-false (ltb (count_trailing_zeros n x) n))

pub only_none : (n x : ℕ) → n ≤ count_trailing_zeros n x → None ≡ only_bit n x
unfolding only_bit
only_none n x h = rw (le-ltb (count_trailing_zeros n x) n h)

-- the bit is below n, and the word is its power
abbrev Unit-at : ℕ → ℕ → Option ℕ → Type 0
Unit-at n x o = MatchOption o (Unit {0}) (λ j. (j < n) × (x ≡ 2 ^ j))

only_unit : (n x : ℕ) → Unit-at n x (only_bit n x)
unfolding only_bit
only_unit n x =
    by_test (Unit-at n x) (ltb (count_trailing_zeros n x) n && eqb x (2 ^ count_trailing_zeros n x))
    (λ t. (ltb-true _ _ (and_one _ _ t), eqb-true _ _ (and_two _ _ t))) (λ t. tt)

pub only_is : (n x j : ℕ) → Some j ≡ only_bit n x → (j < n) × (x ≡ 2 ^ j)
only_is n x j e = subst (Unit-at n x) (sym e) (only_unit n x)

-- ---- the rows, turn by turn

module _ (n : ℕ) (ws : List Pair) (a : ℕ) (rows : List ℕ) (left : ℕ) where
  pub rows_stop : a < length ws → None ≡ only_bit n (entry ws a).left → Unknown ≡ read_from n (drop a ws) rows left
  unfolding read_from
  rows_stop h e = rw (drop-cons ws a zeros h, ← e)

  pub rows_more : (j : ℕ) → a < length ws → Some j ≡ only_bit n (entry ws a).left
      → read_from n (drop (suc a) ws) (set rows j (entry ws a).right) (outside left (entry ws a).left) ≡ read_from n (drop a ws) rows left
  unfolding read_from
  rows_more j h e = rw (drop-cons ws a zeros h, ← e)

  pub rows_end : length ws ≤ a → read_from n (drop a ws) rows left ≡ cond (eqb left 0) (Rows rows) Unknown
  unfolding read_from
  rows_end h = rw (drop_of_length-le ws h)

-- ---- the rows, where f ties the pairs

-- the unit of a free row lies outside the mark
unit_outside : (i mark : ℕ) → bit i mark ≡ 0 → outside (2 ^ i) mark ≡ 2 ^ i
unit_outside i mark z =
    bit_ext (outside (2 ^ i) mark) (2 ^ i)
    (by_place (λ a. bit a (outside (2 ^ i) mark) ≡ bit a (2 ^ i)) i (bit-outside i (2 ^ i) mark ∙ omega arith) (λ a ne. bit-outside a (2 ^ i) mark ∙ omega (arith, bit-pow-other a i ne)))

module _ (n : ℕ) (f : ℕ → ℕ) where
  -- f makes units of the rows whose bits are not left to be read
  abbrev ReadBut : ℕ → List ℕ → Type 0
  ReadBut left rows = (i : ℕ) → i < n → bit i left ≡ 0 → f (get_or rows i 0) ≡ 2 ^ i

  read_none : (mark : ℕ) → Fixes n mark f → ReadBut mark (units n)
  read_none mark fx i h z = ap f (get_d_units n i h ∙ sym (unit_outside i mark z)) ∙ fx (2 ^ i) (pow-lt h) ∙ unit_outside i mark z

  read_more : (left : ℕ) (rows : List ℕ) (p : Pair) (j : ℕ) → j < length rows → p.left ≡ 2 ^ j → TiedPair f p → ReadBut left rows
      → ReadBut (outside left p.left) (set rows j p.right)
  read_more left rows p j hj e t r =
      by_place (λ i. i < n → bit i (outside left p.left) ≡ 0 → f (get_or (set rows j p.right) i 0) ≡ 2 ^ i) j
      (λ h z. ap f (get_or-set_same rows j p.right 0 hj) ∙ sym t ∙ e)
      (λ i ne h z.
      let d : bit i left - bit i p.left ≡ 0 = sym (bit-outside i left p.left) ∙ z in
      let o : bit i p.left ≡ 0 = ap (bit i) e ∙ bit-pow-other i j ne in
      ap f (get_or-set_other rows j i p.right 0 ne) ∙ r i h (omega arith))

  -- rows of which f makes units, if any are told
  abbrev pub RowsRead : Guess → Type 0
  RowsRead (Rows rows) = (length rows ≡ n) × ((i : ℕ) → i < n → f (get_or rows i 0) ≡ 2 ^ i)
  RowsRead Singular = ⊥
  RowsRead Unknown = Unit {0}

  read-from : (ws : List Pair) (rows : List ℕ) (left : ℕ) → length rows ≡ n → Tied f ws → ReadBut left rows → RowsRead (read_from n ws rows left)
  unfolding read_from
  read-from [] rows left hl t r =
      by_test RowsRead (eqb left 0) (λ z. (hl, λ i h. r i h (ap (bit i) (eqb-true left 0 z) ∙ bit_zero i))) (λ z. tt)
  read-from (p ∷ ws) rows left hl t r =
      go (only_bit n p.left) (only_unit n p.left) (λ j h e.
      read-from ws (set rows j p.right) (outside left p.left) (length-set rows j p.right ∙ hl) (All-tail (TiedPair f) p ws t)
      (read_more left rows p j (omega arith) e (All-head (TiedPair f) p ws t) r))
    where
      go : (o : Option ℕ) → Unit-at n p.left o → ((j : ℕ) → j < n → p.left ≡ 2 ^ j → RowsRead (read_from n ws (set rows j p.right) (outside left p.left)))
          → RowsRead (told o (λ j. read_from n ws (set rows j p.right) (outside left p.left)))
      go None u k = tt
      go (Some j) u k = k j u.0 u.1

  pub rows_read : (mark : ℕ) (ws : List Pair) → Tied f ws → Fixes n mark f → RowsRead (read_rows n mark ws)
  unfolding read_rows
  rows_read mark ws t fx = read-from ws (units n) mark (length-units n) t (read_none mark fx)

-- rows read off products are a guess
pub read_guessed : (n mark : ℕ) (cs : List ℕ) (ws : List Pair) → length cs ≡ n → mark < 2 ^ n → OwnOutside n mark cs → Tied (product cs) ws → Guessed n cs (read_rows n mark ws)
read_guessed n mark cs ws hl hm own t = go (read_rows n mark ws) (rows_read n (product cs) mark ws t (own_fixes n mark cs hl hm own))
  where
    go : (g : Guess) → RowsRead n (product cs) g → Guessed n cs g
    go (Rows rows) r = r
    go Singular r = absurd r
    go Unknown r = tt

-- ---- a dependence

-- where f ties the pairs, f of it is 0, and it is not
dependence-zero : (f : ℕ → ℕ) (ws : List Pair) → Tied f ws → MatchOption (dependence ws) (Unit {0}) (λ y. (y ≡ 0 → ⊥) × (f y ≡ 0))
dependence-zero f [] t = tt
dependence-zero f (p ∷ ws) t =
    by_test (λ (o : Option Pair). MatchOption (option_map (λ p. p.right) o) (Unit {0}) (λ y. (y ≡ 0 → ⊥) × (f y ≡ 0))) (depends p)
    (λ d. ((λ z. true≢false (sym (and_two _ _ d) ∙ ap not (eq-eqb p.right 0 z))), sym (All-head (TiedPair f) p ws t) ∙ eqb-true p.left 0 (and_one _ _ d)))
    (λ d. dependence-zero f ws (All-tail (TiedPair f) p ws t))

pub dependence_zero : (f : ℕ → ℕ) (ws : List Pair) (y : ℕ) → Some y ≡ dependence ws → Tied f ws → (y ≡ 0 → ⊥) × (f y ≡ 0)
dependence_zero f ws y e t = subst (λ (o : Option ℕ). MatchOption o (Unit {0}) (λ y. (y ≡ 0 → ⊥) × (f y ≡ 0))) (sym e) (dependence-zero f ws t)
