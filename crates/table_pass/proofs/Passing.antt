-- The words that leave level 1 go on: the loops over them. At every number n of rows and r of solution words, and for every mix S.
-- Assumes nothing.
use Prim.Native.Nat.{ℕ, suc, ◌+◌, ◌≤◌, ◌<◌}
use native.Mathlib.Numerals.{add-one}
use native.Mathlib.Omega.{arith}
use mathlib.Core.Path.{◌≡◌, refl, sym, ap, ap₂, ◌∙◌, subst, subst₂}
use mathlib.Core.Bool.{Bool, true, false, true≢false}
use mathlib.Core.List.{List, [], ◌∷◌, map}
use lib.ListN.{length, get_or, drop, drop_of_length-le, length-map, length-set}
use lib.Seq.{drop-cons}
use borrow.Author.Tests.{le-leb, lt-leb, leb-false}
use Rattle.lists.specs.Entries.{Entry, words}
use Rattle.lists.proofs.Parts.{drop-map}
use Rattle.lists.proofs.Tests.{cond_true}
use Rattle.bucket.specs.declared.Bucket.{Bucket}
use Rattle.bucket_words.specs.Words.{bucket_words, bucket_from}
use Rattle.model.specs.Model.{base_limit}
use Rattle.table.specs.Table.{Table, with_second, with_base, index, on_second, put, bucket_of}
use Rattle.table.specs.Layout.{buckets1_at, buckets2_at, in_range, numbers_of, bucket_place, table_from}
use Rattle.table.proofs.Numbers.{header_read}
use Rattle.table_arrive.specs.Arrival.{stored_at, to_second, Passed, Kept, FlatKept}
use Rattle.table_layout.proofs.Shape.{second_in, second-here, second_stored}
use Rattle.table_arrive.proofs.Tables.{flat, second-sound, second-kept, numbers_table, numbers_kept}
use Rattle.table_pass.specs.Passing.{seconds, all_to_second, take_over, Drafted, SameSize}
use Rattle.table_pass.proofs.Arrivals.{all_law, base_grows, second-length, taken-all}

module _ (S : ℕ → ℕ) (es : List Entry) where
  -- the words as level 2 sees them
  module _ (i : ℕ) (d : Entry) (h : i < length es) {x : Entry} (a : x ≡ get_or es i d) (v : ℕ) (q : v ≡ S (S x.word)) where
    abbrev here : Entry
    here = record { word = v; plan = x.plan }

    pub seconds-next : drop i (seconds S es) ≡ here ∷ drop (suc i) (seconds S es)
    seconds-next =
        drop-map (on_second S) i es ∙ ap (map (on_second S)) (drop-cons es i d h)
        ∙ ap (λ (y : Entry). on_second S y ∷ map (on_second S) (drop (suc i) es)) (sym a)
        ∙ ap₂ {C = List Entry} (λ w l. record { word = w; plan = x.plan } ∷ l) (sym q) (sym (drop-map (on_second S) (suc i) es))

    pub words-next : drop i (words (seconds S es)) ≡ v ∷ drop (suc i) (words (seconds S es))
    words-next =
        drop-map (λ (e : Entry). e.word) i (seconds S es) ∙ ap words seconds-next ∙ ap {B = List ℕ} (λ l. v ∷ l) (sym (drop-map (λ (e : Entry). e.word) (suc i) (seconds S es)))

  pub seconds-length : length (seconds S es) ≡ length es
  seconds-length = length-map es (on_second S)

  pub words-length : length (words (seconds S es)) ≡ length es
  words-length = length-map (seconds S es) (λ e. e.word) ∙ seconds-length

module _ (n r : ℕ) (S : ℕ → ℕ) where
  -- ---- the words arrive, where t is the table after i of them

  pub record Carrying (T : Table) (es : List Entry) (t : List ℕ) (i : ℕ) : Type 0 where
    pub kept : FlatKept n r t
    pub same : all_to_second n r S (table_from n r t) (drop i es) ≡ all_to_second n r S T es

  module _ (T : Table) (es : List Entry) (t : List ℕ) (i : ℕ) (h : Carrying T es t i) where
    abbrev X : Table
    X = table_from n r t

    abbrev D : Table
    D = all_to_second n r S T es

    module _ (e : Entry) (d : drop i es ≡ e ∷ drop (suc i) es) (done : Bool) (u : List ℕ) (p : Passed n r t (to_second n r S X e) done u) where
      ahead : all_to_second n r S (to_second n r S X e) (drop (suc i) es) ≡ D
      ahead = ap (all_to_second n r S X) (sym d) ∙ h.same

      pub carrying_next : done ≡ true → Carrying T es u (i + 1)
      carrying_next y =
          let q : u ≡ numbers_of (to_second n r S X e) = p.table ∙ cond_true _ t y in
          record {
            kept = numbers_kept n r _ (p.kept y) u q;
            same = ap₂ (λ (U : Table) (j : ℕ). all_to_second n r S U (drop j es)) (numbers_table n r _ (p.kept y) u q) (add-one i) ∙ ahead;
          }

      pub carrying_stops : done ≡ false → Drafted n r D false u
      carrying_stops y =
          let l = leb-false (length (to_second n r S X e).base) base_limit (sym p.says ∙ y) in
          record {
            says = sym (lt-leb (length D.base) base_limit (omega (arith, base_grows n r S (to_second n r S X e) (drop (suc i) es), ap (λ (U : Table). length U.base) ahead)));
            kept = λ z. absurd (true≢false (sym z));
            table = λ z. absurd (true≢false (sym z));
          }

    pub carrying_ends : length es ≤ i → Drafted n r D true t
    carrying_ends l =
        let e : X ≡ D = ap (all_to_second n r S X) (sym (drop_of_length-le es l)) ∙ h.same in
        let k : Kept n r D = subst (Kept n r) e h.kept.table in
        record { says = sym (le-leb (length D.base) base_limit k.short); kept = λ _. k; table = λ _. sym h.kept.numbers ∙ ap numbers_of e }

-- ---- the buckets are taken over from the draft d, where t is the table after i of them

-- as many buckets in the tables, as many in their numbers
same-sized : (n r : ℕ) (t d : List ℕ) → FlatKept n r t → FlatKept n r d → length (table_from n r t).level1 ≡ length (table_from n r d).level1 → length (table_from n r t).level2 ≡ length (table_from n r d).level2 → SameSize n r t d
same-sized n r t d h k p q =
    let a = header_read n r t in
    let b = header_read n r d in
    record { one = h; other = k; buckets1 = sym a.0 ∙ p ∙ b.0; buckets2 = sym a.1 ∙ q ∙ b.1 }

module _ (n r : ℕ) (S : ℕ → ℕ) where
  pub record Taking (d : List ℕ) (T : Table) (vs t : List ℕ) (i : ℕ) : Type 0 where
    pub same_size : SameSize n r t d
    pub same : take_over n r S (table_from n r d) (drop i vs) (table_from n r t) ≡ take_over n r S (table_from n r d) vs T

  module _ (d : List ℕ) (T : Table) (vs t : List ℕ) (i : ℕ) (h : Taking d T vs t i) where
    abbrev A : Table
    A = table_from n r t

    abbrev E : Table
    E = table_from n r d

    module _ (v : ℕ) (p : ℕ) (e : p ≡ bucket_place n r (get_or d buckets1_at 0 + index S (get_or d buckets2_at 0) v)) where
      there : p ≡ bucket_place n r (get_or t buckets1_at 0 + index S (get_or t buckets2_at 0) v)
      there = e ∙ sym (ap₂ (λ (a m : ℕ). bucket_place n r (a + index S m v)) h.same_size.buckets1 h.same_size.buckets2)

      pub taking_room : p + bucket_words n r ≤ length t
      taking_room = second_in n r t (flat n r t h.same_size.one).shape S v p there

      module _ (b : Bucket) (u : List ℕ) (q : b ≡ bucket_from n r (drop p d)) (w : u ≡ stored_at n r p b t) where
        abbrev Y : Table
        Y = with_second A (put S A.level2 v (bucket_of n r S E.level2 v))

        kept : Kept n r Y
        kept = second-kept n r A h.same_size.one.table _ _ (second-sound n r d h.same_size.other S v)

        is : u ≡ numbers_of Y
        is =
            w ∙ second_stored n r t (flat n r t h.same_size.one) S v p there b
            ∙ ap (λ (c : Bucket). numbers_of (with_second A (put S A.level2 v c))) (q ∙ second-here n r d (flat n r d h.same_size.other).shape S v p e)

        table : table_from n r u ≡ Y
        table = numbers_table n r Y kept u is

        pub taking-next : drop i vs ≡ v ∷ drop (suc i) vs → Taking d T vs u (i + 1)
        taking-next c = record {
          same_size = record {
            one = numbers_kept n r Y kept u is;
            other = h.same_size.other;
            buckets1 = sym (header_read n r u).0 ∙ ap (λ (Z : Table). length Z.level1) table ∙ (header_read n r t).0 ∙ h.same_size.buckets1;
            buckets2 = sym (header_read n r u).1 ∙ ap (λ (Z : Table). length Z.level2) table ∙ length-set A.level2 _ _ ∙ (header_read n r t).1 ∙ h.same_size.buckets2;
          };
          same = ap₂ (λ (Z : Table) (j : ℕ). take_over n r S E (drop j vs) Z) table (add-one i) ∙ ap (λ (l : List ℕ). take_over n r S E l A) (sym c) ∙ h.same;
        }

    pub taking-ends : length vs ≤ i → t ≡ numbers_of (take_over n r S E vs T)
    taking-ends l = sym h.same_size.one.numbers ∙ ap numbers_of (ap (λ (ws : List ℕ). take_over n r S E ws A) (sym (drop_of_length-le vs l)) ∙ h.same)

-- ---- then the table is as the draft

module _ (n r : ℕ) (S : ℕ → ℕ) (t : List ℕ) (h : FlatKept n r t) (es : List Entry) (d : List ℕ) (c : Drafted n r (all_to_second n r S (table_from n r t) es) true d) where
  abbrev T₀ : Table
  T₀ = table_from n r t

  abbrev U : Table
  U = all_to_second n r S T₀ es

  kept-U : Kept n r U
  kept-U = c.kept refl

  table_d : table_from n r d ≡ U
  table_d = numbers_table n r U kept-U d (c.table refl)

  -- only level 2 and the base list are others
  U-is : with_base (with_second T₀ U.level2) U.base ≡ U
  U-is = let e = all_law n r S T₀ es in ap (λ (X : Table). with_base (with_second T₀ X.level2) X.base) e ∙ sym e

  pub draft_same_size : SameSize n r t d
  draft_same_size =
      same-sized n r t d h (numbers_kept n r U kept-U d (c.table refl)) (ap (λ (X : Table). length X.level1) (U-is ∙ sym table_d))
      (sym (second-length n r S T₀ es) ∙ ap (λ (X : Table). length X.level2) (sym table_d))

  module _ (t1 : List ℕ) (q : t1 ≡ numbers_of (take_over n r S (table_from n r d) (words es) T₀)) where
    abbrev T1 : Table
    T1 = with_second T₀ U.level2

    t1_is : t1 ≡ numbers_of T1
    t1_is = q ∙ ap (λ (X : Table). numbers_of (take_over n r S X (words es) T₀)) table_d ∙ ap numbers_of (taken-all n r S T₀ es)

    kept1 : Kept n r T1
    kept1 = record {
      range = ap (in_range (length T₀.level1)) (second-length n r S T₀ es) ∙ h.table.range;
      first = h.table.first;
      second = kept-U.second;
      short = h.table.short;
      totalled = h.table.totalled;
    }

    table1 : table_from n r t1 ≡ T1
    table1 = numbers_table n r T1 kept1 t1 t1_is

    pub drafted_same_size : SameSize n r t1 d
    drafted_same_size =
        same-sized n r t1 d (numbers_kept n r T1 kept1 t1 t1_is) draft_same_size.other (ap (λ (X : Table). length X.level1) table1 ∙ ap (λ (X : Table). length X.level1) (U-is ∙ sym table_d))
        (ap (λ (X : Table). length X.level2) table1 ∙ ap (λ (X : Table). length X.level2) (sym table_d))

    pub drafted : (t2 : List ℕ) → t2 ≡ numbers_of (with_base (table_from n r t1) (table_from n r d).base) → Passed n r t U true t2
    drafted t2 w = record {
      says = c.says;
      kept = c.kept;
      table = w ∙ ap₂ (λ (X Y : Table). numbers_of (with_base X Y.base)) table1 table_d ∙ ap numbers_of U-is;
    }

-- the draft starts as the table
pub from_draft : (n r : ℕ) (S : ℕ → ℕ) (es : List Entry) (t d₀ d : List ℕ) (done b : Bool) → Drafted n r (all_to_second n r S (table_from n r d₀) es) done d → done ≡ b
    → d₀ ≡ t → Drafted n r (all_to_second n r S (table_from n r t) es) b d
from_draft n r S es t d₀ d done b c y q = subst₂ (λ (l : List ℕ) (x : Bool). Drafted n r (all_to_second n r S (table_from n r l) es) x d) q y c

pub not_drafted : (n r : ℕ) (t : List ℕ) (U : Table) (d : List ℕ) → Drafted n r U false d → Passed n r t U false t
not_drafted n r t U d c = record { says = c.says; kept = c.kept; table = refl }

-- ---- no word, or one

module _ (n r : ℕ) (S : ℕ → ℕ) (t : List ℕ) (h : FlatKept n r t) where
  abbrev all : List Entry → Table
  all = all_to_second n r S (table_from n r t)

  pub pass_none : (es : List Entry) → length es ≡ 0 → Passed n r t (all (seconds S es)) true t
  pass_none [] z = record { says = sym (le-leb _ base_limit h.table.short); kept = λ _. h.table; table = sym h.numbers }
  pass_none (e ∷ es) z = absurd (omega (arith, z))

  pub pass_one : (es : List Entry) (d : Entry) {x : Entry} → x ≡ get_or es 0 d → (v : ℕ) (done : Bool) (u : List ℕ) → length es ≡ 1 → v ≡ S (S x.word)
      → Passed n r t (to_second n r S (table_from n r t) (record { word = v; plan = x.plan })) done u → Passed n r t (all (seconds S es)) done u
  pass_one [] d a v done u z q p = absurd (omega (arith, z))
  pass_one (e ∷ []) d {x = x} a v done u z q p =
      subst₂ (λ (w : ℕ) (y : Entry). Passed n r t (to_second n r S (table_from n r t) (record { word = w; plan = y.plan })) done u) (q ∙ ap (λ (y : Entry). S (S y.word)) a) a p
  pass_one (e ∷ f ∷ es) d a v done u z q p = absurd (omega (arith, z))
