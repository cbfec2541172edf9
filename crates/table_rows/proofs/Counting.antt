-- What is left of the totals, and what the loops over the rows of a bucket and the buckets of a level ask for: one of them, then the rest,
-- at every number n of rows and r of solution words.
-- Assumes nothing.
use Prim.Native.Nat.{ℕ, suc, ◌+◌, ◌-◌, ◌^◌, ◌<◌}
use native.Mathlib.Numerals.{add-one}
use native.Mathlib.Omega.{arith}
use mathlib.Core.Path.{◌≡◌, refl, sym, ap, ap₂, ◌∙◌, subst, subst⁻¹}
use mathlib.Core.Bool.{Bool, true, false, cond, ◌&&◌}
use mathlib.Core.List.{List, ◌∷◌}
use lib.Bits.{bit_and}
use lib.Count.{count_trailing_zeros, count_leading_zeros, leading_length}
use lib.Dec.{ltb, leb}
use lib.ListN.{length, get_or, drop}
use lib.Seq.{drop-drop, drop-cons}
use Rattle.lists.specs.Entries.{Entry}
use Rattle.lists.specs.Totals.{one_less}
use Rattle.gf2.specs.Select.{chosen}
use Rattle.gf2.proofs.Bit.{bit-set_lt}
use Rattle.gf2.proofs.Lowest.{tz_bit, tz_lt}
use Rattle.gf2.proofs.Chosen.{chosen_none, chosen-low}
use Rattle.std.specs.Prelude.{Option}
use Rattle.std.specs.Option.{is_some, unwrap_or}
use Rattle.bucket_rows.specs.Elimination.{sound_rows}
use Rattle.bucket.specs.declared.Bucket.{Bucket}
use Rattle.bucket.specs.Bucket.{largest_bound, lookup}
use Rattle.bucket_words.specs.Words.{bucket_words, bucket_from}
use Rattle.bucket_settle.specs.Settle.{listed}
use Rattle.table.specs.Layout.{level_from}
use Rattle.table.specs.Test.{all_of, clear_test}
use Rattle.table_rows.specs.Several.{products}
use Rattle.table_rows.specs.Counting.{Counted, ended, stopped, gate, next, one_off, count_off, bucket_off, level_off, Leaves}
use Rattle.table_rows.proofs.Several.{products_at}

-- a loop of tests: one of them, q, then the others: x is what the loop has left to test, b what was to be tested
pub go_on : {x q b c : Bool} (a : Bool) → x ≡ (q && a) → q ≡ c → x ≡ b → (c && a) ≡ b
go_on a e h i = sym (e ∙ ap (λ (c : Bool). c && a) h) ∙ i

-- ---- numbers that all pass a test

module _ (xs : List ℕ) where
  pub all-next : (p : ℕ → Bool) (at : ℕ) → at < length xs → all_of p (drop at xs) ≡ (p (get_or xs at 0) && all_of p (drop (at + 1) xs))
  all-next p at h = rw (add-one, drop-cons xs at 0 h)

-- ---- what is left, and what the code says

-- a test that holds, or that does not
pub gate-on : {b : Bool} (ts : List ℕ) {o u : Counted} → b ≡ true → o ≡ u → gate b ts o ≡ u
gate-on ts h e = ap₂ (λ (x : Bool) (o : Counted). gate x ts o) h e

pub gate_off : {b : Bool} (ts : List ℕ) (o : Counted) → b ≡ false → gate b ts o ≡ stopped ts
gate_off ts o h = ap (λ (x : Bool). gate x ts o) h

pub left_ended : {o : Counted} {ts : List ℕ} → o ≡ ended ts → Leaves o true ts
left_ended {o} {ts} e = subst⁻¹ (λ (x : Counted). Leaves x true ts) e (refl, refl)

pub left-stopped : {o : Counted} (ts : List ℕ) → o ≡ stopped ts → Leaves o false ts
left-stopped {o} ts e = subst⁻¹ (λ (x : Counted). Leaves x false ts) e (refl, refl)

pub left_as : {o u : Counted} (d : Bool) (ts : List ℕ) → o ≡ u → Leaves u d ts → Leaves o d ts
left_as d ts e l = subst⁻¹ (λ (x : Counted). Leaves x d ts) e l

pub left_is : (o : Counted) {d x : Bool} {ts : List ℕ} → Leaves o d ts → d ≡ x → o ≡ record { done = x; left = ts }
left_is o l h = ap₂ {C = Counted} (λ u v. record { done = u; left = v }) (sym l.0 ∙ h) (sym l.1)

-- a loop: x is what it has left to do, o the first of it, b all that it was to do
pub count_on : {x b : Counted} (o : Counted) (f : List ℕ → Counted) {d : Bool} {ts : List ℕ} → x ≡ next o f → x ≡ b → Leaves o d ts → d ≡ true → f ts ≡ b
count_on o f e i l h = sym (ap (λ (y : Counted). next y f) (left_is o l h)) ∙ sym e ∙ i

pub count_out : {x b : Counted} (o : Counted) (f : List ℕ → Counted) {d : Bool} (ts : List ℕ) → x ≡ next o f → x ≡ b → Leaves o d ts → d ≡ false → Leaves b false ts
count_out o f ts e i l h = left-stopped ts (sym i ∙ e ∙ ap (λ (y : Counted). next y f) (left_is o l h))

-- one entry: the test, then its total
module _ (p : Entry → Bool) (e : Entry) (ts : List ℕ) where
  pub off_failed : p e ≡ false → one_off p e ts ≡ stopped ts
  unfolding one_off
  off_failed h = gate_off ts _ h

  pub off_one : p e ≡ true → ltb 0 (get_or ts e.plan 0) ≡ true → one_off p e ts ≡ ended (one_less e.plan ts)
  unfolding one_off
  off_one h l = gate-on ts h (gate-on ts l refl)

  pub off_zero : p e ≡ true → ltb 0 (get_or ts e.plan 0) ≡ false → one_off p e ts ≡ stopped ts
  unfolding one_off
  off_zero h l = gate-on ts h (gate_off ts _ l)

  pub off_counted : p e ≡ true → (d : Bool) (us : List ℕ) → d ≡ ltb 0 (get_or ts e.plan 0) → us ≡ cond d (one_less e.plan ts) ts → Leaves (one_off p e ts) d us
  unfolding one_off
  off_counted h d us q w = subst⁻¹ (λ (o : Counted). Leaves o d us) (gate-on ts h (ap (λ (x : Bool). gate x ts (ended (one_less e.plan ts))) (sym q))) (go d w)
    where
      go : (x : Bool) → us ≡ cond x (one_less e.plan ts) ts → Leaves (gate x ts (ended (one_less e.plan ts))) x us
      go true w = (refl, w)
      go false w = (refl, w)

-- a bucket, whose rows were found or not
module _ (n : ℕ) (row : Entry → Bool) (b : Bucket) (ts : List ℕ) where
  pub bucket-over : leb b.bound largest_bound ≡ false → bucket_off n row b ts ≡ stopped ts
  unfolding bucket_off
  bucket-over l = gate_off ts _ l

  pub bucket_unclear : leb b.bound largest_bound ≡ true → clear_test b ≡ false → bucket_off n row b ts ≡ stopped ts
  unfolding bucket_off
  bucket_unclear l c = gate-on ts l (gate_off ts _ c)

  pub bucket-found : leb b.bound largest_bound ≡ true → clear_test b ≡ true → (found : Option (List ℕ)) → found ≡ sound_rows n b.mark b.cols
      → bucket_off n row b ts ≡ gate (is_some found) ts (count_off row (listed b (chosen b.mark (unwrap_or found b.cols))) ts)
  unfolding bucket_off
  bucket-found l c found e =
      gate-on ts l (gate-on ts c (ap (λ (r : Option (List ℕ)). gate (is_some r) ts (count_off row (listed b (chosen b.mark (unwrap_or r b.cols))) ts)) (sym e)))

-- ---- the rows that a mark names

-- a mark is below the power of two of its length in binary
pub below_length : (n d : ℕ) → d < 2 ^ n → d < 2 ^ (n - count_leading_zeros n d)
below_length n d h =
    let m = leading_length n d h in
    let e : m.0 ≡ n - count_leading_zeros n d = omega (arith, m.1) in
    subst (λ (k : ℕ). d < 2 ^ k) e m.2

-- the plan of the row of the lowest bit of d, of the plans of the first m rows, where d names none but these
pub plan-at : (b : Bucket) (n m d : ℕ) (rs : List ℕ) → length rs ≡ n → d < 2 ^ n → d < 2 ^ m → (d ≡ 0 → ⊥)
    → let a : ℕ = count_trailing_zeros n d in get_or (products m b.sols rs) a 0 ≡ lookup b (get_or rs a 0)
plan-at b n m d rs h hd hm ne =
    let l = tz_lt n d hd ne in
    products_at m (count_trailing_zeros n d) b.sols rs (bit-set_lt m (count_trailing_zeros n d) d hm (tz_bit n d l)) (omega arith)

module _ (b : Bucket) (p : Entry → Bool) where
  -- the row of the lowest bit, then the others
  module _ (n d : ℕ) (rs ts : List ℕ) (h : length rs ≡ n) (hd : d < 2 ^ n) (ne : d ≡ 0 → ⊥) {x : Counted} (all : count_off p (listed b (chosen d rs)) ts ≡ x) where
    abbrev low : Entry
    low = let v : ℕ = get_or rs (count_trailing_zeros n d) 0 in record { word = v; plan = lookup b v }

    abbrev others : List ℕ → Counted
    others = count_off p (listed b (chosen (bit_and d (d - 1)) rs))

    rows_next : count_off p (listed b (chosen d rs)) ts ≡ next (one_off p low ts) others
    rows_next = ap (λ (l : List ℕ). count_off p (listed b l) ts) (chosen-low n d rs h hd ne)

    pub rows_on : {done : Bool} (us : List ℕ) → Leaves (one_off p low ts) done us → done ≡ true → others us ≡ x
    rows_on us = count_on (one_off p low ts) others rows_next all

    pub rows_out : {done : Bool} (us : List ℕ) → Leaves (one_off p low ts) done us → done ≡ false → Leaves x false us
    rows_out us = count_out (one_off p low ts) others us rows_next all

  pub rows_end : (rs ts : List ℕ) → count_off p (listed b (chosen 0 rs)) ts ≡ ended ts
  rows_end rs ts = ap (λ (l : List ℕ). count_off p (listed b l) ts) (chosen_none rs)

-- ---- the buckets of a level, from number i of m on

module _ (n r : ℕ) (xs : List ℕ) where
  pub level_next : (at m i : ℕ) → i < m → level_from n r (m - i) (drop at xs) ≡ bucket_from n r (drop at xs) ∷ level_from n r (m - (i + 1)) (drop (at + bucket_words n r) xs)
  level_next at m i h =
      let e : m - i ≡ suc (m - (i + 1)) = omega arith in
      ap (λ (k : ℕ). level_from n r k (drop at xs)) e
      ∙ ap (λ (l : List ℕ). bucket_from n r (drop at xs) ∷ level_from n r (m - (i + 1)) l) (drop-drop (bucket_words n r) at xs)

  module _ (row : ℕ → Bucket → Entry → Bool) (at m i : ℕ) (ts : List ℕ) (h : i < m) {x : Counted} (all : level_off n row i (level_from n r (m - i) (drop at xs)) ts ≡ x) where
    abbrev here : Counted
    here = bucket_off n (row i (bucket_from n r (drop at xs))) (bucket_from n r (drop at xs)) ts

    abbrev past : List ℕ → Counted
    past = level_off n row (i + 1) (level_from n r (m - (i + 1)) (drop (at + bucket_words n r) xs))

    off_next : level_off n row i (level_from n r (m - i) (drop at xs)) ts ≡ next here past
    off_next = rw (level_next at m i h, add-one i)

    pub level_on : {done : Bool} (us : List ℕ) → Leaves here done us → done ≡ true → past us ≡ x
    level_on us = count_on here past off_next all

    pub level_out : {done : Bool} (us : List ℕ) → Leaves here done us → done ≡ false → Leaves x false us
    level_out us = count_out here past us off_next all
