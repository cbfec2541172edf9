-- What the loops over the records of a plane ask for: a record that fits, one that does not, and none left.
-- Assumes nothing.
use mathlib.Core.Path.{◌≡◌, refl, sym, ap, ◌∙◌}
use mathlib.Core.Bool.{Bool, true, false, cond, ◌&&◌, and_assoc, and_comm}
use mathlib.Core.List.{List}
use Prim.Native.Nat.{ℕ, zero, suc, ◌+◌, ◌-◌, ◌*◌, ◌≤◌, ◌<◌}
use native.Mathlib.Nat.{suc-mul, zero-mul}
use native.Mathlib.Numerals.{add-one, sub-one}
use native.Mathlib.Omega.{arith}
use borrow.Author.Tests.{leb-true, eqb-true, le-leb, lt-leb, eq-eqb, ne_eqb}
use lib.Dec.{leb, eqb}
use lib.ListN.{length, get_or, drop, length-drop}
use lib.Seq.{drop-drop}
use Rattle.std.specs.Prelude.{Result, Ok, Err}
use Rattle.std.specs.Result.{result_and}
use Rattle.lists.specs.Entries.{assignable}
use Rattle.lists.proofs.Tests.{true→T, cases}
use Rattle.model.specs.Model.{base_limit}
use Rattle.table.specs.Layout.{in_range, most_buckets1, most_buckets2}
use Rattle.plane.specs.Record.{Format, Kind, size_of, bucket_records, entry_records, header_kind, header_body, entry_kind, entry_body, entry_from, bucket_length, entry_length, end_length}
use Rattle.plane.specs.Plane.{fits, wrong_in, bound_allowed, entry_allowed, exceeding, buckets1, buckets2, bucket_count, base_count, whole, header_fits, bucket_fits, buckets_wrong, entry_fits, entries_wrong, end_fits, end_wrong, records_wrong, wrong_at, buckets_at, entries_at, end_at, plane_length}

-- two tests that hold
pub both : (a b : Bool) → (a && b) ≡ true → (a ≡ true) × (b ≡ true)
both true b e = (refl, e)
both false b e = absurd (true→T e)

pub at_nowhere : {at : ℕ} → ◌≡◌ {A = Result (Unit {0}) ℕ} (Err at) (Ok tt) → ⊥
at_nowhere e = cc

-- a record that is right, and nothing wrong after it
pub right : (b : Bool) (x : Result (Unit {0}) ℕ) (at : ℕ) → cond b x (Err at) ≡ Ok tt → (b ≡ true) × (x ≡ Ok tt)
right true x at e = (refl, e)
right false x at e = absurd (at_nowhere e)

-- what `if !t` says of a test t that is b
pub refused : (t : Bool) {b : Bool} → t ≡ b → t ≡ false → b ≡ false
refused t e h = sym e ∙ h

pub passed : (t : Bool) {b : Bool} → t ≡ b → t ≡ true → b ≡ true
passed t e h = sym e ∙ h

pub whole_cut : (kind body : ℕ) (p : List ℕ) → length p ≤ body → whole kind body p ≡ false
whole_cut kind body p h = rw (lt-leb (1 + body) (length p) (omega arith))

pub whole_kind : (kind body : ℕ) (p : List ℕ) → body < length p → whole kind body p ≡ eqb (get_or p 0 0) kind
whole_kind kind body p h = rw (le-leb (1 + body) (length p) (omega arith))

-- a record that is there is not cut
pub whole_length : (kind body : ℕ) (p : List ℕ) → whole kind body p ≡ true → body < length p
whole_length kind body p e = omega (arith, leb-true (1 + body) (length p) (both (leb (1 + body) (length p)) _ e).0)

-- so the next one starts within the bytes
pub whole-next : (kind body at : ℕ) (p : List ℕ) → whole kind body (drop at p) ≡ true → at + (1 + body) ≤ length p
whole-next kind body at p e =
    let h : body < length p - at = rw length-drop at (whole_length kind body (drop at p) e) in
    omega arith

-- ---- m records of one kind

module _ {A S : Type 0} (k : Kind A) (allowed : S → A → Bool) (next : S → A → S) where
  abbrev wrong : S → ℕ → ℕ → List ℕ → Result (Unit {0}) ℕ
  wrong = wrong_in k allowed next

  -- one that fits
  pub scan_step : (s : S) (left at : ℕ) (p : List ℕ) → 0 < left → fits k allowed s (drop at p) ≡ true
      → wrong s left at (drop at p) ≡ wrong (next s (k.read (drop at p))) (left - 1) (at + size_of k) (drop (at + size_of k) p)
  scan_step s zero at p h e = absurd (omega arith)
  scan_step s (suc m) at p h e = rw (e, drop-drop, sub-one)

  -- the same of record i of m, the first at the offset `first`
  pub scan_turn : (s : S) (m i first : ℕ) (p : List ℕ) → i < m → fits k allowed s (drop (first + i * size_of k) p) ≡ true
      → wrong s (m - i) (first + i * size_of k) (drop (first + i * size_of k) p)
      ≡ wrong (next s (k.read (drop (first + i * size_of k) p))) (m - (i + 1)) (first + (i + 1) * size_of k) (drop (first + (i + 1) * size_of k) p)
  scan_turn s m i first p h e =
      let n : m - i - 1 ≡ m - (i + 1) = omega arith in
      let o : first + i * size_of k + size_of k ≡ first + (i + 1) * size_of k = rw (add-one, suc-mul) (omega arith) in
      rw (← n, ← o) (scan_step s (m - i) (first + i * size_of k) p (omega arith) e)

  -- one that does not
  pub scan-here : (s : S) (left at : ℕ) (p : List ℕ) → 0 < left → fits k allowed s p ≡ false → wrong s left at p ≡ Err at
  scan-here s zero at p h e = absurd (omega arith)
  scan-here s (suc m) at p h e = rw e

  -- one that fits, and nothing wrong after it
  pub scan-next : (s : S) (m at : ℕ) (p : List ℕ) → fits k allowed s p ≡ true → wrong (next s (k.read p)) m (at + size_of k) (drop (size_of k) p) ≡ Ok tt
      → wrong s (suc m) at p ≡ Ok tt
  scan-next s m at p e f = rw (e, f)

  -- m that fit are there
  pub scan_room : (s : S) (m at : ℕ) (p : List ℕ) → wrong s m at p ≡ Ok tt → m * size_of k ≤ length p
  scan_room s zero at p e = rw (zero-mul (size_of k)) (omega arith)
  scan_room s (suc m) at p e =
      let f = right (fits k allowed s p) (wrong (next s (k.read p)) m (at + size_of k) (drop (size_of k) p)) at e in
      let n : k.body < length p = whole_length k.number k.body p (both (whole k.number k.body p) _ f.0).0 in
      let i : m * size_of k ≤ length p - size_of k = rw length-drop at (scan_room (next s (k.read p)) m (at + size_of k) (drop (size_of k) p) f.1) in
      rw (suc-mul m (size_of k)) (omega arith)

module _ (F : Format) where
  pub buckets_turn : (m i first : ℕ) (p : List ℕ) → i < m → bucket_fits F (drop (first + i * bucket_length F) p) ≡ true
      → buckets_wrong F (m - i) (first + i * bucket_length F) (drop (first + i * bucket_length F) p)
      ≡ buckets_wrong F (m - (i + 1)) (first + (i + 1) * bucket_length F) (drop (first + (i + 1) * bucket_length F) p)
  unfolding buckets_wrong
  buckets_turn = scan_turn (bucket_records F) bound_allowed (λ s b. s) tt

  pub buckets_here : (left at : ℕ) (p : List ℕ) → 0 < left → bucket_fits F p ≡ false → buckets_wrong F left at p ≡ Err at
  unfolding buckets_wrong
  buckets_here = scan-here (bucket_records F) bound_allowed (λ s b. s) tt

  pub buckets_room : (m at : ℕ) (p : List ℕ) → buckets_wrong F m at p ≡ Ok tt → m * bucket_length F ≤ length p
  unfolding buckets_wrong
  buckets_room = scan_room (bucket_records F) bound_allowed (λ s b. s) tt

-- what does not depend on the records before it: an entry's record of this kind, not cut, with a plan that a word may be given
abbrev pub assignable_entry : ℕ → List ℕ → Bool
assignable_entry kind p = whole kind entry_body p && assignable (entry_from p).plan

-- a record is tested by that, and by its word
pub entry_tests : (kind least : ℕ) (p : List ℕ) → (whole kind entry_body p && entry_allowed least (entry_from p)) ≡ (assignable_entry kind p && leb least (entry_from p).word)
entry_tests kind least p = rw (and_comm (leb least (entry_from p).word), ← and_assoc (whole kind entry_body p))

-- a base entry that is cut, of a wrong kind or with a plan not allowed, one whose word w is too small, and one that fits
pub entries_here : (least left at : ℕ) (p : List ℕ) → 0 < left → assignable_entry entry_kind p ≡ false → entries_wrong least left at p ≡ Err at
unfolding entries_wrong
entries_here least left at p h e = scan-here entry_records entry_allowed exceeding least left at p h (rw (entry_tests, e))

pub entries_low : (least left at w : ℕ) (p : List ℕ) → 0 < left → assignable_entry entry_kind p ≡ true → w ≡ (entry_from p).word → w < least
    → entries_wrong least left at p ≡ Err at
unfolding entries_wrong
entries_low least left at w p h e i l = scan-here entry_records entry_allowed exceeding least left at p h (rw (entry_tests, e, ← i, lt-leb least w l))

pub entries_turn : (least m i first w : ℕ) (p : List ℕ) → i < m → assignable_entry entry_kind (drop (first + i * entry_length) p) ≡ true
    → w ≡ (entry_from (drop (first + i * entry_length) p)).word → least ≤ w
    → entries_wrong least (m - i) (first + i * entry_length) (drop (first + i * entry_length) p)
    ≡ entries_wrong (suc w) (m - (i + 1)) (first + (i + 1) * entry_length) (drop (first + (i + 1) * entry_length) p)
unfolding entries_wrong
entries_turn least m i first w p h e j l = rw j (scan_turn entry_records entry_allowed exceeding least m i first p h (rw (entry_tests, e, ← j, le-leb least w l)))

pub entries_room : (least k at : ℕ) (p : List ℕ) → entries_wrong least k at p ≡ Ok tt → k * entry_length ≤ length p
unfolding entries_wrong
entries_room = scan_room entry_records entry_allowed exceeding

-- the j entries that are there, then one that is cut
pub entries_short : (least k j at : ℕ) (p : List ℕ) → j < k → length p < suc j * entry_length
    → entries_wrong least k at p ≡ result_and (entries_wrong least j at p) (Err (at + j * entry_length))
unfolding entries_wrong
entries_short least zero j at p h l = absurd (omega arith)
entries_short least (suc k) zero at p h l =
    entries_here least (suc k) at p (omega arith) (rw (whole_cut entry_kind entry_body p (omega arith))) ∙ ap Err {x = at} {y = at + 0 * entry_length} (omega arith)
entries_short least (suc k) (suc j) at p h l =
    let more : at + entry_length + j * entry_length ≡ at + suc j * entry_length = omega arith in
    cases (entry_fits least p)
    (λ e. rw (e, ← more) (entries_short (suc (entry_from p).word) k j (at + entry_length) (drop entry_length p) (omega arith) (rw length-drop (omega arith))))
    (λ e. rw e)

-- the end: not there, with bytes after it, and right
module _ (at : ℕ) (p : List ℕ) where
  pub end_cut : end_fits p ≡ false → end_wrong at p ≡ Err at
  end_cut e = rw e

  pub end_more : end_fits p ≡ true → (length p ≡ end_length → ⊥) → end_wrong at p ≡ Err (at + end_length)
  end_more e h = rw (e, ne_eqb (length p) end_length h)

  pub end_right : end_fits p ≡ true → length p ≡ end_length → end_wrong at p ≡ Ok tt
  end_right e h = rw (e, eq-eqb (length p) end_length h)

  pub end_parts : end_wrong at p ≡ Ok tt → (end_fits p ≡ true) × (length p ≡ end_length)
  end_parts e =
      let f = right (end_fits p) (cond (eqb (length p) end_length) (Ok tt) (Err (at + end_length))) at e in
      (f.0, eqb-true (length p) end_length (right (eqb (length p) end_length) (Ok tt) _ f.1).0)

-- what a header that fits says
pub record Header (p : List ℕ) : Type 0 where
  pub there : header_body < length p
  pub some1 : 1 ≤ buckets1 p
  pub most1 : buckets1 p ≤ most_buckets1
  pub some2 : 1 ≤ buckets2 p
  pub most2 : buckets2 p ≤ most_buckets2
  pub entries : base_count p ≤ base_limit

pub header : (F : Format) (p : List ℕ) → header_fits F p ≡ true → Header p
header F p e =
    let a = both (whole header_kind header_body p) _ e in
    let b = both (eqb (get_or p 1 0) F.number) _ a.1 in
    let c = both (in_range (buckets1 p) (buckets2 p)) _ b.1 in
    let d = both (leb 1 (buckets1 p) && leb (buckets1 p) most_buckets1) _ c.0 in
    let d1 = both (leb 1 (buckets1 p)) _ d.0 in
    let d2 = both (leb 1 (buckets2 p)) _ d.1 in
    record {
      there = whole_length header_kind header_body p a.0;
      some1 = leb-true 1 _ d1.0;
      most1 = leb-true _ most_buckets1 d1.1;
      some2 = leb-true 1 _ d2.0;
      most2 = leb-true _ most_buckets2 d2.1;
      entries = leb-true _ base_limit c.1;
    }

-- the first of two that is wrong is nowhere
pub next : (a o : Result (Unit {0}) ℕ) → result_and a o ≡ Ok tt → (a ≡ Ok tt) × (o ≡ Ok tt)
next (Ok u) o e = (refl, e)
next (Err at) o e = absurd (at_nowhere e)

-- where the entries and the end start by the header
abbrev pub entries_in : Format → List ℕ → ℕ
entries_in F p = entries_at F (bucket_count p)

abbrev pub end_in : Format → List ℕ → ℕ
end_in F p = end_at F (bucket_count p) (base_count p)

-- a plane that is wrong nowhere, part by part
module _ (F : Format) (p : List ℕ) where
  pub record Right : Type 0 where
    pub header : header_fits F p ≡ true
    pub buckets : buckets_wrong F (bucket_count p) buckets_at (drop buckets_at p) ≡ Ok tt
    pub entries : entries_wrong 0 (base_count p) (entries_in F p) (drop (entries_in F p) p) ≡ Ok tt
    pub end : end_fits (drop (end_in F p) p) ≡ true
    pub nothing : length (drop (end_in F p) p) ≡ end_length

  pub nowhere : Right → wrong_at F p ≡ Ok tt
  unfolding wrong_at
  nowhere h = rw (h.header, h.buckets, h.entries, h.end, h.nothing)

  pub parts : wrong_at F p ≡ Ok tt → Right
  unfolding wrong_at
  parts e =
      let h = right (header_fits F p) (records_wrong F (bucket_count p) (base_count p) p) 0 e in
      let n1 = next (buckets_wrong F (bucket_count p) buckets_at (drop buckets_at p)) _ h.1 in
      let n2 = next (entries_wrong 0 (base_count p) (entries_in F p) (drop (entries_in F p) p)) _ n1.1 in
      let f = end_parts (end_in F p) (drop (end_in F p) p) n2.1 in
      record {
        header = h.0;
        buckets = n1.0;
        entries = n2.0;
        end = f.0;
        nothing = f.1;
      }

  pub right_length : Right → length p ≡ plane_length F (bucket_count p) (base_count p)
  right_length h =
      let e : length p - end_in F p ≡ end_length = rw length-drop at h.nothing in
      omega arith

  -- what a right plane's header and length say
  pub record Known : Type 0 where
    pub header : Header p
    pub whole : length p ≡ plane_length F (bucket_count p) (base_count p)

  pub known : wrong_at F p ≡ Ok tt → Known
  known e = record { header = header F p (parts e).header; whole = right_length (parts e) }
