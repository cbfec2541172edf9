-- The scan finds just the offset that document 01 means: first for records of any kind (`scan-found`, `found_exactly`, `found_nowhere`), then
-- for the plane.
-- Assumes nothing.
use Prim.Native.Nat.{ℕ, zero, suc, ◌+◌, ◌-◌, ◌*◌, ◌≤◌, ◌<◌}
use native.Mathlib.Nat.{add-zero, zero-mul, suc-mul}
use native.Mathlib.Omega.{arith}
use mathlib.Core.Path.{◌≡◌, refl, sym, ap, ◌∙◌}
use mathlib.Core.Logic.{inl, inr, ⊎_elim, ◌↔◌}
use mathlib.Core.Bool.{Bool, true, false, true≢false, cond, ◌&&◌}
use mathlib.Core.List.{List, [], ◌∷◌, ◌++◌, map}
use borrow.Author.Tests.{leb-true, leb-false, lt-leb, eqb-false, ne_eqb, eq-eqb}
use lib.Dec.{leb, eqb, leb-zero}
use lib.ListN.{length, get_or, drop, length-drop}
use lib.Seq.{get_or-drop, drop-drop}
use Rattle.std.specs.Prelude.{Result, Ok, Err}
use Rattle.std.specs.Result.{result_and}
use Rattle.lists.specs.Lists.{count_from}
use Rattle.lists.specs.Entries.{assignable}
use Rattle.lists.proofs.Tests.{by_test, cases}
use Rattle.table.proofs.Causes.{and_fails}
use Rattle.plane.specs.Record.{Format, Kind, size_of, bucket_records, entry_kind, entry_body, entry_from, entry_records, end_kind, end_body, end_length}
use Rattle.plane.specs.Plane.{whole, fits, wrong_in, bucket_count, base_count, buckets_at, entries_at, end_at, plane_length, bound_allowed, entry_allowed, exceeding, header_fits, buckets_wrong, entries_wrong, end_fits, end_wrong, wrong_at}
use Rattle.plane.specs.Offset.{Expected, WrongRecord, FirstWrong, NoneWrong, expected_bucket, entry_at, entry_word, expected_entry, expected_end, expected, WrongOffset, RightPlane}
use Rattle.plane.proofs.Scan.{both, at_nowhere, whole_length}

-- ---- one record

module _ (p : List ℕ) (d : Expected) where
  abbrev q : List ℕ
  q = drop d.at p

  -- the test of it
  abbrev pub right_test : Bool
  right_test = whole d.kind d.body q && d.allowed

  cut_exactly : (leb (1 + d.body) (length q) ≡ false) ↔ (length p < d.at + (1 + d.body))
  cut_exactly = (
    λ e. let l : length p - d.at < 1 + d.body = rw length-drop at (leb-false (1 + d.body) (length q) e) in omega arith,
    λ l. lt-leb (1 + d.body) (length q) (rw length-drop (omega arith)),
  )

  kind_exactly : (eqb (get_or q 0 0) d.kind ≡ false) ↔ (get_or p d.at 0 ≡ d.kind → ⊥)
  kind_exactly =
      let e : get_or q 0 0 ≡ get_or p d.at 0 = get_or-drop d.at p 0 0 ∙ ap (λ (i : ℕ). get_or p i 0) (add-zero d.at) in
      (λ f h. eqb-false (get_or q 0 0) d.kind f (e ∙ h), λ n. ne_eqb (get_or q 0 0) d.kind (λ h. n (sym e ∙ h)))

  pub wrong_record : (right_test ≡ false) ↔ WrongRecord p d
  wrong_record = and_fails (whole d.kind d.body q) d.allowed (and_fails (leb (1 + d.body) (length q)) _ cut_exactly kind_exactly) (λ e. e, λ e. e)

  pub right_record : right_test ≡ true → WrongRecord p d → ⊥
  right_record e w = true≢false (sym e ∙ wrong_record.1 w)

-- ---- the first of some records that is wrong

-- as the tests find it; o is what is found after them
abbrev pub found : List ℕ → List Expected → Result (Unit {0}) ℕ → Result (Unit {0}) ℕ
found p [] o = o
found p (d ∷ ds) o = cond (right_test p d) (found p ds o) (Err d.at)

-- bytes after the offset end
abbrev pub more : List ℕ → ℕ → Result (Unit {0}) ℕ
more p end = cond (leb (length p) end) (Ok tt) (Err end)

pub found-append : (p : List ℕ) (ds es : List Expected) (o : Result (Unit {0}) ℕ) → found p (ds ++ es) o ≡ found p ds (found p es o)
found-append p [] es o = refl
found-append p (d ∷ ds) es o = ap (λ (x : Result (Unit {0}) ℕ). cond (right_test p d) x (Err d.at)) (found-append p ds es o)

pub at_one : {i j : ℕ} → ◌≡◌ {A = Result (Unit {0}) ℕ} (Err i) (Err j) → i ≡ j
at_one e = cc

-- it is the first that is wrong
module _ (p : List ℕ) (end at : ℕ) where
  pub found_exactly : (ds : List Expected) → (found p ds (more p end) ≡ Err at) ↔ FirstWrong p ds end at
  found_exactly [] =
      by_test (λ (x : Result (Unit {0}) ℕ). (x ≡ Err at) ↔ FirstWrong p [] end at) (leb (length p) end)
      (λ e. (λ f. absurd (at_nowhere (sym f)), λ h. absurd (omega (arith, leb-true (length p) end e))))
      (λ e. (λ f. (leb-false (length p) end e, sym (at_one f)), λ h. ap Err (sym h.1)))
  found_exactly (d ∷ ds) =
      let i = found_exactly ds in
      by_test (λ (x : Result (Unit {0}) ℕ). (x ≡ Err at) ↔ FirstWrong p (d ∷ ds) end at) (right_test p d)
      (λ e. (λ f. inr (right_record p d e, i.0 f), ⊎_elim (λ w. absurd (right_record p d e w.0)) (λ r. i.1 r.1)))
      (λ e. (λ f. inl ((wrong_record p d).0 e, sym (at_one f)), ⊎_elim (λ w. ap Err (sym w.1)) (λ r. absurd (r.0 ((wrong_record p d).0 e)))))

-- nothing is found exactly if none is wrong
pub found_nowhere : (p : List ℕ) (end : ℕ) (ds : List Expected) → (found p ds (more p end) ≡ Ok tt) ↔ NoneWrong p ds end
found_nowhere p end [] =
    by_test (λ (x : Result (Unit {0}) ℕ). (x ≡ Ok tt) ↔ NoneWrong p [] end) (leb (length p) end)
    (λ e. (λ f l. omega (arith, leb-true (length p) end e), λ h. refl))
    (λ e. (λ f. absurd (at_nowhere f), λ h. absurd (h (leb-false (length p) end e))))
found_nowhere p end (d ∷ ds) =
    by_test (λ (x : Result (Unit {0}) ℕ). (x ≡ Ok tt) ↔ NoneWrong p (d ∷ ds) end) (right_test p d)
    (λ e. (λ f. (right_record p d e, (found_nowhere p end ds).0 f), λ n. (found_nowhere p end ds).1 n.1))
    (λ e. (λ f. absurd (at_nowhere f), λ n. absurd (n.0 ((wrong_record p d).0 e))))

-- records of one kind, the first at the offset `first`
module _ {A S : Type 0} (k : Kind A) (allowed : S → A → Bool) (next : S → A → S) (s : S) (first : ℕ) (p : List ℕ) where
  -- where record i starts, and what the records before it leave
  abbrev pub place_of : ℕ → ℕ
  place_of i = first + i * size_of k

  abbrev pub left_by : ℕ → S
  left_by zero = s
  left_by (suc i) = next (left_by i) (k.read (drop (place_of i) p))

  abbrev pub expected_at : ℕ → Expected
  expected_at i = record { at = place_of i; kind = k.number; body = k.body; allowed = allowed (left_by i) (k.read (drop (place_of i) p)) }

  module _ (f : ℕ → Expected) (same : (i : ℕ) → expected_at i ≡ f i) (o : Result (Unit {0}) ℕ) where
    -- m records from record i on, then the others
    from_found : (i m : ℕ) → result_and (wrong_in k allowed next (left_by i) m (place_of i) (drop (place_of i) p)) o ≡ found p (map f (count_from i m)) o
    from_found i zero = refl
    from_found i (suc m) =
        let there : place_of i + size_of k ≡ place_of (suc i) = rw (suc-mul i (size_of k)) (omega arith) in
        rw (← same i)
        (cases (fits k allowed (left_by i) (drop (place_of i) p)) (λ t. rw (t, drop-drop (size_of k) (place_of i) p, there) (from_found (suc i) m)) (λ t. rw t))

    pub scan-found : (m : ℕ) → result_and (wrong_in k allowed next s m first (drop first p)) o ≡ found p (map f (count_from 0 m)) o
    scan-found m =
        let start : place_of 0 ≡ first = rw (zero-mul (size_of k)) (omega arith) in
        rw start at (from_found 0 m)

-- ---- the plane

-- the end is all that is left exactly if nothing follows it
nothing_after : (at : ℕ) (p : List ℕ) → end_body < length (drop at p) → eqb (length (drop at p)) end_length ≡ leb (length p) (at + end_length)
nothing_after at p h =
    let l : end_body < length p - at = rw length-drop at h in
    cases (leb (length p) (at + end_length))
    (λ t. let n : length p ≤ at + end_length = leb-true _ _ t in eq-eqb (length (drop at p)) end_length (rw length-drop (omega arith)) ∙ sym t)
    (λ t. let n : at + end_length < length p = leb-false _ _ t in ne_eqb (length (drop at p)) end_length (λ x. let y : length p - at ≡ end_length = rw length-drop at x in omega arith) ∙ sym t)

-- kind 4 at the offset at
pub end-found : (at : ℕ) (p : List ℕ) → end_wrong at (drop at p) ≡ found p (expected_end at p ∷ []) (more p (at + end_length))
end-found at p =
    let q : List ℕ = drop at p in
    cases (end_fits q) (λ e. rw (nothing_after at p (whole_length end_kind end_body q (both (whole end_kind end_body q) _ e).0))) (λ e. rw e)

module _ (F : Format) (p : List ℕ) where
  abbrev m : ℕ
  m = bucket_count p

  abbrev k : ℕ
  k = base_count p

  entry-same : (i : ℕ) → expected_at entry_records entry_allowed exceeding 0 (entries_at F m) p i ≡ expected_entry F p i
  entry-same zero =
      ap (λ (b : Bool). record { at = entry_at F p 0; kind = entry_kind; body = entry_body; allowed = b && assignable (entry_from (drop (entry_at F p 0) p)).plan }) (leb-zero (entry_word F p 0))
  entry-same (suc i) = refl

  pub wrong-found : wrong_at F p ≡ found p (expected F p) (more p (plane_length F m k))
  unfolding wrong_at buckets_wrong entries_wrong
  wrong-found =
      let bs : List Expected = map (expected_bucket F p) (count_from 0 m) in
      let es : List Expected = map (expected_entry F p) (count_from 0 k) in
      let end : List Expected = expected_end (end_at F m k) p ∷ [] in
      let o : Result (Unit {0}) ℕ = more p (plane_length F m k) in
      ap (λ (x : Result (Unit {0}) ℕ). cond (header_fits F p) x (Err 0))
      (rw (end-found (end_at F m k) p, scan-found entry_records entry_allowed exceeding 0 (entries_at F m) p (expected_entry F p) entry-same (found p end o) k, found-append p bs (es ++ end) o, found-append p es end o)
      (scan-found (bucket_records F) bound_allowed (λ s b. s) tt buckets_at p (expected_bucket F p) (λ i. refl) (found p es (found p end o)) m))

  -- cause 10's offset, and none
  pub offset_exactly : (at : ℕ) → (wrong_at F p ≡ Err at) ↔ WrongOffset F p at
  offset_exactly at = rw wrong-found (found_exactly p (plane_length F m k) at (expected F p))

  pub nowhere_exactly : (wrong_at F p ≡ Ok tt) ↔ RightPlane F p
  nowhere_exactly = rw wrong-found (found_nowhere p (plane_length F m k) (expected F p))
