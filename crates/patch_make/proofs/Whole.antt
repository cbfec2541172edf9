-- The whole patch: its parts are written one after the other, and the output has room for each.
-- Assumes nothing.
use Prim.Native.Nat.{ℕ, suc, ◌+◌, ◌*◌, ◌≤◌}
use native.Mathlib.Nat.{zero-add, mul-le-mul_right}
use native.Mathlib.Omega.{arith}
use mathlib.Core.Path.{◌≡◌, refl, sym, ap, ◌∙◌}
use mathlib.Core.Bool.{Bool, not}
use mathlib.Core.List.{List, [], ◌∷◌, ◌++◌, append_assoc}
use lib.ListN.{length, set, take, length-append, length-map}
use Rattle.codec.specs.Bytes.{to_bytes, eq_list}
use Rattle.codec.specs.Parts.{written}
use Rattle.codec.proofs.Part.{part_same, written-append, written_cons}
use Rattle.codec.proofs.Round.{length-to_bytes}
use Rattle.lists.specs.Lists.{keep, Every}
use Rattle.lists.specs.Entries.{Entry, find}
use Rattle.lists.proofs.Tests.{by_test}
use Rattle.lists.proofs.Every.{every, mem_every}
use Rattle.hash.specs.Fnv.{fnv_of}
use Rattle.plane.specs.Record.{Format, word_bytes, bytes_of, PlaneBucket, bucket_bytes, end_record, end_length}
use Rattle.plane.specs.Plane.{Plane, plane_from, bucket_count}
use Rattle.plane.proofs.Round.{length-bytes}
use Rattle.plane.proofs.Exact.{buckets_length}
use Rattle.patch.specs.Base.{is_there, gone_of, news_of}
use Rattle.patch.specs.Record.{sums_kind, sums_record, Change, change_length, change_record, gone_length, gone_record, new_record, OwnKind}
use Rattle.patch.specs.Patch.{patch_bytes, changes_of, buckets_of, between, patch_of}
use Rattle.patch.specs.Wrong.{changes_at}
use Rattle.patch.specs.Fits.{FitsChange}
use Rattle.patch.proofs.Round.{change_back}
use Rattle.patch.proofs.Statements.{made-sized}
use Rattle.patch_make.specs.Steps.{base_records}
use Rattle.patch_make.proofs.Put.{gone_size, Alike}

-- ---- how long the records of each kind are at most

keep_less : {A : Type 0} (t : A → Bool) (xs : List A) → length (keep t xs) ≤ length xs
keep_less t [] = omega arith
keep_less {A} t (x ∷ xs) = let i = keep_less t xs in by_test (λ (l : List A). length l ≤ length (x ∷ xs)) (t x) (λ y. omega arith) (λ n. omega arith)

pub gone_most : (old new : List Entry) → length (bytes_of gone_record (gone_of old new)) ≤ length old * gone_length
gone_most old new =
    let t : Entry → Bool = λ e. not (is_there (find e.word new)) in
    rw (length-bytes gone_record gone_length (gone_of old new) (mem_every _ (gone_of old new) (λ w m. gone_size w)))
    (omega (arith, length-map (keep t old) (λ (e : Entry). e.word), keep_less t old))

changes_less : (i : ℕ) (bs cs : List PlaneBucket) → length (changes_of i bs cs) ≤ length bs
changes_less i [] cs = omega arith
changes_less i (b ∷ bs) [] = omega arith
changes_less i (b ∷ bs) (c ∷ cs) =
    let h = changes_less (suc i) bs cs in
    by_test (λ (l : List Change). length l ≤ length (b ∷ bs)) (eq_list (bucket_bytes b) (bucket_bytes c)) (λ t. omega arith) (λ f. omega arith)

module _ {F : Format} {p q : List ℕ} (own : OwnKind F) (h : Alike F p q) where
  sized : Every (FitsChange F) (changes_of 0 (buckets_of (plane_from F p)) (buckets_of (plane_from F q)))
  unfolding between
  sized = (made-sized F own p q h.old_bytes h.new_bytes h.old h.new).changes

  pub changes_most : length (bytes_of (change_record F) (changes_of 0 (buckets_of (plane_from F p)) (buckets_of (plane_from F q)))) ≤ bucket_count p * change_length F
  changes_most =
      let cs : List Change = changes_of 0 (buckets_of (plane_from F p)) (buckets_of (plane_from F q)) in
      let n : length cs ≤ bucket_count p = rw (buckets_length F p h.old h.old_bytes) at (changes_less 0 (buckets_of (plane_from F p)) (buckets_of (plane_from F q))) in
      rw (length-bytes (change_record F) (change_length F) cs (every (λ c f. (change_back F c f).0) cs sized)) (mul-le-mul_right (change_length F) n)

-- ---- the parts together

pub sums-put : (old new : ℕ) (t t1 t2 : List ℕ) → t1 ≡ written 1 (to_bytes word_bytes old) (set t 0 sums_kind) → t2 ≡ written (1 + word_bytes) (to_bytes word_bytes new) t1
    → t2 ≡ written 0 (sums_record old new) t
sums-put old new t t1 t2 e f =
    f ∙ ap (written (1 + word_bytes) (to_bytes word_bytes new)) e
    ∙ ap (λ (n : ℕ). written (1 + n) (to_bytes word_bytes new) (written 1 (to_bytes word_bytes old) (set t 0 sums_kind))) (sym (length-to_bytes word_bytes old))
    ∙ sym (written-append 1 (to_bytes word_bytes old) (to_bytes word_bytes new) (set t 0 sums_kind))
    ∙ written_cons 0 sums_kind (to_bytes word_bytes old ++ to_bytes word_bytes new) t

-- two parts, each at its place, with the offset where it ends
pub put_both : (at n r : ℕ) (x y t t1 t2 : List ℕ) → (n ≡ at + length x) × (t1 ≡ written at x t) → (r ≡ n + length y) × (t2 ≡ written n y t1)
    → (r ≡ at + length (x ++ y)) × (t2 ≡ written at (x ++ y) t)
put_both at n r x y t t1 t2 e f = (rw length-append (omega arith), rw (f.1, e.1, e.0) (sym (written-append at x y t)))

module _ (F : Format) (p q : List ℕ) where
  abbrev P : Plane
  P = plane_from F p

  abbrev Q : Plane
  Q = plane_from F q

  abbrev C : List ℕ
  C = bytes_of (change_record F) (changes_of 0 (buckets_of P) (buckets_of Q))

  abbrev B : List ℕ
  B = base_records P.base Q.base

  in_parts : patch_bytes F (patch_of F p q) ≡ sums_record (fnv_of p) (fnv_of q) ++ (C ++ (B ++ end_record))
  unfolding patch_bytes between
  in_parts =
      ap (λ (l : List ℕ). sums_record (fnv_of p) (fnv_of q) ++ (C ++ l)) (sym (append_assoc (bytes_of gone_record (gone_of P.base Q.base)) (bytes_of new_record (news_of P.base Q.base)) end_record))

  -- all of them, before the end record is there and after
  pub patch_put : (a b n r : ℕ) (t t1 t2 t3 : List ℕ) → a ≡ fnv_of p → b ≡ fnv_of q → t1 ≡ written 0 (sums_record a b) t → (n ≡ changes_at + length C) × (t2 ≡ written changes_at C t1)
      → (r ≡ n + length B) × (t3 ≡ written n B t2) → (r + end_length ≡ length (patch_bytes F (patch_of F p q))) × (written r end_record t3 ≡ written 0 (patch_bytes F (patch_of F p q)) t)
  patch_put a b n r t t1 t2 t3 ea eb e1 e2 e3 =
      let s : changes_at ≡ 0 + length (sums_record a b) = rw length-append (omega (arith, length-to_bytes word_bytes a, length-to_bytes word_bytes b)) in
      let two = put_both changes_at n (r + end_length) C (B ++ end_record) t1 t2 (written r end_record t3) e2 (put_both n r (r + end_length) B end_record t2 t3 (written r end_record t3) e3 (refl, refl)) in
      let all = put_both 0 changes_at (r + end_length) (sums_record a b) (C ++ (B ++ end_record)) t t1 (written r end_record t3) (s, e1) two in
      rw (in_parts, ← ea, ← eb) (all.0 ∙ zero-add _, all.1)

-- the first n of the bytes `made` are d
pub made-front : (d made t : List ℕ) (n : ℕ) → length d ≤ length t → (n ≡ length d) × (made ≡ written 0 d t) → take n made ≡ d
made-front d made t n h e = rw (e.0, e.1) (part_same 0 d t (omega arith))
