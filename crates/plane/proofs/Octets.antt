-- The bytes of a plane that fits are bytes, in a format whose numbers are.
-- Assumes nothing.
use mathlib.Core.Bool.{◌&&◌}
use mathlib.Core.List.{List, [], ◌∷◌, ◌++◌}
use Prim.Native.Nat.{ℕ, zero, suc, ◌/◌, ◌%◌, ◌≤◌, ◌<◌}
use native.Mathlib.Nat.{mod-lt}
use native.Mathlib.Omega.{arith}
use borrow.Author.Tests.{leb-true}
use lib.Dec.{leb, lit<}
use lib.ListN.{length}
use Rattle.lists.specs.Lists.{Every}
use Rattle.lists.specs.Entries.{Entry}
use Rattle.lists.proofs.Entries.{assignable_byte}
use Rattle.lists.proofs.Every.{every, mem_every}
use Rattle.codec.specs.Bytes.{to_bytes}
use Rattle.bucket.specs.Bucket.{largest_bound}
use Rattle.model.specs.Model.{base_limit}
use Rattle.table.specs.Layout.{most_buckets1, most_buckets2}
use Rattle.plane.specs.Record.{Format, bytes_of, word_bytes, PlaneBucket, bucket_record, entry_kind, entry_record, header_record, end_record}
use Rattle.plane.specs.Plane.{Plane, plane_bytes}
use Rattle.plane.specs.Fits.{FitsBucket, FitsEntry, Fits}
use Rattle.plane.proofs.Scan.{both}
use Rattle.plane.proofs.Exact.{AllBytes}

octets_nil : AllBytes []
octets_nil i = lit< tt

octets_cons : (x : ℕ) (p : List ℕ) → x < 256 → AllBytes p → AllBytes (x ∷ p)
octets_cons x p h b zero = h
octets_cons x p h b (suc i) = b i

pub octets_append : (p q : List ℕ) → AllBytes p → AllBytes q → AllBytes (p ++ q)
octets_append [] q a b = b
octets_append (x ∷ p) q a b = octets_cons x (p ++ q) (a 0) (octets_append p q (λ i. a (suc i)) b)

pub octets_of : {A : Type 0} (f : A → List ℕ) (xs : List A) → Every (λ x. AllBytes (f x)) xs → AllBytes (bytes_of f xs)
unfolding bytes_of
octets_of f [] h = octets_nil
octets_of f (x ∷ xs) h = octets_append (f x) (bytes_of f xs) h.0 (octets_of f xs h.1)

pub octets_number : (n x : ℕ) → AllBytes (to_bytes n x)
unfolding to_bytes
octets_number zero x = octets_nil
octets_number (suc n) x = octets_cons (x % 256) (to_bytes n (x / 256)) (mod-lt x (lit< tt)) (octets_number n (x / 256))

-- a few numbers
few : (p : List ℕ) → Every (λ x. x < 256) p → AllBytes p
few [] h = octets_nil
few (x ∷ p) h = octets_cons x p h.0 (few p h.1)

octets_bucket : (F : Format) → F.bucket_kind < 256 → (b : PlaneBucket) → FitsBucket F b → AllBytes (bucket_record F b)
octets_bucket F k b h =
    let l : b.bound ≤ largest_bound = h.low in
    octets_append (F.bucket_kind ∷ b.bound ∷ []) (bytes_of (to_bytes word_bytes) b.sols) (few (F.bucket_kind ∷ b.bound ∷ []) (k, (omega arith, tt)))
    (octets_of (to_bytes word_bytes) b.sols (mem_every _ b.sols (λ x m. octets_number word_bytes x)))

octets_entry : (e : Entry) → FitsEntry e → AllBytes (entry_record e)
octets_entry e h =
    octets_append (entry_kind ∷ []) (to_bytes word_bytes e.word ++ (e.plan ∷ [])) (few (entry_kind ∷ []) (lit< tt, tt))
    (octets_append (to_bytes word_bytes e.word) (e.plan ∷ []) (octets_number word_bytes e.word) (few (e.plan ∷ []) (assignable_byte e.plan h.plan, tt)))

pub plane_octets : (F : Format) → F.number < 256 → F.bucket_kind < 256 → (P : Plane) → Fits F P → AllBytes (plane_bytes F P)
unfolding plane_bytes
plane_octets F n k P f =
    let n1 : ℕ = length P.level1 in
    let n2 : ℕ = length P.level2 in
    let d = both (leb 1 n1 && leb n1 most_buckets1) _ f.range in
    let l1 : n1 ≤ most_buckets1 = leb-true n1 most_buckets1 (both (leb 1 n1) _ d.0).1 in
    let l2 : n2 ≤ most_buckets2 = leb-true n2 most_buckets2 (both (leb 1 n2) _ d.1).1 in
    let l0 : length P.base ≤ base_limit = f.few in
    let B : List ℕ = bytes_of (bucket_record F) (P.level1 ++ P.level2) in
    let E : List ℕ = bytes_of entry_record P.base in
    octets_append (header_record F n1 n2 (length P.base)) (B ++ (E ++ end_record)) (few (header_record F n1 n2 (length P.base)) (lit< tt, (n, (omega arith, (omega arith, (omega arith, tt))))))
    (octets_append B (E ++ end_record) (octets_of (bucket_record F) (P.level1 ++ P.level2) (every (octets_bucket F k) (P.level1 ++ P.level2) f.buckets))
    (octets_append E end_record (octets_of entry_record P.base (every octets_entry P.base f.entries))
    (few end_record (lit< tt, (lit< tt, (lit< tt, (lit< tt, (lit< tt, tt))))))))
