-- The plane as bytes, which planes are wrong, and what the bytes say; document 01, "The plane". F is the format, the only
-- one there is format 1.
-- Assumes nothing.
use Rattle.std.specs.Prelude.{ℕ, zero, suc, ◌+◌, ◌*◌, Bool, true, cond, ◌&&◌, List, [], ◌∷◌, ◌++◌, eqb, leb, length, get_or, take, drop, Result, Ok, Err}
use Rattle.std.specs.Result.{result_and}
use Rattle.codec.specs.Bytes.{eq_list}
use Rattle.lists.specs.Entries.{Entry, assignable}
use Rattle.bucket.specs.Bucket.{largest_bound}
use Rattle.model.specs.Model.{base_limit}
use Rattle.table.specs.Layout.{in_range}
use Rattle.plane.specs.Record.{Format, Kind, size_of, PlaneBucket, bucket_records, entry_records, bytes_of, read_all, header_kind, header_body, header_record, bucket_record, bucket_from, entry_record, entry_from, end_kind, end_body, end_bytes, end_record, bucket_length, entry_length, end_length}

-- what a plane says
pub record Plane : Type 0 where
  pub level1 : List PlaneBucket
  pub level2 : List PlaneBucket
  pub base : List Entry

-- kind 1, kind 2 for each bucket in order, kind 3 for each base entry, kind 4; nothing follows
unfoldable pub plane_bytes : Format → Plane → List ℕ
plane_bytes F P =
    header_record F (length P.level1) (length P.level2) (length P.base)
    ++ (bytes_of (bucket_record F) (P.level1 ++ P.level2) ++ (bytes_of entry_record P.base ++ end_record))

-- where the buckets start
abbrev pub buckets_at : ℕ
buckets_at = 1 + header_body

-- where what follows this many buckets starts
abbrev pub entries_at : Format → ℕ → ℕ
entries_at F buckets = buckets_at + buckets * bucket_length F

-- where the end starts
abbrev pub end_at : Format → ℕ → ℕ → ℕ
end_at F buckets k = entries_at F buckets + k * entry_length

-- document 01's length of a plane
abbrev pub plane_length : Format → ℕ → ℕ → ℕ
plane_length F buckets k = end_at F buckets k + end_length

-- ---- the first record that is wrong, as `Err` of its offset; `Ok tt`: none. p are the bytes from the record's first on, at is its offset

-- a record of this kind, not cut
abbrev pub whole : ℕ → ℕ → List ℕ → Bool
whole kind body p = leb (1 + body) (length p) && eqb (get_or p 0 0) kind

-- a record of the kind k whose value is allowed by what the records before it leave, s
abbrev pub fits : {A S : Type 0} → Kind A → (S → A → Bool) → S → List ℕ → Bool
fits k allowed s p = whole k.number k.body p && allowed s (k.read p)

-- m records of the kind k
abbrev pub wrong_in : {A S : Type 0} → Kind A → (S → A → Bool) → (S → A → S) → S → ℕ → ℕ → List ℕ → Result (Unit {0}) ℕ
wrong_in k allowed next s zero at p = Ok tt
wrong_in k allowed next s (suc m) at p =
    cond (fits k allowed s p) (wrong_in k allowed next (next s (k.read p)) m (at + size_of k) (drop (size_of k) p)) (Err at)

-- the values of records, one after the other, are allowed
abbrev pub all_allowed : {A S : Type 0} → (S → A → Bool) → (S → A → S) → S → List A → Bool
all_allowed allowed next s [] = true
all_allowed allowed next s (x ∷ xs) = allowed s x && all_allowed allowed next (next s x) xs

-- the numbers of a header: buckets of level 1
abbrev pub buckets1 : List ℕ → ℕ
buckets1 p = get_or p 2 0

-- buckets of level 2
abbrev pub buckets2 : List ℕ → ℕ
buckets2 p = get_or p 3 0

-- of both
abbrev pub bucket_count : List ℕ → ℕ
bucket_count p = buckets1 p + buckets2 p

-- base count
abbrev pub base_count : List ℕ → ℕ
base_count p = get_or p 4 0

-- kind 1: the format's number, bucket numbers in range, at most 64 entries
abbrev pub header_fits : Format → List ℕ → Bool
header_fits F p = whole header_kind header_body p && (eqb (get_or p 1 0) F.number && (in_range (buckets1 p) (buckets2 p) && leb (base_count p) base_limit))

-- kind 2: a bound of at most 8
abbrev pub bound_allowed : Unit {0} → PlaneBucket → Bool
bound_allowed s b = leb b.bound largest_bound

-- a bucket record that is right
abbrev pub bucket_fits : Format → List ℕ → Bool
bucket_fits F p = fits (bucket_records F) bound_allowed tt p

-- m of them
unfoldable pub buckets_wrong : Format → ℕ → ℕ → List ℕ → Result (Unit {0}) ℕ
buckets_wrong F m at p = wrong_in (bucket_records F) bound_allowed (λ s b. s) tt m at p

-- kind 3: a word of at least `least`, and a plan that may be given (document 02, order 3)
abbrev pub entry_allowed : ℕ → Entry → Bool
entry_allowed least e = leb least e.word && assignable e.plan

-- a base record that is right, after those that leave `least`
abbrev pub entry_fits : ℕ → List ℕ → Bool
entry_fits least p = fits entry_records entry_allowed least p

-- each must exceed the one before
abbrev pub exceeding : ℕ → Entry → ℕ
exceeding least e = suc e.word

-- k of them
unfoldable pub entries_wrong : ℕ → ℕ → ℕ → List ℕ → Result (Unit {0}) ℕ
entries_wrong least k at p = wrong_in entry_records entry_allowed exceeding least k at p

-- kind 4: the fixed byte string
abbrev pub end_fits : List ℕ → Bool
end_fits p = whole end_kind end_body p && eq_list (take end_body (drop 1 p)) end_bytes

-- and nothing after it
abbrev pub end_wrong : ℕ → List ℕ → Result (Unit {0}) ℕ
end_wrong at p = cond (end_fits p) (cond (eqb (length p) end_length) (Ok tt) (Err (at + end_length))) (Err at)

-- the records after kind 1, for these numbers of buckets and base entries: the first that is wrong
abbrev pub records_wrong : Format → ℕ → ℕ → List ℕ → Result (Unit {0}) ℕ
records_wrong F buckets k p =
    result_and (buckets_wrong F buckets buckets_at (drop buckets_at p))
    (result_and (entries_wrong 0 k (entries_at F buckets) (drop (entries_at F buckets) p))
    (end_wrong (end_at F buckets k) (drop (end_at F buckets k) p)))

-- document 01's "offset of the first byte of the first record that is cut, of a wrong kind, or with a value not allowed; or of the first
-- byte after kind 4"
unfoldable pub wrong_at : Format → List ℕ → Result (Unit {0}) ℕ
wrong_at F p = cond (header_fits F p) (records_wrong F (bucket_count p) (base_count p) p) (Err 0)

-- ---- what the bytes say, where nothing is wrong

-- the buckets of each level and the base entries
unfoldable pub plane_from : Format → List ℕ → Plane
plane_from F p = record {
  level1 = read_all (bucket_length F) (bucket_from F) (buckets1 p) (drop buckets_at p);
  level2 = read_all (bucket_length F) (bucket_from F) (buckets2 p) (drop (entries_at F (buckets1 p)) p);
  base = read_all entry_length entry_from (base_count p) (drop (entries_at F (bucket_count p)) p);
}
