-- The records of a plane; document 01, "The plane": one kind byte, then a body whose length the kind fixes. Numbers are little-endian.
-- Assumes nothing.
use Rattle.std.specs.Prelude.{ℕ, zero, suc, ◌+◌, ◌*◌, List, [], ◌∷◌, ◌++◌, get_or, take, drop}
use Rattle.codec.specs.Bytes.{from_bytes, to_bytes}
use Rattle.lists.specs.Entries.{Entry}
use Rattle.table.specs.Calls.{solutions}

-- the bytes of things, one after the other
unfoldable pub bytes_of : {A : Type 0} → (A → List ℕ) → List A → List ℕ
bytes_of f [] = []
bytes_of f (x ∷ xs) = f x ++ bytes_of f xs

-- m things of `size` bytes each, one after the other; `read` gives the one at the front of the bytes
unfoldable pub read_all : {A : Type 0} → ℕ → (List ℕ → A) → ℕ → List ℕ → List A
read_all size read zero p = []
read_all size read (suc m) p = read p ∷ read_all size read m (drop size p)

-- the bytes of a 64-bit number
abbrev pub word_bytes : ℕ
word_bytes = 8

-- the number at the front of the bytes, little-endian
abbrev pub word_from : List ℕ → ℕ
word_from p = from_bytes (take word_bytes p)

-- a kind of record: its number, how many bytes follow the kind byte, what those are, and what a record in front of some bytes says
pub record Kind (A : Type 0) : Type 0 where
  pub number : ℕ
  pub body : ℕ
  pub write : A → List ℕ
  pub read : List ℕ → A

-- how long a record is, with the kind byte
abbrev pub size_of : {A : Type 0} → Kind A → ℕ
size_of k = 1 + k.body

-- a record
abbrev pub record_of : {A : Type 0} → Kind A → A → List ℕ
record_of k x = k.number ∷ k.write x

-- what one format of planes may have otherwise than another: its number, the solution words of a bucket, the kind of its bucket records, and
-- the kind of a patch's record for a bucket that differs
pub record Format : Type 0 where
  pub number : ℕ
  pub words : ℕ
  pub bucket_kind : ℕ
  pub change_kind : ℕ

-- the only format
abbrev pub format1 : Format
format1 = record { number = 1; words = solutions; bucket_kind = 2; change_kind = 6 }

-- ---- kind 1: format, buckets of level 1, of level 2, base count (4 bytes)

-- its kind byte
abbrev pub header_kind : ℕ
header_kind = 1

-- the bytes after the kind byte
abbrev pub header_body : ℕ
header_body = 4

-- with the kind byte first
abbrev pub header_record : Format → ℕ → ℕ → ℕ → List ℕ
header_record F buckets1 buckets2 entries = header_kind ∷ F.number ∷ buckets1 ∷ buckets2 ∷ entries ∷ []

-- ---- kind 2 in format 1: bound (1 byte), solution words (8 each)

-- the bytes after the kind byte
abbrev pub bucket_body : Format → ℕ
bucket_body F = 1 + word_bytes * F.words

-- with the kind byte
abbrev pub bucket_length : Format → ℕ
bucket_length F = 1 + bucket_body F

-- a bucket as the posts see it
pub record PlaneBucket : Type 0 where
  pub bound : ℕ
  pub sols : List ℕ

-- its record without the kind byte
abbrev pub bucket_bytes : PlaneBucket → List ℕ
bucket_bytes b = b.bound ∷ bytes_of (to_bytes word_bytes) b.sols

-- with the kind byte
abbrev pub bucket_record : Format → PlaneBucket → List ℕ
bucket_record F b = F.bucket_kind ∷ bucket_bytes b

-- the bucket whose record is at the front of the bytes
abbrev pub bucket_from : Format → List ℕ → PlaneBucket
bucket_from F p = record { bound = get_or p 1 0; sols = read_all word_bytes word_from F.words (drop 2 p) }

-- the kind of these records
abbrev pub bucket_records : Format → Kind PlaneBucket
bucket_records F = record { number = F.bucket_kind; body = bucket_body F; write = bucket_bytes; read = bucket_from F }

-- ---- kind 3: w' (8), plan (1)

-- its kind byte
abbrev pub entry_kind : ℕ
entry_kind = 3

-- the bytes after the kind byte
abbrev pub entry_body : ℕ
entry_body = word_bytes + 1

-- with the kind byte
abbrev pub entry_length : ℕ
entry_length = 1 + entry_body

-- the record of a base entry, by its w', without the kind byte
abbrev pub entry_bytes : Entry → List ℕ
entry_bytes e = to_bytes word_bytes e.word ++ (e.plan ∷ [])

-- with the kind byte
abbrev pub entry_record : Entry → List ℕ
entry_record e = entry_kind ∷ entry_bytes e

-- the entry whose record is at the front of the bytes
abbrev pub entry_from : List ℕ → Entry
entry_from p = record { word = word_from (drop 1 p); plan = get_or p (1 + word_bytes) 0 }

-- the kind of these records
abbrev pub entry_records : Kind Entry
entry_records = record { number = entry_kind; body = entry_body; write = entry_bytes; read = entry_from }

-- ---- kind 4 closes

-- its kind byte
abbrev pub end_kind : ℕ
end_kind = 4

-- the bytes after the kind byte
abbrev pub end_body : ℕ
end_body = 4

-- with the kind byte
abbrev pub end_length : ℕ
end_length = 1 + end_body

-- the fixed byte string E N D LF
abbrev pub end_bytes : List ℕ
end_bytes = 0x45 ∷ 0x4e ∷ 0x44 ∷ 0x0a ∷ []

-- with the kind byte first
abbrev pub end_record : List ℕ
end_record = end_kind ∷ end_bytes
