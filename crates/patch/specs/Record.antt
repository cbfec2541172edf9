-- The records of a patch; document 02, order 1: kinds 5 to 8, and kind 4 of the plane. F is the format of both planes.
-- Assumes nothing.
use Rattle.std.specs.Prelude.{ℕ, ◌+◌, ◌≡◌, List, ◌∷◌, ◌++◌, get_or, drop}
use Rattle.codec.specs.Bytes.{to_bytes}
use Rattle.lists.specs.Entries.{Entry}
use Rattle.plane.specs.Record.{word_bytes, word_from, Kind, Format, PlaneBucket, bucket_body, bucket_bytes, bucket_from, entry_body, entry_bytes, entry_from, end_kind}

-- ---- kind 5: FNV-1a 64 of the old plane's bytes, then of the new one's (16 bytes)

-- its kind byte
abbrev pub sums_kind : ℕ
sums_kind = 5

-- the bytes after the kind byte
abbrev pub sums_body : ℕ
sums_body = word_bytes + word_bytes

-- with the kind byte first
abbrev pub sums_record : ℕ → ℕ → List ℕ
sums_record old new = sums_kind ∷ (to_bytes word_bytes old ++ to_bytes word_bytes new)

-- ---- kind 6 in format 1: one index byte from 0, over level 1 and then level 2, then the bucket (65)

-- the bytes after the kind byte
abbrev pub change_body : Format → ℕ
change_body F = 1 + bucket_body F

-- with the kind byte
abbrev pub change_length : Format → ℕ
change_length F = 1 + change_body F

-- a bucket that differs, as it is in the new plane
pub record Change : Type 0 where
  pub index : ℕ
  pub bucket : PlaneBucket

-- its record without the kind byte
abbrev pub change_bytes : Change → List ℕ
change_bytes c = c.index ∷ bucket_bytes c.bucket

-- with the kind byte
abbrev pub change_record : Format → Change → List ℕ
change_record F c = F.change_kind ∷ change_bytes c

-- the change whose record is at the front of the bytes
abbrev pub change_from : Format → List ℕ → Change
change_from F p = record { index = get_or p 1 0; bucket = bucket_from F (drop 1 p) }

-- the kind of these records
abbrev pub change_records : Format → Kind Change
change_records F = record { number = F.change_kind; body = change_body F; write = change_bytes; read = change_from F }

-- ---- kind 7: a base word gone (8)

-- its kind byte
abbrev pub gone_kind : ℕ
gone_kind = 7

-- with the kind byte
abbrev pub gone_length : ℕ
gone_length = 1 + word_bytes

-- the record of a word, with the kind byte first
abbrev pub gone_record : ℕ → List ℕ
gone_record w = gone_kind ∷ to_bytes word_bytes w

-- the word whose record is at the front of the bytes
abbrev pub gone_from : List ℕ → ℕ
gone_from p = word_from (drop 1 p)

-- the kind of these records
abbrev pub gone_records : Kind ℕ
gone_records = record { number = gone_kind; body = word_bytes; write = to_bytes word_bytes; read = gone_from }

-- ---- kind 8: a base entry new or changed (9)

-- its kind byte
abbrev pub new_kind : ℕ
new_kind = 8

-- with the kind byte
abbrev pub new_length : ℕ
new_length = 1 + entry_body

-- the record of an entry, with the kind byte first; it is read as a base entry's is
abbrev pub new_record : Entry → List ℕ
new_record e = new_kind ∷ entry_bytes e

-- the kind of these records
abbrev pub new_records : Kind Entry
new_records = record { number = new_kind; body = entry_body; write = entry_bytes; read = entry_from }

-- ---- the kinds of a patch

-- the kind of a change is none of those that may follow it, so that where the changes end can be told
abbrev pub OwnKind : Format → Type 0
OwnKind F = (F.change_kind ≡ gone_kind → ⊥) × ((F.change_kind ≡ new_kind → ⊥) × (F.change_kind ≡ end_kind → ⊥))
