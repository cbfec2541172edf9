-- Cause 10's "offset of the first byte of the first record that is cut, of a wrong kind, or with a value not allowed; or of the first byte after
-- kind 4", without the scan: the records that the bytes must have, each with its offset, and what is wrong with one. `wrong_at` finds just this
-- offset: proofs/Offset.antt.
-- Assumes nothing.
use Rattle.std.specs.Prelude.{ℕ, zero, suc, ◌+◌, ◌*◌, ◌<◌, ◌≡◌, ◌⊎◌, Bool, true, false, ◌&&◌, List, [], ◌∷◌, ◌++◌, map, eqb, leb, ltb, length, get_or, take, drop}
use Rattle.lists.specs.Lists.{count_from}
use Rattle.lists.specs.Entries.{assignable}
use Rattle.codec.specs.Bytes.{eq_list}
use Rattle.bucket.specs.Bucket.{largest_bound}
use Rattle.model.specs.Model.{base_limit}
use Rattle.table.specs.Layout.{in_range}
use Rattle.plane.specs.Record.{Format, header_kind, header_body, bucket_body, bucket_length, bucket_from, entry_kind, entry_body, entry_length, entry_from, end_kind, end_body, end_bytes}
use Rattle.plane.specs.Plane.{buckets1, buckets2, bucket_count, base_count, buckets_at, entries_at, end_at, plane_length}

-- a record that the bytes must have: the offset of its first byte, its kind, how many bytes follow the kind byte, whether its value is allowed
pub record Expected : Type 0 where
  pub at : ℕ
  pub kind : ℕ
  pub body : ℕ
  pub allowed : Bool

-- it is cut, of a wrong kind, or with a value not allowed
abbrev pub WrongRecord : List ℕ → Expected → Type 0
WrongRecord p d = ((length p < d.at + (1 + d.body)) ⊎ (get_or p d.at 0 ≡ d.kind → ⊥)) ⊎ (d.allowed ≡ false)

-- the offset of the first byte of the first of these records that is wrong, every record before it being right; or of the first byte after
-- them, `end`
abbrev pub FirstWrong : List ℕ → List Expected → ℕ → ℕ → Type 0
FirstWrong p [] end at = (end < length p) × (at ≡ end)
FirstWrong p (d ∷ ds) end at = (WrongRecord p d × (at ≡ d.at)) ⊎ ((WrongRecord p d → ⊥) × FirstWrong p ds end at)

-- none of them is wrong, and nothing follows
abbrev pub NoneWrong : List ℕ → List Expected → ℕ → Type 0
NoneWrong p [] end = end < length p → ⊥
NoneWrong p (d ∷ ds) end = (WrongRecord p d → ⊥) × NoneWrong p ds end

-- ---- the records of a plane, as many as its header says

-- "formats other than 1, bucket numbers out of range and over 64 entries are not allowed"
abbrev pub expected_header : Format → List ℕ → Expected
expected_header F p =
    record { at = 0; kind = header_kind; body = header_body; allowed = eqb (get_or p 1 0) F.number && (in_range (buckets1 p) (buckets2 p) && leb (base_count p) base_limit) }

-- bucket i: "nor is a bound over 8"
abbrev pub expected_bucket : Format → List ℕ → ℕ → Expected
expected_bucket F p i =
    let at : ℕ = buckets_at + i * bucket_length F in
    record { at = at; kind = F.bucket_kind; body = bucket_body F; allowed = leb (bucket_from F (drop at p)).bound largest_bound }

-- where base entry i starts
abbrev pub entry_at : Format → List ℕ → ℕ → ℕ
entry_at F p i = entries_at F (bucket_count p) + i * entry_length

-- the word of base entry i
abbrev pub entry_word : Format → List ℕ → ℕ → ℕ
entry_word F p i = (entry_from (drop (entry_at F p i) p)).word

-- "a base record must exceed the one before"
abbrev pub exceeds_before : Format → List ℕ → ℕ → Bool
exceeds_before F p zero = true
exceeds_before F p (suc i) = ltb (entry_word F p i) (entry_word F p (suc i))

-- base entry i: document 02, order 3, "a plane with it in a base entry is wrong"
abbrev pub expected_entry : Format → List ℕ → ℕ → Expected
expected_entry F p i =
    record { at = entry_at F p i; kind = entry_kind; body = entry_body; allowed = exceeds_before F p i && assignable (entry_from (drop (entry_at F p i) p)).plan }

-- "Kind 4 closes", at this offset: its body is the fixed byte string
abbrev pub expected_end : ℕ → List ℕ → Expected
expected_end at p = record { at = at; kind = end_kind; body = end_body; allowed = eq_list (take end_body (drop 1 (drop at p))) end_bytes }

-- in order
abbrev pub expected : Format → List ℕ → List Expected
expected F p =
    expected_header F p
    ∷ (map (expected_bucket F p) (count_from 0 (bucket_count p)) ++ (map (expected_entry F p) (count_from 0 (base_count p)) ++ (expected_end (end_at F (bucket_count p) (base_count p)) p ∷ [])))

-- at is the offset that cause 10 returns
abbrev pub WrongOffset : Format → List ℕ → ℕ → Type 0
WrongOffset F p at = FirstWrong p (expected F p) (plane_length F (bucket_count p) (base_count p)) at

-- no record is wrong, and nothing follows
abbrev pub RightPlane : Format → List ℕ → Type 0
RightPlane F p = NoneWrong p (expected F p) (plane_length F (bucket_count p) (base_count p))
