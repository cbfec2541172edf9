-- What order 1 leaves to a reader, as one computed check of the definitions: where a patch is wrong, in a format without solution words, for a
-- plane of 1 and 1 buckets and the base words 5 and 9, and for one of 64 base words.
-- Assumes nothing.
use mathlib.Core.Path.{◌≡◌, refl}
use mathlib.Core.List.{List, [], ◌∷◌, ◌++◌, map}
use Prim.Native.Nat.{ℕ}
use Rattle.std.specs.Prelude.{Result, Ok, Err}
use Rattle.codec.specs.Bytes.{from_bytes, to_bytes, eq_list}
use Rattle.lists.specs.Lists.{count_from}
use Rattle.lists.specs.Entries.{Entry}
use Rattle.plane.specs.Record.{Format, bytes_of, read_all, end_record}
use Rattle.plane.specs.Plane.{Plane}
use Rattle.patch.specs.Record.{sums_record, change_record, gone_record, new_record}
use Rattle.patch.specs.Wrong.{run, changes_in, gone_in, news_in, patch_from, changes_wrong, gone_wrong, news_wrong, patch_wrong_at}

-- format 1 but for the solution words
abbrev short : Format
short = record { number = 1; words = 0; bucket_kind = 2; change_kind = 6 }

abbrev plane : List Entry → Plane
plane base = record { level1 = record { bound = 8; sols = [] } ∷ []; level2 = record { bound = 8; sols = [] } ∷ []; base = base }

abbrev P : Plane
P = plane (record { word = 5; plan = 1 } ∷ record { word = 9; plan = 2 } ∷ [])

-- 64 base words, 1 to 64
abbrev Full : Plane
Full = plane (map (λ w. record { word = w; plan = 0 }) (count_from 1 64))

-- kind 5 (17 bytes here and always), 6 (3 bytes here), 7 (9), 8 (10)
abbrev five : List ℕ
five = sums_record 0 0

abbrev six : ℕ → ℕ → List ℕ
six i bound = change_record short (record { index = i; bucket = record { bound = bound; sols = [] } })

abbrev seven : ℕ → List ℕ
seven w = gone_record w

abbrev eight : ℕ → ℕ → List ℕ
eight w p = new_record (record { word = w; plan = p })

abbrev four : List ℕ
four = end_record

abbrev wrong : List ℕ → Result (Unit {0}) ℕ
wrong d = patch_wrong_at short P d

pub readings :
    map wrong (
    -- right: no change; every kind; records that change nothing
    (five ++ four) ∷ (five ++ six 0 3 ++ six 1 0 ++ seven 5 ++ eight 6 7 ++ eight 9 9 ++ four) ∷ (five ++ six 0 8 ++ eight 5 1 ++ four)
    -- kind 5 missing at the front, cut, or repeated
    ∷ [] ∷ four ∷ (5 ∷ 0 ∷ []) ∷ (five ++ five ++ four)
    -- 6 after 7, 6 after 8, 7 after 8
    ∷ (five ++ seven 5 ++ six 0 1 ++ four) ∷ (five ++ eight 6 1 ++ six 0 1 ++ four) ∷ (five ++ eight 6 1 ++ seven 5 ++ four)
    -- not strictly ascending
    ∷ (five ++ six 1 1 ++ six 0 1 ++ four) ∷ (five ++ six 1 1 ++ six 1 1 ++ four) ∷ (five ++ seven 9 ++ seven 5 ++ four) ∷ (five ++ eight 6 1 ++ eight 6 1 ++ four)
    -- an index or a bound out of range, a word absent, a word also in kind 7
    ∷ (five ++ six 2 1 ++ four) ∷ (five ++ six 0 9 ++ four) ∷ (five ++ seven 6 ++ four) ∷ (five ++ seven 5 ++ eight 5 1 ++ four)
    -- a record cut, kind 4 missing, another kind, kind 4 wrong, bytes after it
    ∷ (five ++ (6 ∷ 0 ∷ [])) ∷ five ∷ (five ++ six 0 1) ∷ (five ++ (9 ∷ [])) ∷ (five ++ (4 ∷ 0x45 ∷ 0x4e ∷ 0x44 ∷ 0 ∷ [])) ∷ (five ++ four ++ (0 ∷ []))
    ∷ []
    )
    ≡ Ok tt ∷ Ok tt ∷ Ok tt
    ∷ Err 0 ∷ Err 0 ∷ Err 0 ∷ Err 17
    ∷ Err 26 ∷ Err 27 ∷ Err 27
    ∷ Err 20 ∷ Err 20 ∷ Err 26 ∷ Err 27
    ∷ Err 17 ∷ Err 17 ∷ Err 17 ∷ Err 26
    ∷ Err 17 ∷ Err 17 ∷ Err 20 ∷ Err 17 ∷ Err 17 ∷ Err 22
    ∷ []
unfolding patch_wrong_at changes_wrong gone_wrong news_wrong changes_in gone_in news_in run patch_from read_all bytes_of from_bytes to_bytes eq_list
readings = refl

-- the 65th entry is counted after the words gone, at the kind 8 record that makes it; a word that is there makes none
pub readings_full :
    map (patch_wrong_at short Full) (
    (five ++ eight 100 0 ++ four) ∷ (five ++ eight 3 1 ++ four) ∷ (five ++ seven 7 ++ eight 100 0 ++ four) ∷ (five ++ seven 7 ++ eight 3 1 ++ eight 100 0 ++ eight 101 0 ++ four) ∷ []
    )
    ≡ Err 17 ∷ Ok tt ∷ Ok tt ∷ Err 46 ∷ []
unfolding patch_wrong_at changes_wrong gone_wrong news_wrong changes_in gone_in news_in run patch_from read_all bytes_of from_bytes to_bytes eq_list
readings_full = refl
