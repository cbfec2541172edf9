-- What the inner functions of the writer read from the numbers of a table; only their contracts cite these.
-- Assumes nothing.
use Rattle.std.specs.Prelude.{ℕ, List, ◌++◌, get_or, drop}
use Rattle.lists.specs.Entries.{Entry}
use Rattle.bucket_words.specs.Words.{bucket_words, bucket_from}
use Rattle.table.specs.Layout.{header, bucket_place}
use Rattle.plane.specs.Record.{Format, bytes_of, read_all, PlaneBucket, bucket_record, entry_record, end_record}
use Rattle.plane_write.specs.Write.{seen_of}

-- the bucket in front, of n rows and r solution words, as the posts see it
abbrev pub seen_from : ℕ → ℕ → List ℕ → PlaneBucket
seen_from n r xs = seen_of (bucket_from n r xs)

-- the base pair in front
abbrev pub pair_from : List ℕ → Entry
pair_from xs = record { word = get_or xs 0 0; plan = get_or xs 1 0 }

-- the bytes after the header, for these numbers of buckets and base entries of the table that the numbers hold
abbrev pub records_of : ℕ → Format → ℕ → ℕ → List ℕ → List ℕ
records_of n F buckets entries t =
    bytes_of (bucket_record F) (read_all (bucket_words n F.words) (seen_from n F.words) buckets (drop header t))
    ++ (bytes_of entry_record (read_all 2 pair_from entries (drop (bucket_place n F.words buckets) t)) ++ end_record)
