-- The parts of a right plane, as the code takes them out of its bytes. Only the contracts of inner functions cite them.
-- Assumes nothing.
use Rattle.std.specs.Prelude.{ℕ, ◌/◌, List, length}
use Rattle.lists.specs.Entries.{Entry}
use Rattle.plane.specs.Record.{format1, read_all, PlaneBucket, bucket_length, bucket_from, entry_length, entry_from}

-- the buckets that records of nothing else say
abbrev pub buckets_read : List ℕ → List PlaneBucket
buckets_read p = read_all (bucket_length format1) (bucket_from format1) (length p / bucket_length format1) p

-- the base entries
abbrev pub entries_read : List ℕ → List Entry
entries_read p = read_all entry_length entry_from (length p / entry_length) p
