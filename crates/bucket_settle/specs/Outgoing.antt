-- How many words leave a bucket at the most, and what stands behind those that leave.
-- Assumes nothing.
use Rattle.std.specs.Prelude.{ℕ, ◌+◌, ◌-◌, List, ◌++◌, length, replicate}
use Rattle.lists.specs.Entries.{Entry}
use Rattle.bucket.specs.Bucket.{rows}

-- how many words can leave a bucket: all its rows, and the new word
abbrev pub most_outgoing : ℕ
most_outgoing = rows + 1

-- an entry of zeros
abbrev pub zero_entry : Entry
zero_entry = record { word = 0; plan = 0 }

-- the entries, then entries of zeros, m in all
abbrev pub padded : ℕ → List Entry → List Entry
padded m es = es ++ replicate (m - length es) zero_entry
