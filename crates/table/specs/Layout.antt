-- The table as a list of numbers, for buckets of n rows and r solution words; at 64 and 8 document 01's layout.
-- Assumes nothing.
use Rattle.std.specs.Prelude.{ℕ, zero, suc, ◌+◌, ◌-◌, ◌*◌, Bool, ◌&&◌, List, [], ◌∷◌, ◌++◌, leb, length, get_or, take, drop, replicate}
use Rattle.lists.specs.Entries.{Entry}
use Rattle.bucket.specs.declared.Bucket.{Bucket}
use Rattle.bucket_words.specs.Words.{bucket_words, words_of, bucket_from}
use Rattle.model.specs.Model.{base_limit}
use Rattle.table.specs.Table.{Table, total_numbers}

-- level 1 has 1 to this many buckets
abbrev pub most_buckets1 : ℕ
most_buckets1 = 48

-- level 2 has 1 to this many buckets
abbrev pub most_buckets2 : ℕ
most_buckets2 = 32

-- the bucket numbers are in range
abbrev pub in_range : ℕ → ℕ → Bool
in_range b1 b2 = (leb 1 b1 && leb b1 most_buckets1) && (leb 1 b2 && leb b2 most_buckets2)

-- the numbers that every table has: buckets of level 1, of level 2, base count, live count
abbrev pub leading : ℕ
leading = 4

-- what stands where among them: the number of buckets of level 1
abbrev pub buckets1_at : ℕ
buckets1_at = 0

-- of level 2
abbrev pub buckets2_at : ℕ
buckets2_at = 1

-- the base count
abbrev pub base_count_at : ℕ
base_count_at = 2

-- the live count
abbrev pub live_count_at : ℕ
live_count_at = 3

-- then the totals, plan 0 first
abbrev pub totals_at : ℕ
totals_at = leading

-- the numbers before the buckets
abbrev pub header : ℕ
header = leading + total_numbers

-- the numbers of the base list: a pair for each entry, used or not
abbrev pub base_numbers : ℕ
base_numbers = 2 * base_limit

-- the buckets of a level, one after the other
abbrev pub level_numbers : List Bucket → List ℕ
level_numbers [] = []
level_numbers (b ∷ bs) = words_of b ++ level_numbers bs

-- pairs: w', plan
abbrev pub pair_numbers : List Entry → List ℕ
pair_numbers [] = []
pair_numbers (e ∷ es) = e.word ∷ e.plan ∷ pair_numbers es

-- the base pairs, and 0 for the unused ones
abbrev pub base_pairs : List Entry → List ℕ
base_pairs es = pair_numbers es ++ replicate (base_numbers - 2 * length es) 0

-- the numbers before the buckets of a table
abbrev pub heads : Table → List ℕ
heads T = length T.level1 ∷ length T.level2 ∷ length T.base ∷ T.count ∷ T.totals

-- the numbers of a table: header, level 1, level 2, base pairs
unfoldable pub numbers_of : Table → List ℕ
numbers_of T = heads T ++ (level_numbers T.level1 ++ (level_numbers T.level2 ++ base_pairs T.base))

-- m buckets from the front of the numbers
abbrev pub level_from : ℕ → ℕ → ℕ → List ℕ → List Bucket
level_from n r zero xs = []
level_from n r (suc m) xs = bucket_from n r xs ∷ level_from n r m (drop (bucket_words n r) xs)

-- k pairs from the front of the numbers
abbrev pub pairs_from : ℕ → List ℕ → List Entry
pairs_from zero xs = []
pairs_from (suc k) xs = record { word = get_or xs 0 0; plan = get_or xs 1 0 } ∷ pairs_from k (drop 2 xs)

-- the place of bucket i, level 1 first
abbrev pub bucket_place : ℕ → ℕ → ℕ → ℕ
bucket_place n r i = header + i * bucket_words n r

-- the table that the numbers hold
unfoldable pub table_from : ℕ → ℕ → List ℕ → Table
table_from n r xs =
    let b1 : ℕ = get_or xs buckets1_at 0 in
    let b2 : ℕ = get_or xs buckets2_at 0 in
    record {
      level1 = level_from n r b1 (drop (bucket_place n r 0) xs);
      level2 = level_from n r b2 (drop (bucket_place n r b1) xs);
      base = pairs_from (get_or xs base_count_at 0) (drop (bucket_place n r (b1 + b2)) xs);
      count = get_or xs live_count_at 0;
      totals = take total_numbers (drop totals_at xs);
    }

-- the length that the bucket numbers give
abbrev pub length_of : ℕ → ℕ → ℕ → ℕ → ℕ
length_of n r b1 b2 = bucket_place n r (b1 + b2) + base_numbers

-- the longest table
abbrev pub longest : ℕ → ℕ → ℕ
longest n r = length_of n r most_buckets1 most_buckets2

-- the numbers of the base pairs that are not used
abbrev pub unused_in : ℕ → ℕ → List ℕ → List ℕ
unused_in n r xs = drop (bucket_place n r (get_or xs buckets1_at 0 + get_or xs buckets2_at 0) + 2 * get_or xs base_count_at 0) xs
