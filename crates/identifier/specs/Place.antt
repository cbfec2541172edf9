-- Document 01's levels and places. Level 1 uses the vector w and the place S(w), level 2 the vector w' = S(S(w)) and the place S(w').
use Rattle.std.specs.Prelude.{ℕ, ◌/◌, ◌%◌}
use Rattle.hash.specs.Mix.{mix_of, unmix_of}

-- document 01's w' of the word w
abbrev pub second_of : ℕ → ℕ
second_of w = mix_of (mix_of w)

-- the word whose w' is v
abbrev pub first_of : ℕ → ℕ
first_of v = unmix_of (unmix_of v)

-- the place of a vector v, at either level
abbrev pub place_of : ℕ → ℕ
place_of v = mix_of v

-- the number of thresholds
abbrev pub thresholds : ℕ
thresholds = 8

-- the threshold that a place gives
abbrev pub threshold_at : ℕ → ℕ
threshold_at place = place % thresholds

-- the bucket, of n, that a place gives
abbrev pub bucket_at : ℕ → ℕ → ℕ
bucket_at n place = place / thresholds % n
