-- Worked examples of the definitions, by computation.
-- Assumes nothing.
use mathlib.Core.Path.{◌≡◌, refl}
use Rattle.std.specs.Prelude.{Some, None}
use mathlib.Core.List.{[], ◌∷◌}
use lib.Count.{count_trailing_zeros}
use lib.ListN.{drop}
use Rattle.gf2.specs.Vectors.{units}
use Rattle.bucket_rows.specs.Elimination.{clear_from, pick, row_at, step_at, after, placed, eliminated, sound_rows}

-- the columns 2, 3 of M2 give the rows 3, 1; equal columns and a column 0 give none; nor does a free row that is no unit
examples :
    (sound_rows 4 3 (2 ∷ 3 ∷ 4 ∷ 8 ∷ []) ≡ Some (3 ∷ 1 ∷ 4 ∷ 8 ∷ []))
    × (sound_rows 64 3 (2 ∷ 3 ∷ drop 2 (units 64)) ≡ Some (3 ∷ 1 ∷ drop 2 (units 64)))
    × (sound_rows 4 7 (2 ∷ 3 ∷ 1 ∷ 8 ∷ []) ≡ None) × (sound_rows 4 15 (1 ∷ 2 ∷ 0 ∷ 8 ∷ []) ≡ None)
    × (sound_rows 4 1 (2 ∷ 3 ∷ 4 ∷ 8 ∷ []) ≡ None)
unfolding clear_from pick row_at step_at after placed eliminated sound_rows count_trailing_zeros
examples = (refl, refl, refl, refl, refl)
