-- A patch within order 1's limits, for the plane P: just these have bytes that are wrong nowhere. F is the format.
-- Assumes nothing.
use Rattle.std.specs.Prelude.{ℕ, ◌≡◌, true, List}
use Rattle.lists.specs.Lists.{Every}
use Rattle.plane.specs.Record.{Format, word_bytes}
use Rattle.plane.specs.Plane.{Plane}
use Rattle.plane.specs.Fits.{Below, FitsBucket, FitsEntry}
use Rattle.patch.specs.Record.{Change}
use Rattle.patch.specs.Patch.{Patch, patch_bytes}
use Rattle.patch.specs.Wrong.{allowed}

-- the bucket of a change fits; its index is a matter of the plane (`allowed`)
abbrev pub FitsChange : Format → Change → Type 0
FitsChange F c = FitsBucket F c.bucket

-- each value within its bytes, bounds of at most 8, and plans that may be given
pub record Sized (F : Format) (D : Patch) : Type 0 where
  pub old_sum : Below word_bytes D.old_sum
  pub new_sum : Below word_bytes D.new_sum
  pub changes : Every (FitsChange F) D.changes
  pub gone : Every (Below word_bytes) D.gone
  pub news : Every FitsEntry D.news

-- and the plane allows it
pub record FitsPatch (F : Format) (P : Plane) (D : Patch) : Type 0 where
  pub sized : Sized F D
  pub allows : allowed P D ≡ true

-- the bytes are those of a patch that fits
pub record OfPatch (F : Format) (P : Plane) (d : List ℕ) : Type 0 where
  pub patch : Patch
  pub fits : FitsPatch F P patch
  pub bytes : patch_bytes F patch ≡ d
