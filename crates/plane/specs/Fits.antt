-- A plane within document 01's limits: just these have bytes that are wrong nowhere. F is the format.
-- Assumes nothing.
use Rattle.std.specs.Prelude.{ℕ, ◌^◌, ◌≤◌, ◌<◌, ◌≡◌, true, List, ◌++◌, length}
use Rattle.lists.specs.Lists.{Every}
use Rattle.lists.specs.Entries.{Entry, Ascending, assignable}
use Rattle.bucket.specs.Bucket.{largest_bound}
use Rattle.model.specs.Model.{base_limit}
use Rattle.table.specs.Layout.{in_range}
use Rattle.plane.specs.Record.{Format, word_bytes, PlaneBucket}
use Rattle.plane.specs.Plane.{Plane, plane_bytes}

-- a number of n bytes
abbrev pub Below : ℕ → ℕ → Type 0
Below n x = x < 256 ^ n

-- a bucket: its bound, the number of its solution words and their size
pub record FitsBucket (F : Format) (b : PlaneBucket) : Type 0 where
  pub low : b.bound ≤ largest_bound
  pub wide : length b.sols ≡ F.words
  pub words : Every (Below word_bytes) b.sols

-- a base entry: the size of its word, and a plan that may be given
pub record FitsEntry (e : Entry) : Type 0 where
  pub word : Below word_bytes e.word
  pub plan : assignable e.plan ≡ true

-- a plane: bucket numbers in range, at most 64 base entries, ascending, each bucket and entry within its limits
pub record Fits (F : Format) (P : Plane) : Type 0 where
  pub range : in_range (length P.level1) (length P.level2) ≡ true
  pub few : length P.base ≤ base_limit
  pub buckets : Every (FitsBucket F) (P.level1 ++ P.level2)
  pub entries : Every FitsEntry P.base
  pub ascending : Ascending P.base

-- the bytes are those of a plane that fits
pub record OfPlane (F : Format) (p : List ℕ) : Type 0 where
  pub plane : Plane
  pub fits : Fits F plane
  pub bytes : plane_bytes F plane ≡ p
