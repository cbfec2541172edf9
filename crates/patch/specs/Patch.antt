-- What a patch says, its bytes, the patch from one plane to another, and a plane with a patch applied; document 02, order 1. F is the format of
-- both planes.
-- Assumes nothing.
use Rattle.std.specs.Prelude.{ℕ, suc, cond, List, [], ◌∷◌, ◌++◌, length, take, drop, set}
use Rattle.codec.specs.Bytes.{eq_list}
use Rattle.lists.specs.Entries.{Entry}
use Rattle.hash.specs.Fnv.{fnv_of}
use Rattle.plane.specs.Record.{Format, bytes_of, PlaneBucket, bucket_bytes, end_record}
use Rattle.plane.specs.Plane.{Plane, plane_from}
use Rattle.patch.specs.Base.{remove_all, enter_all, gone_of, news_of}
use Rattle.patch.specs.Record.{sums_record, Change, change_record, gone_record, new_record}

-- what a patch says
pub record Patch : Type 0 where
  pub old_sum : ℕ
  pub new_sum : ℕ
  pub changes : List Change
  pub gone : List ℕ
  pub news : List Entry

-- kind 5, kind 6 for each bucket that differs, kind 7 for each base word gone, kind 8 for each base entry new or changed, kind 4
unfoldable pub patch_bytes : Format → Patch → List ℕ
patch_bytes F D =
    sums_record D.old_sum D.new_sum
    ++ (bytes_of (change_record F) D.changes ++ (bytes_of gone_record D.gone ++ (bytes_of new_record D.news ++ end_record)))

-- ---- made

-- "each bucket record that differs", from the index i on
abbrev pub changes_of : ℕ → List PlaneBucket → List PlaneBucket → List Change
changes_of i [] cs = []
changes_of i (b ∷ bs) [] = []
changes_of i (b ∷ bs) (c ∷ cs) =
    cond (eq_list (bucket_bytes b) (bucket_bytes c)) (changes_of (suc i) bs cs) (record { index = i; bucket = c } ∷ changes_of (suc i) bs cs)

-- the buckets of both levels, level 1 first
abbrev pub buckets_of : Plane → List PlaneBucket
buckets_of P = P.level1 ++ P.level2

-- from the plane P to the plane Q, with these sums
unfoldable pub between : ℕ → ℕ → Plane → Plane → Patch
between old new P Q = record {
  old_sum = old;
  new_sum = new;
  changes = changes_of 0 (buckets_of P) (buckets_of Q);
  gone = gone_of P.base Q.base;
  news = news_of P.base Q.base;
}

-- from the plane of the bytes p to that of q
abbrev pub patch_of : Format → List ℕ → List ℕ → Patch
patch_of F p q = between (fnv_of p) (fnv_of q) (plane_from F p) (plane_from F q)

-- ---- applied

-- the buckets with the changes
abbrev pub set_all : List Change → List PlaneBucket → List PlaneBucket
set_all [] bs = bs
set_all (c ∷ cs) bs = set_all cs (set bs c.index c.bucket)

-- the plane P with the patch D applied
unfoldable pub patched : Plane → Patch → Plane
patched P D = record {
  level1 = take (length P.level1) (set_all D.changes (buckets_of P));
  level2 = drop (length P.level1) (set_all D.changes (buckets_of P));
  base = enter_all D.news (remove_all D.gone P.base);
}
