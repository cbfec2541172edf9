-- `table_arrive::fallen_at` meets its contract.
-- Assumes nothing.
use mathlib.Core.Path.{ap, ◌∙◌, subst⁻¹}
use Rattle.bucket.specs.declared.Bucket.{Bucket}
use Rattle.bucket.specs.Bucket.{add}
use Rattle.bucket_settle.specs.Settle.{SoundBucket, threshold_of, settle}
use Rattle.bucket_fall.specs.Settled.{settled_of}
use Rattle.table.specs.Calls.{rows, solutions}
use Rattle.table_arrive.proofs.fallen_at.Goals as goal

pub fall-requires : goal.fall-requires
fall-requires c =
    (subst⁻¹ (SoundBucket rows solutions) c.bucket_at.ensures c.requires.1.0, ap (λ (b : Bucket). add rows c.args.v c.args.plan b) c.bucket_at.ensures ∙ c.requires.1.1)

pub returns : goal.returns
returns c =
    c.fall.ensures ∙ ap (λ (b : Bucket). settled_of (settle 64 threshold_of (record { word = c.args.v; plan = c.args.plan }) b.bound b)) c.bucket_at.ensures
