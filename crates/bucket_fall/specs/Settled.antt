-- A settlement as the code's type.
-- Assumes nothing.
use Rattle.bucket_settle.specs.Settle.{Settlement}
use Rattle.bucket_fall.specs.declared.Settled.{Settled}

-- the bucket, and the words that leave it
abbrev pub settled_of : Settlement → Settled
settled_of s = record { bucket = s.bucket; out = s.out }
