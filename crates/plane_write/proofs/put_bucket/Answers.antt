-- `plane_write::put_bucket` meets its contract.
-- Assumes nothing.
use mathlib.Core.Path.{ap, ◌∙◌}
use native.Mathlib.Omega.{arith}
use lib.ListN.{length, length-set, length-take, length-drop}
use Rattle.codec.proofs.Part.{length-written, written_two}
use Rattle.bucket_words.specs.Words.{bucket_from}
use Rattle.plane_write.proofs.put_bucket.Goals as goal

pub overflow_cast-out : goal.overflow_cast-out
unfolding bucket_from
overflow_cast-out c = record { fits = c.requires.1 }

pub bounds-out-at-2 : goal.bounds-out-at-2
bounds-out-at-2 c = simp length-set (omega arith)

pub put_words-requires : goal.put_words-requires
put_words-requires c = simp (length-set, length-take, length-drop) (omega arith)

pub shape_of-out : goal.shape_of-out
shape_of-out c = ap length c.put_words.ensures ∙ simp (length-written, length-set)

pub returns : goal.returns
unfolding bucket_from
returns c = c.put_words.ensures ∙ written_two _ _ _ _ _
