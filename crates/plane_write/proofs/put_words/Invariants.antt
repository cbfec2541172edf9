-- `plane_write::put_words` meets its contract. The words before i are written.
-- Assumes nothing.
use mathlib.Core.Path.{◌≡◌}
use lib.ListN.{take}
use Rattle.codec.specs.Bytes.{to_bytes}
use Rattle.codec.specs.Parts.{written}
use Rattle.plane.specs.Record.{bytes_of, word_bytes}
use Rattle.plane_write.proofs.put_words.Given as goal

abbrev pub invariant-loop-i : goal.invariant-loop-i
invariant-loop-i l = l.out ≡ written l.at (bytes_of (to_bytes word_bytes) (take l.i l.words)) l.initial.out
