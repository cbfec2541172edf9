-- `codec::number` meets its contract. The loop's invariant: x is the number of the bytes that stand after those that are left.
-- Assumes nothing.
use Rattle.std.proofs.Common.{◌≡◌, ℕ, ◌^◌, ◌<◌, List, ◌++◌, length}
use Rattle.std.specs.Iterator.Adapters.{rev_source}
use Rattle.std.specs.Slice.Iter.{iter_rest}
use Rattle.codec.specs.Bytes.{from_bytes}
use Rattle.codec.proofs.number.Given as goal

abbrev pub invariant-loop-b : goal.invariant-loop-b
invariant-loop-b l =
    (read : List ℕ) × (l.s ≡ iter_rest (rev_source l.b-iterator) ++ read) × (l.x ≡ from_bytes read) × (l.x < 256 ^ length read)
