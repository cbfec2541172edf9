-- What the inner functions of applying answer and leave; only their contracts cite these. F is the format of the planes.
-- Assumes nothing.
use Rattle.std.specs.Prelude.{ℕ, ◌+◌, ◌*◌, cond, List, [], ◌∷◌, eqb}
use Rattle.codec.specs.Parts.{written}
use Rattle.hash.specs.Fnv.{fnv_of}
use Rattle.answer.specs.declared.Cause.TheVariants.{WrongSum}
use Rattle.plane.specs.Record.{Format, bucket_length, bucket_bytes}
use Rattle.plane.specs.Plane.{buckets_at}
use Rattle.plane_write.specs.Write.{Written, turned_down, put_front}
use Rattle.patch.specs.Record.{Change}
use Rattle.patch.specs.Calls.{applied, sums_fit}

-- a plane's bytes with each bucket that differs written over the old one, after the kind byte
abbrev pub changed : Format → List Change → List ℕ → List ℕ
changed F [] q = q
changed F (c ∷ cs) q = changed F cs (written (buckets_at + c.index * bucket_length F + 1) (bucket_bytes c.bucket) q)

-- the bytes to the front of the output, if `sum` is theirs: cause 13, then 9
abbrev pub summed : ℕ → List ℕ → List ℕ → Written
summed sum bytes out = cond (eqb sum (fnv_of bytes)) (put_front bytes out) (turned_down WrongSum out)

-- what a patch that is wrong nowhere leaves: cause 13, then 9
abbrev pub applied_right : Format → List ℕ → List ℕ → List ℕ → Written
applied_right F p d out = cond (sums_fit F p d) (put_front (applied F p d) out) (turned_down WrongSum out)
