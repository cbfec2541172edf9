-- One pass over the bytes of an identifier, as the code makes it.
-- Assumes nothing.
use Rattle.std.specs.Prelude.{ℕ, suc, cond, List, [], ◌∷◌, Ok, Err}
use Rattle.answer.specs.Numbers.{Answer}
use Rattle.answer.specs.declared.Cause.TheVariants.{WrongByte}
use Rattle.hash.specs.Mix.{mix_of}
use Rattle.hash.specs.Fnv.{fnv_step}
use Rattle.identifier.specs.Identifier.{allowed, folded}

-- the bytes from index i on, h being the hash of what comes before them
unfoldable pub scan : ℕ → ℕ → List ℕ → Answer
scan i h [] = Ok (mix_of h)
scan i h (b ∷ bs) = cond (allowed b) (scan (suc i) (fnv_step h (folded b)) bs) (Err (WrongByte i))
