-- What the tests of a patch's records go by; only their contracts cite these.
-- Assumes nothing.
use Rattle.std.specs.Prelude.{ℕ, suc, Bool, true, false, cond, ltb, Option, None, Some}
use Rattle.model.specs.Model.{base_limit}

-- the least word after the last one, if there is one
abbrev pub least_after : Option ℕ → ℕ
least_after None = 0
least_after (Some last) = suc last

-- whether a base list of `count` entries takes an entry whose word is there, or was there in the old one
abbrev pub taken : Bool → Bool → ℕ → Bool
taken there was count = cond there true (cond was false (ltb count base_limit))
