-- What the test of base entries goes by; only the contracts of inner functions cite it.
-- Assumes nothing.
use Rattle.std.specs.Prelude.{ℕ, suc, Option, None, Some}

-- the least word after the last one, if there is one
abbrev pub least_after : Option ℕ → ℕ
least_after None = 0
least_after (Some last) = suc last
