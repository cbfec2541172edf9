-- The width of a word, as contracts name it.
-- Assumes nothing.
use Rattle.std.specs.Prelude.{ℕ}

-- the bits of a word, and so the rows and columns of a matrix of bits
abbrev pub width : ℕ
width = 64
