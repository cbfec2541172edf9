-- Document 01's FNV-1a 64.
use Rattle.std.specs.Prelude.{ℕ, ◌*◌, ◌%◌, ◌^◌, List, bit_xor, fold}

-- one byte: XOR it in, multiply by the prime, keep 64 bits
abbrev pub fnv_step : ℕ → ℕ → ℕ
fnv_step h b = (bit_xor h b * 0x100000001b3) % 2 ^ 64

-- each byte in turn, from h on
unfoldable pub fnv_from : ℕ → List ℕ → ℕ
fnv_from = fold fnv_step

-- the hash starts from this
abbrev pub fnv_start : ℕ
fnv_start = 0xcbf29ce484222325

-- FNV-1a 64 of the bytes
abbrev pub fnv_of : List ℕ → ℕ
fnv_of bs = fnv_from fnv_start bs
