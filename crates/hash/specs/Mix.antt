-- S, document 01's "S(n), all sums and products modulo 2^64", and its inverse.
use Rattle.std.specs.Prelude.{ℕ, zero, suc, ◌+◌, ◌*◌, ◌/◌, ◌%◌, ◌^◌, bit_xor}

-- x + c, modulo 2 ^ w
abbrev pub add_mod : ℕ → ℕ → ℕ → ℕ
add_mod w c x = (x + c) % 2 ^ w

-- x × c, modulo 2 ^ w
abbrev pub mul_mod : ℕ → ℕ → ℕ → ℕ
mul_mod w c x = (x * c) % 2 ^ w

-- x XOR x>>s
abbrev pub xor_shift : ℕ → ℕ → ℕ
xor_shift s x = bit_xor x (x / 2 ^ s)

-- document 01's constants of S: its summand
abbrev pub summand : ℕ
summand = 0x9e3779b97f4a7c15

-- its first factor
abbrev pub factor₁ : ℕ
factor₁ = 0xbf58476d1ce4e5b9

-- its second factor
abbrev pub factor₂ : ℕ
factor₂ = 0x94d049bb133111eb

-- document 01's S(n)
unfoldable pub mix_of : ℕ → ℕ
mix_of n =
    let z₁ = add_mod 64 summand n in
    let z₂ = mul_mod 64 factor₁ (xor_shift 30 z₁) in
    let z₃ = mul_mod 64 factor₂ (xor_shift 27 z₂) in
    xor_shift 31 z₃

-- x XOR x>>s XOR .. XOR x>>(k × s): undoes xor_shift s on s × (k + 1) bits
abbrev pub un_xor_shift : ℕ → ℕ → ℕ → ℕ
un_xor_shift s zero x = x
un_xor_shift s (suc k) x = bit_xor x (un_xor_shift s k (x / 2 ^ s))

-- 2^64 less the summand
abbrev pub un_summand : ℕ
un_summand = 0x61c8864680b583eb

-- the inverse of the first factor, modulo 2^64
abbrev pub un_factor₁ : ℕ
un_factor₁ = 0x96de1b173f119089

-- of the second
abbrev pub un_factor₂ : ℕ
un_factor₂ = 0x319642b2d24d8ec3

-- the inverse of S, its steps undone from the last to the first
unfoldable pub unmix_of : ℕ → ℕ
unmix_of n =
    let z₃ = un_xor_shift 31 2 n in
    let z₂ = un_xor_shift 27 2 (mul_mod 64 un_factor₂ z₃) in
    let z₁ = un_xor_shift 30 2 (mul_mod 64 un_factor₁ z₂) in
    add_mod 64 un_summand z₁
