-- FNV-1a 64 loses nothing of what came before: the same bytes after two different hashes keep them apart, so two first bytes before the same others
-- give two hashes. Assumes nothing.
use Rattle.std.proofs.Common.{◌≡◌, ℕ, ◌*◌, ◌^◌, ◌<◌, List, [], ◌∷◌, sym, refl, ap, ◌∙◌, mod-lt, lit<, pow_pos}
use lib.Bits.{bit_xor, xor_lt, xor_comm}
use Rattle.gf2.proofs.Bit.{xor_out}
use Rattle.hash.specs.Mix.{mul_mod}
use Rattle.hash.specs.Fnv.{fnv_step, fnv_from, fnv_start, fnv_of}
use Rattle.hash.proofs.Inverse.{un_mul}

-- each is below 2^64
abbrev pub Small : List ℕ → Type 0
Small [] = Unit {0}
Small (b ∷ bs) = (b < 2 ^ 64) × Small bs

-- the prime's inverse, modulo 2^64
abbrev un_prime : ℕ
un_prime = 0xce965057aff6957b

step_lt : (h b : ℕ) → fnv_step h b < 2 ^ 64
step_lt h b = mod-lt (bit_xor h b * 0x100000001b3) (pow_pos 64)

-- a step undone; the number before `refl`'s fact is the quotient of the computed product by 2^64
step_back : (h b : ℕ) → h < 2 ^ 64 → b < 2 ^ 64 → mul_mod 64 un_prime (fnv_step h b) ≡ bit_xor h b
step_back h b k l = un_mul 64 0x100000001b3 un_prime 0xce9650590f (bit_xor h b) refl (xor_lt 64 h b k l)

xor_one : (a b c : ℕ) → bit_xor a c ≡ bit_xor b c → a ≡ b
xor_one a b c e = sym (xor_out a c) ∙ ap (λ (x : ℕ). bit_xor x c) e ∙ xor_out b c

pub step_one : (h g b : ℕ) → h < 2 ^ 64 → g < 2 ^ 64 → b < 2 ^ 64 → fnv_step h b ≡ fnv_step g b → h ≡ g
step_one h g b k l m e = xor_one h g b (sym (step_back h b k m) ∙ ap (mul_mod 64 un_prime) e ∙ step_back g b l m)

pub from_one : (h g : ℕ) (bs : List ℕ) → h < 2 ^ 64 → g < 2 ^ 64 → Small bs → fnv_from h bs ≡ fnv_from g bs → h ≡ g
unfolding fnv_from
from_one h g [] k l w e = e
from_one h g (b ∷ bs) k l w e = step_one h g b k l w.0 (from_one (fnv_step h b) (fnv_step g b) bs (step_lt h b) (step_lt g b) w.1 e)

-- FNV is one to one in its first byte
pub first_byte_one : (a b : ℕ) (bs : List ℕ) → a < 2 ^ 64 → b < 2 ^ 64 → Small bs → fnv_of (a ∷ bs) ≡ fnv_of (b ∷ bs) → a ≡ b
unfolding fnv_from
first_byte_one a b bs k l w e =
    let s : fnv_start < 2 ^ 64 = lit< tt in
    let q : fnv_step fnv_start a ≡ fnv_step fnv_start b = from_one (fnv_step fnv_start a) (fnv_step fnv_start b) bs (step_lt fnv_start a) (step_lt fnv_start b) w e in
    xor_one a b fnv_start (xor_comm a fnv_start ∙ sym (step_back fnv_start a s k) ∙ ap (mul_mod 64 un_prime) q ∙ step_back fnv_start b s l ∙ xor_comm fnv_start b)
