-- The definitions run: document 01's session, from the bytes to the answers, one letter under seven kinds, and a bound that falls.
-- Assumes nothing.
use Prim.Native.Nat.{ℕ}
use mathlib.Core.Path.{◌≡◌, refl}
use mathlib.Core.List.{[], ◌∷◌, map}
use Rattle.std.specs.Prelude.{Ok, Err}
use Rattle.hash.specs.Mix.{mix_of}
use Rattle.hash.specs.Fnv.{fnv_from}
use Rattle.answer.specs.declared.Cause.TheVariants.{WrongByte, Live, NotLive, WrongKind}
use Rattle.identifier.specs.Identifier.{Token, token, allowed, folded, word_of, first_refused, read_of}
use Rattle.model.specs.Levels.{Level}
use Rattle.model.specs.Model.{Size, add, change, withdraw, query, opened}
use Rattle.model.specs.Request.{ask}
use Rattle.model.specs.Machine.{after, answers}
use Rattle.model.specs.History.{word_model, model}

Bus-17 : Token
Bus-17 = token 2 (0x42 ∷ 0x75 ∷ 0x73 ∷ 0x2d ∷ 0x31 ∷ 0x37 ∷ [])

BUS-17 : Token
BUS-17 = token 2 (0x42 ∷ 0x55 ∷ 0x53 ∷ 0x2d ∷ 0x31 ∷ 0x37 ∷ [])

bus_17 : Token
bus_17 = token 2 (0x62 ∷ 0x75 ∷ 0x73 ∷ 0x2d ∷ 0x31 ∷ 0x37 ∷ [])

b_uS_17 : Token
b_uS_17 = token 2 (0x62 ∷ 0x55 ∷ 0x53 ∷ 0x2d ∷ 0x31 ∷ 0x37 ∷ [])

Tram_2 : Token
Tram_2 = token 2 (0x54 ∷ 0x72 ∷ 0x61 ∷ 0x6d ∷ 0x5f ∷ 0x32 ∷ [])

tram_2 : Token
tram_2 = token 2 (0x74 ∷ 0x72 ∷ 0x61 ∷ 0x6d ∷ 0x5f ∷ 0x32 ∷ [])

a/b : Token
a/b = token 2 (0x61 ∷ 0x2f ∷ 0x62 ∷ [])

-- a bucket at each level
abbrev small : Size
small = record { buckets1 = 1; buckets2 = 1 }

-- after `open 1 1`, with kind 2 throughout
session :
    answers model (opened small)
    (map ask
    (add Bus-17 40 ∷ add BUS-17 41 ∷ query bus_17 ∷ change b_uS_17 9 ∷ add Tram_2 0
    ∷ withdraw BUS-17 ∷ query BUS-17 ∷ query tram_2 ∷ add a/b 3 ∷ []))
    ≡ Ok 1 ∷ Err (Live 40) ∷ Ok 40 ∷ Ok 40 ∷ Ok 2 ∷ Ok 9 ∷ Err NotLive ∷ Ok 0 ∷ Err (WrongByte 1) ∷ []
unfolding Bus-17 BUS-17 bus_17 b_uS_17 Tram_2 tram_2 a/b mix_of fnv_from allowed folded word_of first_refused read_of
session = refl

-- the letter A of each kind
A : ℕ → Token
A kind = token kind (0x41 ∷ [])

-- has its own plan
seven :
    answers model (opened small)
    (map ask
    (add (A 1) 10 ∷ add (A 2) 20 ∷ add (A 3) 30 ∷ add (A 4) 40 ∷ add (A 5) 50 ∷ add (A 6) 60 ∷ add (A 7) 70 ∷ add (A 8) 80
    ∷ query (A 0) ∷ query (A 1) ∷ query (A 2) ∷ query (A 3) ∷ query (A 4) ∷ query (A 5) ∷ query (A 6) ∷ query (A 7) ∷ []))
    ≡ Ok 1 ∷ Ok 2 ∷ Ok 3 ∷ Ok 4 ∷ Ok 5 ∷ Ok 6 ∷ Ok 7 ∷ Err WrongKind
    ∷ Err WrongKind ∷ Ok 10 ∷ Ok 20 ∷ Ok 30 ∷ Ok 40 ∷ Ok 50 ∷ Ok 60 ∷ Ok 70 ∷ []
unfolding A mix_of fnv_from allowed folded word_of first_refused read_of
seven = refl

-- a level that takes the word itself for vector and place
plain : Level
plain = record { vector = λ w. w; place = λ w. w }

-- 6 is 3 XOR 5, and its threshold 6: the first level's bound falls to 6, and the word goes on to the second
falls : after (word_model plain plain) (opened small) (add 5 40 ∷ add 3 0 ∷ add 6 1 ∷ [])
    ≡ record {
      size = small;
      live = record { word = 3; plan = 0 } ∷ record { word = 5; plan = 40 } ∷ record { word = 6; plan = 1 } ∷ [];
      bounds1 = 6 ∷ [];
      bounds2 = 8 ∷ [];
    }
unfolding plain
falls = refl
