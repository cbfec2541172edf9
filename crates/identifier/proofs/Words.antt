-- Words and places: identifiers of one kind that differ only in the case of letters a to z have the same word, the same letters under two kinds have two,
-- every word and vector is below 2^64, and the vector at level 2 determines the word. Assumes nothing.
use mathlib.Core.Path.{◌≡◌, refl, sym, ap, ap₂, ◌∙◌, subst}
use mathlib.Core.Bool.{true}
use mathlib.Core.List.{List, [], ◌∷◌, map}
use Prim.Native.Nat.{ℕ, suc, ◌^◌, ◌<◌, suc-le-suc}
use native.Mathlib.Nat.{zero-lt-suc, lt_of_lt_of_le, lt_of_le_of_lt}
use lib.Dec.{lit<, lit≤}
use lib.ListN.{length, length-map}
use lib.Seq.{take-length}
use Rattle.hash.specs.Mix.{mix_of, unmix_of}
use Rattle.hash.specs.Fnv.{fnv_of}
use Rattle.hash.proofs.Inverse.{mix_lt, unmix_mix, mix_one_to_one}
use Rattle.hash.proofs.FnvLaws.{fnv_lt}
use Rattle.hash.proofs.FnvOne.{Small, first_byte_one}
use Rattle.identifier.specs.Identifier.{Token, id_bytes, token, allowed, folded, refused_from, hashed, word_of, last_kind, is_kind, first_refused, read_of, only_case}
use Rattle.identifier.specs.Causes.{AllowedTo}
use Rattle.identifier.specs.Place.{second_of, first_of}
use Rattle.std.specs.Prelude.{Ok}
use Rattle.identifier.proofs.Folding.{between_parts, allowed-folded, entry-allowed, entry-low, case_folded}
use Rattle.identifier.proofs.Causes.{read_word}

-- ---- what a reading depends on

-- a call is handed all of the bytes
pub token-bytes : (k : ℕ) (s : List ℕ) → id_bytes (token k s) ≡ s
token-bytes k s = take-length s

first-folded : (s : List ℕ) → first_refused (map folded s) ≡ first_refused s
unfolding first_refused
first-folded [] = refl
first-folded (b ∷ s) = rw (allowed-folded b, first-folded s)

module _ (i j : Token) (k : i.kind ≡ j.kind) where
  -- kind, stated length and the bytes of that length: what follows them is not read
  pub rest_unread : i.stated ≡ j.stated → id_bytes i ≡ id_bytes j → read_of i ≡ read_of j
  unfolding read_of word_of
  rest_unread n b = rw (b, k, n)

  -- identifiers of one kind that differ only in the case of letters a to z have the same word
  pub word_case : only_case (id_bytes i) (id_bytes j) ≡ true → word_of i ≡ word_of j
  unfolding word_of
  word_case e = ap₂ (λ (k : ℕ) (l : List ℕ). mix_of (fnv_of (k ∷ l))) k (case_folded (id_bytes i) (id_bytes j) e)

  -- and are found to be the same
  pub read_case : i.stated ≡ j.stated → only_case (id_bytes i) (id_bytes j) ≡ true → read_of i ≡ read_of j
  unfolding read_of
  read_case n e =
      let c : map folded (id_bytes i) ≡ map folded (id_bytes j) = case_folded (id_bytes i) (id_bytes j) e in
      let f : first_refused (id_bytes i) ≡ first_refused (id_bytes j) = sym (first-folded (id_bytes i)) ∙ ap first_refused c ∙ first-folded (id_bytes j) in
      let l : length (id_bytes i) ≡ length (id_bytes j) = sym (length-map (id_bytes i) folded) ∙ ap length c ∙ length-map (id_bytes j) folded in
      rw (word_case e, f, l, k, n)

-- ---- kinds

hashed-small : (s : List ℕ) → AllowedTo s (length s) → Small (map folded s)
hashed-small [] h = tt
hashed-small (b ∷ s) h =
    let a : allowed b ≡ true = h 0 (zero-lt-suc (length s)) in
    (lt_of_lt_of_le (subst (λ (n : ℕ). n < refused_from) (entry-allowed b a) (entry-low b a)) (lit≤ tt), hashed-small s (λ j l. h (suc j) (suc-le-suc l)))

kind_small : (k : ℕ) → is_kind k ≡ true → k < 2 ^ 64
kind_small k e = lt_of_le_of_lt (between_parts 1 last_kind k e).1 (lit< tt)

-- the same letters under two kinds have two words: FNV is one to one in its first byte, and so is S in all
pub kinds_differ : (i j : Token) (v w : ℕ) → read_of i ≡ Ok v → read_of j ≡ Ok w → only_case (id_bytes i) (id_bytes j) ≡ true → (i.kind ≡ j.kind → ⊥) → v ≡ w → ⊥
unfolding word_of
kinds_differ i j v w f g e ne q =
    let p = (read_word i v).0 f in
    let r = (read_word j w).0 g in
    let c : map folded (id_bytes i) ≡ map folded (id_bytes j) = case_folded (id_bytes i) (id_bytes j) e in
    let m : fnv_of (hashed i) ≡ fnv_of (hashed j) = mix_one_to_one _ _ (fnv_lt (hashed i)) (fnv_lt (hashed j)) (sym p.3 ∙ q ∙ r.3) in
    ne (first_byte_one i.kind j.kind (map folded (id_bytes i)) (kind_small i.kind p.0) (kind_small j.kind r.0) (hashed-small (id_bytes i) p.2)
    (m ∙ ap (λ (l : List ℕ). fnv_of (j.kind ∷ l)) (sym c)))

-- ---- words and vectors

pub word_lt : (i : Token) → word_of i < 2 ^ 64
unfolding word_of
word_lt i = mix_lt (fnv_of (hashed i))

pub second_lt : (w : ℕ) → second_of w < 2 ^ 64
second_lt w = mix_lt (mix_of w)

-- the vector at level 2 determines the word
pub first-second : (w : ℕ) → w < 2 ^ 64 → first_of (second_of w) ≡ w
first-second w h = ap unmix_of (unmix_mix (mix_of w) (mix_lt w)) ∙ unmix_mix w h

pub second_one_to_one : (v w : ℕ) → v < 2 ^ 64 → w < 2 ^ 64 → second_of v ≡ second_of w → v ≡ w
second_one_to_one v w hv hw e = mix_one_to_one v w hv hw (mix_one_to_one (mix_of v) (mix_of w) (mix_lt v) (mix_lt w) e)
