-- The array of an `Outgoing`: the entries in use, then entries of zeros.
-- Assumes nothing.
use Prim.Native.Nat.{ℕ, ◌+◌, ◌-◌, ◌≤◌, ◌<◌}
use native.Mathlib.Omega.{arith}
use mathlib.Core.Path.{◌≡◌, sym, ap, ◌∙◌}
use mathlib.Core.List.{List, ◌++◌}
use lib.ListN.{length, set, take, drop, replicate, length-set, length-append, length-drop, take-append-drop}
use Rattle.std.proofs.lemmas.List.{drop-drop, drop-replicate, drop-set-lt, drop_at, length-take-le}
use Rattle.lists.specs.Entries.{Entry}
use Rattle.bucket_settle.specs.Outgoing.{zero_entry, padded}

-- an array of m entries whose last m - k are zeros is its first k, padded
padded_zeros : (m k : ℕ) (xs : List Entry) → k ≤ m → length xs ≡ m → drop k xs ≡ replicate (m - k) zero_entry → padded m (take k xs) ≡ xs
padded_zeros m k xs h l q =
    ap (λ (j : ℕ). take k xs ++ replicate (m - j) zero_entry) (length-take-le k xs (omega arith))
    ∙ ap (λ (r : List Entry). take k xs ++ r) (sym q)
    ∙ take-append-drop k xs

-- in an array xs, of which the first k entries are used
module _ (m k : ℕ) (xs : List Entry) (h : k < m) (l : length xs ≡ m) (p : padded m (take k xs) ≡ xs) where
  zeros_behind : drop (k + 1) xs ≡ replicate (m - (k + 1)) zero_entry
  zeros_behind =
      let n : length (take k xs) ≡ k = length-take-le k xs (omega arith) in
      let z : drop k xs ≡ replicate (m - k) zero_entry =
      ap (drop k) (sym p) ∙ drop_at (take k xs) _ k n ∙ ap (λ (j : ℕ). replicate (m - j) zero_entry) n in
      let e : m - k - 1 ≡ m - (k + 1) = omega arith in
      sym (drop-drop 1 k xs) ∙ ap (drop 1) z ∙ drop-replicate 1 (m - k) zero_entry ∙ ap (λ (j : ℕ). replicate j zero_entry) e

  -- one more entry after them
  pub padded_push : (e : Entry) → padded m (take (k + 1) (set xs k e)) ≡ set xs k e
  padded_push e =
      padded_zeros m (k + 1) (set xs k e) (omega arith) (length-set xs k e ∙ l) (drop-set-lt (k + 1) xs k e (omega arith) ∙ zeros_behind)

  -- the entries ps in place of the first k + 1
  pub padded_insert : (ps : List Entry) → length ps ≡ k + 1 → padded m (take (k + 1) (ps ++ drop (k + 1) xs)) ≡ ps ++ drop (k + 1) xs
  padded_insert ps n =
      padded_zeros m (k + 1) (ps ++ drop (k + 1) xs) (omega arith) (omega (arith, length-append ps (drop (k + 1) xs), length-drop (k + 1) xs)) (drop_at ps (drop (k + 1) xs) (k + 1) n ∙ zeros_behind)
