-- The length and the rows of the transpose, and the transpose by its bits; at every number of rows.
-- Assumes nothing.
use mathlib.Core.Path.{◌≡◌, sym, ◌∙◌, subst}
use mathlib.Core.List.{List}
use Prim.Native.Nat.{ℕ, ◌^◌, ◌<◌}
use lib.ListN.{length, get_or}
use lib.Seq.{ext_get_or}
use Rattle.lists.proofs.Keep.{tabulate-at, tabulate-length}
use Rattle.gf2.specs.Vectors.{bit, row_in}
use Rattle.gf2.proofs.Bit.{bit_below}
use Rattle.gf2.proofs.Linear.{product_lt}
use Rattle.gf2.proofs.Clear.{row-bit}
use Rattle.transpose.specs.Transposed.{transposed}

pub length-transposed : (n : ℕ) (ss : List ℕ) → length (transposed n ss) ≡ n
unfolding transposed
length-transposed n ss = tabulate-length (row_in ss) n

-- word a is row a
pub get_d_transposed : (n : ℕ) (ss : List ℕ) (a : ℕ) → a < n → get_or (transposed n ss) a 0 ≡ row_in ss a
unfolding transposed
get_d_transposed n ss a h = tabulate-at (row_in ss) n a h

-- n words of m bits, where bit i of word a was bit a of word i, of m words
pub transposed_is : (n m : ℕ) (ss r : List ℕ) → length ss ≡ m → length r ≡ n → ((a : ℕ) → get_or r a 0 < 2 ^ m)
    → ((a i : ℕ) → a < n → i < m → bit i (get_or r a 0) ≡ bit a (get_or ss i 0)) → r ≡ transposed n ss
transposed_is n m ss r hs hr f s = ext_get_or 0 r (transposed n ss) (hr ∙ sym (length-transposed n ss)) (λ a l. row a (subst (λ (n : ℕ). a < n) hr l))
  where
    row : (a : ℕ) → a < n → get_or r a 0 ≡ get_or (transposed n ss) a 0
    row a h =
        bit_below m (get_or r a 0) (row_in ss a) (f a) (subst (λ (l : ℕ). row_in ss a < 2 ^ l) hs (product_lt ss (2 ^ a))) (λ i l. s a i h l ∙ sym (row-bit ss a i))
        ∙ sym (get_d_transposed n ss a h)
