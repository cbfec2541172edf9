-- The elimination, at every width n: the columns take rows one after the other, as vectors are added to an empty bucket. For each
-- column the product with the columns so far is kept, so no ones are counted.
-- Assumes nothing.
use Rattle.std.specs.Prelude.{Bool, true, cond, Option, Some, None, ◌&&◌, List, [], ◌∷◌, ◌++◌, ℕ, zero, suc, ◌^◌, ltb, eqb, get_or, set, take, drop}
use Rattle.std.specs.Int.Bits.{bit_xor, bit_or}
use Rattle.std.specs.Int.Count.{count_trailing_zeros}
use Rattle.gf2.specs.Vectors.{bit, flip_if, outside, sol_step, units}

-- w is XORed into each number that has bit p
abbrev pub clear : ℕ → ℕ → List ℕ → List ℕ
clear p w [] = []
clear p w (x ∷ xs) = flip_if (bit p x) w x ∷ clear p w xs

-- the same from element j on
unfoldable pub clear_from : ℕ → ℕ → ℕ → List ℕ → List ℕ
clear_from j p w xs = take j xs ++ clear p w (drop j xs)

-- the same where d is set, else element j becomes y
abbrev pub passed : ℕ → ℕ → ℕ → ℕ → ℕ → List ℕ → List ℕ
passed zero j p w y xs = set xs j y
passed (suc d) j p w y xs = clear_from j p w xs

-- j where d is set, else t
abbrev pub preferred : ℕ → ℕ → ℕ → ℕ
preferred zero j t = t
preferred (suc d) j t = j

-- j if f has bit j, else the lowest bit of f, else n
unfoldable pub pick : ℕ → ℕ → ℕ → ℕ
pick n j f = preferred (bit j f) j (count_trailing_zeros n f)

-- x if it is below n
abbrev pub below : ℕ → ℕ → Option ℕ
below n x = cond (ltb x n) (Some x) None

-- prods: the products of the columns with the duals; duals: the columns to the rows so far; mark: the rows that are taken
pub record Work : Type 0 where
  pub prods : List ℕ
  pub duals : List ℕ
  pub mark : ℕ

-- the row that column j takes: its own where it can; n where the column depends on those before
unfoldable pub row_at : ℕ → ℕ → Work → ℕ
row_at n j s = pick n j (outside (get_or s.prods j 0) s.mark)

-- column j takes row p
unfoldable pub step_at : ℕ → ℕ → Work → Work
step_at j p s =
    record {
      prods = clear_from j p (bit_xor (get_or s.prods j 0) (2 ^ p)) s.prods;
      duals = sol_step (get_or s.duals p 0) (bit_xor (get_or s.prods j 0) (2 ^ p)) s.duals;
      mark = bit_or s.mark (2 ^ p);
    }

-- after the first j columns
unfoldable pub after : ℕ → List ℕ → ℕ → Work
after n cs zero = record { prods = cs; duals = units n; mark = 0 }
after n cs (suc j) = step_at j (row_at n j (after n cs j)) (after n cs j)

-- each of the first j columns has found a row
unfoldable pub placed : ℕ → List ℕ → ℕ → Bool
placed n cs zero = true
placed n cs (suc j) = placed n cs j && ltb (row_at n j (after n cs j)) n

-- the duals in the order of the columns: column i stands in the row that is the lowest bit of its product
abbrev pub ordered : ℕ → List ℕ → List ℕ → List ℕ
ordered n ds [] = []
ordered n ds (x ∷ xs) = get_or ds (count_trailing_zeros n x) 0 ∷ ordered n ds xs

-- the rows of the matrix whose inverse has the columns cs, if there are any
unfoldable pub eliminated : ℕ → List ℕ → Option (List ℕ)
eliminated n cs = cond (placed n cs n) (Some (ordered n (after n cs n).duals (after n cs n).prods)) None

-- each column has, outside the mark, its own bit alone: the columns from the i-th on
abbrev pub free_cols : ℕ → ℕ → List ℕ → Bool
free_cols i mark [] = true
free_cols i mark (c ∷ cs) = eqb (outside c mark) (outside (2 ^ i) mark) && free_cols (suc i) mark cs

-- the rows, if there are any and those outside the mark are units
unfoldable pub sound_rows : ℕ → ℕ → List ℕ → Option (List ℕ)
sound_rows n mark cs = cond (free_cols 0 mark cs) (eliminated n cs) None
