-- The steps of the functions on the words that leave. The contract of bucket_fall::fall does not cite them.
-- Assumes nothing.
use Rattle.std.specs.Prelude.{ℕ, zero, suc, Bool, false, cond, List, [], ◌∷◌, ◌++◌, eqb, ltb, length, take, drop}
use Rattle.lists.specs.Lists.{keep}
use Rattle.lists.specs.Entries.{Entry, sort}
use Rattle.bucket.specs.declared.Bucket.{Bucket}
use Rattle.bucket_settle.specs.Settle.{listed}

-- e before entry i; the last entry goes
unfoldable pub put_in : ℕ → Entry → List Entry → List Entry
put_in i e es = take (length es) (take i es ++ e ∷ drop i es)

-- how many entries stand before the first of a word larger than v
abbrev pub position_of : ℕ → List Entry → ℕ
position_of v [] = 0
position_of v (e ∷ es) = cond (ltb v e.word) 0 (suc (position_of v es))

-- of the vectors ks of b those of threshold t, with their plans, smallest first
unfoldable pub leaving_of : (ℕ → ℕ) → ℕ → Bucket → List ℕ → List Entry
leaving_of thr t b ks = sort (keep (λ e. eqb (thr e.word) t) (listed b ks))

-- v leaves: d is set, and its threshold is t
abbrev pub leaves : ℕ → (ℕ → ℕ) → ℕ → ℕ → Bool
leaves zero thr t v = false
leaves (suc d) thr t v = eqb (thr v) t
