-- A test of each number below n, by one computation.
-- Assumes nothing.
use mathlib.Core.Path.{◌≡◌, sym, subst}
use mathlib.Core.Bool.{Bool, true, ◌&&◌}
use Prim.Native.Nat.{ℕ, zero, suc, ◌<◌}
use native.Mathlib.Decide.{ℕ_discrete}
use native.Mathlib.Omega.{arith}
use lib.Dec.{T}
use Rattle.lists.proofs.Tests.{and_l, and_r}

-- each number below n passes the test
unfoldable pub every : ℕ → (ℕ → Bool) → Bool
every zero f = true
every (suc n) f = f n && every n f

pub every-at : (n : ℕ) (f : ℕ → Bool) → T (every n f) → (a : ℕ) → a < n → T (f a)
unfolding every
every-at zero f t a h = absurd (omega arith)
every-at (suc n) f t a h = go (ℕ_discrete a n) (λ l. every-at n f (and_r (f n) (every n f) t) a l)
  where
    go : Dec (a ≡ n) → (a < n → T (f a)) → T (f a)
    go (yes e) ih = subst (λ (a : ℕ). T (f a)) (sym e) (and_l (f n) (every n f) t)
    go (no ne) ih = ih (omega arith)
