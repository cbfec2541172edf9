-- `codec::bytes` meets its contract: each call of the closure gives the byte at its index.
-- Assumes nothing.
use Rattle.std.proofs.Common.{◌≡◌, ℕ, zero, suc, ◌+◌, ◌≤◌, ◌<◌, List, get_or, arith, rules, ◌/◌, ◌%◌, ◌^◌, ◌*◌, ◌∙◌, inl, inr}
use Rattle.std.proofs.lemmas.Bool.{cases_eq}
use Rattle.std.specs.Array.{IsFromFnResultFrom}
use Rattle.std.specs.Fn.{Called}
use denote.Param.Members.{Mut}
use Rattle.codec.proofs.Round.{to_bytes_each}
use Rattle.codec.proofs.bytes.Goals as goal

-- what calls give that leave the closure f as it is
each_is : {F : Type 0} (g : Mut F (ℕ × Unit {0}) ℕ) (f : F) (h : ℕ → ℕ) (s : List ℕ) → ((i r : ℕ) (q : F) → Called g f (i, tt) r q → (q ≡ f) × (r ≡ h i))
    → (n i : ℕ) → IsFromFnResultFrom g f s i n → (k : ℕ) → i ≤ k → k < i + n → get_or s k 0 ≡ h k
each_is g f h s calls zero i w k l m = absurd (omega arith)
each_is g f h s calls (suc n) i (q, y, at, called, w) k l m =
    let (same, value) = calls i y q called in
    elim (cases_eq k i) [
      | inl e ↦ rw e (at.1 0 ∙ value)
      | inr e ↦ each_is g f h s calls n (i + 1) (rw same at w) k (omega arith) (omega arith)
    ]

pub returns : goal.returns
returns c =
    let items = c.from_fn.ensures.items in
    to_bytes_each 8 c.args.x c.from_fn.result items.long
    (λ i l. each_is _ _ (λ k. c.args.x / 2 ^ (8 * k) % 256) c.from_fn.result (λ k r q w. search rules) 8 0 items.each i (omega arith) (omega arith))
