-- The writer gives each number if and only if its cause is the first met, and where it is turned down the output stays as it was.
-- Assumes nothing.
use Prim.Native.Nat.{ℕ, ◌^◌, ◌<◌}
use mathlib.Core.Path.{◌≡◌, refl}
use mathlib.Core.Bool.{false, true≢false}
use mathlib.Core.List.{List, [], ◌∷◌}
use lib.Dec.{ltb, lit<}
use lib.ListN.{length, get_or}
use borrow.Author.Tests.{ltb-true, lt-ltb}
use Rattle.answer.specs.Numbers.{Answer}
use Rattle.lists.proofs.Tests.{by_test}
use Rattle.answer.specs.declared.Cause.TheVariants.{WrongTable, NotSound}
use Rattle.answer.specs.Causes.{InOrder, Exactly}
use Rattle.answer.proofs.Causes.{one_value, one_if, Given, exactly, if_met}
use Rattle.model.specs.Machine.{accepted}
use Rattle.table.specs.Calls.{rows, table_of, shaped, sound}
use Rattle.table.proofs.Causes.{table_given}
use Rattle.plane.specs.Record.{format1}
use Rattle.plane.specs.Plane.{plane_bytes}
use Rattle.plane_write.specs.Write.{plane_of, Written, turned_down, put_front, write_call}
use Rattle.plane_write.specs.Causes.{too_short, length_needed, short_output, write_causes, write_returns}

abbrev answer_of : Written → Answer
answer_of o = o.answer

pub write_order : (t out : List ℕ) → InOrder 0 (write_causes t out)
write_order t out = (lit< tt, (lit< tt, (lit< tt, tt)))

-- bytes to the front of the output
pub front_given : (bytes out : List ℕ) → Given (too_short bytes out ∷ []) (λ v. v ≡ length bytes) (put_front bytes out).answer
front_given bytes out =
    if_met answer_of 9 _ (length bytes) [] (λ v. v ≡ length bytes) (ltb (length out) (length bytes)) _ _ (ltb-true (length out) (length bytes), lt-ltb (length out) (length bytes)) (refl, refl)
    (λ f. (refl, refl))

module _ (t out : List ℕ) where
  abbrev bytes : List ℕ
  bytes = plane_bytes format1 (plane_of (table_of t))

  -- from a sound table on
  room_given : Given (short_output t out ∷ []) (write_returns t) (put_front bytes out).answer
  room_given = front_given bytes out

  pub write_exactly : ((i : ℕ) → get_or t i 0 < 2 ^ rows) → Exactly (write_causes t out) (write_returns t) (write_call t out).answer
  unfolding write_call
  write_exactly b =
      exactly (write_causes t out) (write_returns t) (write_call t out).answer (one_if 4 _ (length t), (one_if 5 _ 0, (one_if 9 _ (length_needed t), one_value (length_needed t))))
      (table_given t b answer_of (put_front bytes out) (turned_down NotSound out) (turned_down (WrongTable (length t)) out) refl refl (short_output t out ∷ []) (write_returns t) (λ k h. room_given))

  -- where 4 and 5 are not met
  pub room_exactly : Exactly (short_output t out ∷ []) (write_returns t) (put_front bytes out).answer
  room_exactly = exactly (short_output t out ∷ []) (write_returns t) (put_front bytes out).answer (one_if 9 _ (length_needed t), one_value (length_needed t)) room_given

  -- turned down, it writes nothing
  abbrev Kept : Written → Type 0
  Kept o = accepted o.answer ≡ false → o.output ≡ out

  pub refused_keeps : accepted (write_call t out).answer ≡ false → (write_call t out).output ≡ out
  unfolding write_call
  refused_keeps =
      by_test Kept (shaped t) (λ k. by_test Kept (sound t) (λ h. by_test Kept (ltb (length out) (length bytes)) (λ l r. refl) (λ l r. absurd (true≢false r))) (λ h r. refl)) (λ k r. refl)
