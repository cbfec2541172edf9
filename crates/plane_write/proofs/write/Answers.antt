-- `plane_write::write` meets its contract: each return by the tests that led there.
-- Assumes nothing.
use mathlib.Core.Path.{refl, sym}
use Rattle.plane_write.specs.Write.{write_call}
use Rattle.plane_write.proofs.write.Goals as goal

pub returns-then-not-shaped : goal.returns-then-not-shaped
unfolding write_call
returns-then-not-shaped c = rw (sym c.if-not-shaped.ensures) (refl, refl)

pub returns-then-not-sound : goal.returns-then-not-sound
unfolding write_call
returns-then-not-sound c = rw (sym c.if-not-shaped.ensures, sym c.if-not-sound.ensures) (refl, refl)

pub returns : goal.returns
unfolding write_call
returns c = rw (sym c.if-not-shaped.ensures, sym c.if-not-sound.ensures) c.write_sound.ensures
