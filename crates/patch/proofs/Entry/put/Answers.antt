-- `patch::Entry::put` meets its contract.
-- Assumes nothing.
use mathlib.Core.Path.{refl, ap, ◌∙◌}
use mathlib.Core.List.{◌∷◌}
use native.Mathlib.Omega.{arith}
use lib.ListN.{length-set}
use Rattle.lists.specs.Entries.{Entry}
use Rattle.codec.specs.Parts.{written}
use Rattle.codec.proofs.Part.{length-written}
use Rattle.plane.specs.Record.{entry_bytes}
use Rattle.plane_write.proofs.Put.{entry-put}
use Rattle.patch.proofs.Entry.put.Goals as goal

pub bounds-out-at-2 : goal.bounds-out-at-2
bounds-out-at-2 c = rw c.put_u64.ensures (simp (length-written, length-set) (omega arith))

pub shape_of-out : goal.shape_of-out
shape_of-out c = rw (length-set, c.put_u64.ensures) (simp (length-written, length-set) refl)

pub returns : goal.returns
returns c =
    entry-put c.args.kind c.args.at c.self.inside.word c.self.inside.plan c.args.out.now c.put_u64.new.d c.put_u64.ensures
    ∙ ap (λ (e : Entry). written c.args.at (c.args.kind ∷ entry_bytes e) c.args.out.now) c.self.view_is
