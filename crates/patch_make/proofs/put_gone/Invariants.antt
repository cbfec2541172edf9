-- `patch_make::put_gone` meets its contract. The first entries are looked at; `left` is what is left of the new base list.
-- Assumes nothing.
use Rattle.patch.specs.Record.{gone_length, gone_record}
use Rattle.patch_make.proofs.Put.{gone_size, Sending, gone}
use Rattle.patch_make.proofs.put_gone.Given as goal

abbrev pub invariant-loop-e : goal.invariant-loop-e
invariant-loop-e l = Sending (λ e. gone_record e.word) gone_length (λ e. gone_size e.word) (gone l.old l.new) l.old l.new l.first l.initial.out l.e-index l.left l.at l.out
