-- `patch_make::put_news` meets its contract. The first entries are looked at; `left` is what is left of the old base list.
-- Assumes nothing.
use Rattle.patch.specs.Record.{new_length, new_record}
use Rattle.patch_make.proofs.Put.{new_size, Sending, changed}
use Rattle.patch_make.proofs.put_news.Given as goal

abbrev pub invariant-loop-e : goal.invariant-loop-e
invariant-loop-e l = Sending new_record new_length new_size (changed l.new l.old) l.new l.old l.first l.initial.out l.e-index l.left l.at l.out
