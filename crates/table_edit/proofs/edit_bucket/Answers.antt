-- `table_edit::edit_bucket` meets its contract.
-- Assumes nothing.
use mathlib.Core.Path.{sym, ap, ◌∙◌}
use Rattle.bucket_words.specs.Words.{bucket_from, words_of}
use Rattle.bucket_words.proofs.OnWords.{withdrawn_all}
use Rattle.table.specs.Calls.{rows, solutions}
use Rattle.table_edit.specs.declared.Edit.{Edit}
use Rattle.table_edit.specs.Edit.{on_bucket}
use Rattle.table_edit.proofs.edit_bucket.Goals as goal

pub returns-in-Change : goal.returns-in-Change
returns-in-Change c =
    c.change_bucket.ensures ∙ ap (λ (d : Edit). words_of (on_bucket d c.args.v (bucket_from rows solutions c.args.part.now))) (sym c.in-Change.is)

pub returns-in-Withdraw : goal.returns-in-Withdraw
returns-in-Withdraw c =
    withdrawn_all rows solutions c.args.v c.args.part.now c.requires c.withdraw.ensures
    ∙ ap (λ (d : Edit). words_of (on_bucket d c.args.v (bucket_from rows solutions c.args.part.now))) (sym c.in-Withdraw.is)
