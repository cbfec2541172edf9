-- `table_edit::change_bucket` meets its contract: where v is not live, the words stay.
-- Assumes nothing.
use mathlib.Core.Path.{◌≡◌, sym, ap, ◌∙◌}
use Rattle.std.specs.Prelude.{Option, None, unwrap_or}
use Rattle.bucket.specs.declared.Bucket.{Bucket}
use Rattle.bucket.specs.Bucket.{change}
use Rattle.bucket_words.specs.Words.{words_of, bucket_from}
use Rattle.bucket_words.proofs.Words.{words-all}
use Rattle.table.specs.Calls.{rows, solutions}
use Rattle.table_edit.proofs.change_bucket.Goals as goal

pub returns-in_default : goal.returns-in_default
returns-in_default c =
    let b = bucket_from rows solutions c.args.part.now in
    let none : change rows c.args.v c.args.plan b ≡ None = ap (change rows c.args.v c.args.plan) (sym c.load.ensures) ∙ sym c.change.ensures ∙ c.in_default.is in
    sym (words-all rows solutions c.args.part.now c.requires) ∙ ap (λ (o : Option Bucket). words_of (unwrap_or o b)) (sym none)
