-- `bucket_settle::withdraw_all` meets its contract.
-- Assumes nothing.
use mathlib.Core.Path.{refl, sym, ap, ◌∙◌}
use Prim.Native.Nat.{◌+◌}
use lib.ListN.{length, drop}
use Rattle.lists.specs.Entries.{Entry, words}
use Rattle.bucket.specs.Bucket.{without}
use Rattle.bucket_words.specs.Words.{bucket_from, Shaped}
use Rattle.bucket_words.proofs.Words.{length-words, words-bucket}
use Rattle.bucket_words.proofs.OnWords.{withdrawn_bucket}
use Rattle.bucket_settle.specs.Settle.{withdraw_all}
use Rattle.bucket_settle.proofs.Leave.{withdraw-step, withdraw-end}
use borrow.Author.Rules.{rules}
use Rattle.bucket_settle.proofs.withdraw_all.Goals.{Start}
use Rattle.bucket_settle.proofs.withdraw_all.Goals as goal

shaped : (s : Start) → Shaped 64 8 s.args.b
shaped s = record { cols = search rules; sols = search rules }

pub loop-e-init : goal.loop-e-init
loop-e-init c = record { size = ap length c.store.ensures ∙ length-words 64 8 _ (shaped (goal.at.loop-e-init c).Start); rest = refl }

pub loop-e-preserved : goal.loop-e-preserved
loop-e-preserved c =
    let es = c.args.entries.now in
    record {
      size = search rules;
      rest = ap (withdraw_all 64 (words (drop (c.loop-e.e-index + 1) es))) (withdrawn_bucket 64 8 _ c.loop-e.left c.loop-e.invariant.size c.withdraw.ensures)
          ∙ ap (λ (x : Entry). withdraw_all 64 (words (drop (c.loop-e.e-index + 1) es)) (without 64 x.word (bucket_from 64 8 c.loop-e.left))) (c.e.view_is ∙ c.e-item.is)
          ∙ withdraw-step 64 (bucket_from 64 8 c.loop-e.left) es c.loop-e.e-index c.loop-e-test.true _
          ∙ c.loop-e.invariant.rest;
    }

pub returns : goal.returns
returns c =
    let es = c.args.entries.now in
    c.load.ensures ∙ sym (withdraw-end 64 (bucket_from 64 8 c.loop-e.left) es c.loop-e.e-index c.loop-e-test.false) ∙ c.loop-e.invariant.rest
    ∙ ap (withdraw_all 64 (words es)) (ap (bucket_from 64 8) c.store.ensures ∙ words-bucket 64 8 _ (shaped (goal.at.returns c).Start))
