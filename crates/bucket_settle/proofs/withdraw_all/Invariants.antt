-- `bucket_settle::withdraw_all` meets its contract.
-- Assumes nothing.
use mathlib.Core.Path.{◌≡◌}
use lib.ListN.{length, drop}
use Rattle.lists.specs.Entries.{words}
use Rattle.bucket_words.specs.Words.{bucket_words, bucket_from}
use Rattle.bucket_settle.specs.Settle.{withdraw_all}
use Rattle.bucket_settle.proofs.withdraw_all.Given as goal

abbrev pub invariant-loop-e : goal.invariant-loop-e
invariant-loop-e l = record {
  size : length l.left ≡ bucket_words 64 8;
  rest : withdraw_all 64 (words (drop l.e-index l.entries)) (bucket_from 64 8 l.left) ≡ withdraw_all 64 (words l.entries) (bucket_from 64 8 l.initial.left);
}
