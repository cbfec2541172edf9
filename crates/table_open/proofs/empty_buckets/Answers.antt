-- `table_open::empty_buckets` meets its contract: i buckets are stored.
-- Assumes nothing.
use mathlib.Core.Path.{◌≡◌, ap, ◌∙◌}
use Prim.Native.Nat.{ℕ, ◌+◌, ◌-◌, ◌*◌}
use native.Mathlib.Omega.{arith}
use lib.ListN.{take}
use borrow.Rule.Slice.PartMut.{put_mid}
use Rattle.bucket_words.specs.Words.{bucket_words, words_of}
use Rattle.table.specs.Calls.{rows, solutions}
use Rattle.table_open.proofs.Opened.{level_more}
use Rattle.table_open.proofs.empty_buckets.Goals as goal

pub loop-i-preserved : goal.loop-i-preserved
loop-i-preserved c =
    let w : ℕ = bucket_words rows solutions in
    let at : ℕ = c.loop-i.i * w in
    let e : (c.loop-i.i + 1) * w ≡ at + w = omega arith in
    ap (λ (k : ℕ). take k (put_mid at (at + w - at) c.loop-i.words c.store.new.part)) e
    ∙ level_more rows solutions c.loop-i.i at c.loop-i.words c.store.new.part (at + w - at) (omega arith) (c.store.ensures ∙ ap words_of c.empty-empty.ensures) c.loop-i.invariant
