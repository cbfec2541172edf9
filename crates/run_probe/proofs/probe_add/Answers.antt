-- `run_probe::probe_add` meets its contract: the outcomes of the step.
-- Assumes nothing.
use Prim.Native.Nat.{ℕ}
use mathlib.Core.Path.{ap, ◌∙◌}
use mathlib.Core.List.{List}
use Rattle.gf2.specs.Vectors.{product}
use Rattle.bucket.specs.Bucket.{add}
use Rattle.bucket_words.specs.Words.{bucket_from}
use Rattle.run_probe.proofs.Steps.{wrong, not_done, was-done}
use Rattle.run_probe.proofs.probe_add.Goals as goal

pub returns-then-part-ne-WORDS : goal.returns-then-part-ne-WORDS
returns-then-part-ne-WORDS c = wrong (add 64 c.args.k c.args.plan) c.args.part.now c.if-part-ne-WORDS.true

pub add_by-requires : goal.add_by-requires
unfolding bucket_from
add_by-requires c =
    (c.if-part-ne-WORDS.false, c.product-p.ensures ∙ ap (λ (l : List ℕ). product l c.args.k) c.array_of.ensures)

pub returns-then-add_by : goal.returns-then-add_by
returns-then-add_by c =
    was-done (add 64 c.args.k c.args.plan) c.args.part.now c.if-part-ne-WORDS.false c.add_by.ensures c.if-add_by.true

pub returns : goal.returns
returns c =
    not_done (add 64 c.args.k c.args.plan) c.args.part.now c.if-part-ne-WORDS.false c.add_by.ensures c.if-add_by.false
