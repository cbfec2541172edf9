-- The three outcomes of a step of a bucket that is handed in as its words.
-- Assumes nothing.
use mathlib.Core.Path.{◌≡◌, refl, sym, ◌∙◌}
use mathlib.Core.Bool.{Bool, true, false, true≢false}
use mathlib.Core.List.{List}
use Prim.Native.Nat.{ℕ}
use lib.ListN.{length}
use borrow.Author.Tests.{eq-eqb, ne_eqb}
use Rattle.bucket.specs.declared.Bucket.{Bucket}
use Rattle.std.specs.Prelude.{Option, Some, None, is_some, option_map, unwrap_or}
use Rattle.bucket_words.specs.Words.{bucket_words, words_of, bucket_from, Stepped}
use Rattle.table.specs.Calls.{rows, solutions}
use Rattle.run_probe.specs.Steps.{done, probed}

module _ (step : Bucket → Option Bucket) (p : List ℕ) where
  -- the number and the words that a function gives are those of the definition
  abbrev pub Gives : ℕ → List ℕ → Type 0
  Gives n ws = (n ≡ (probed step p).number) × (ws ≡ (probed step p).words)

  pub wrong : (length p ≡ bucket_words rows solutions → ⊥) → Gives 2 p
  unfolding probed
  wrong h = rw (ne_eqb (length p) (bucket_words rows solutions) h) (refl, refl)

  made : (o : Option Bucket) {ws : List ℕ} → is_some o ≡ true → ws ≡ unwrap_or (option_map words_of o) p → (1 ≡ (done p o).number) × (ws ≡ (done p o).words)
  made None e w = absurd (true≢false (sym e))
  made (Some b) e w = (refl, w)

  not_made : (o : Option Bucket) {ws : List ℕ} → is_some o ≡ false → ws ≡ unwrap_or (option_map words_of o) p → (0 ≡ (done p o).number) × (ws ≡ (done p o).words)
  not_made None e w = (refl, w)
  not_made (Some b) e w = absurd (true≢false e)

  module _ (h : length p ≡ bucket_words rows solutions) {said : Bool} {ws : List ℕ} (g : Stepped rows solutions step p said ws) where
    pub was-done : said ≡ true → Gives 1 ws
    unfolding probed
    was-done d = rw (eq-eqb (length p) (bucket_words rows solutions) h) (made (step (bucket_from rows solutions p)) (sym g.says ∙ d) g.words)

    pub not_done : said ≡ false → Gives 0 ws
    unfolding probed
    not_done d = rw (eq-eqb (length p) (bucket_words rows solutions) h) (not_made (step (bucket_from rows solutions p)) (sym g.says ∙ d) g.words)
