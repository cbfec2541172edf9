-- One pass over the bytes finds what `read_of` says.
-- Assumes nothing.
use mathlib.Core.Path.{◌≡◌, refl, sym, ◌∙◌}
use mathlib.Core.Bool.{true, false, cond}
use mathlib.Core.List.{List, [], ◌∷◌, map}
use Prim.Native.Nat.{ℕ, suc, ◌+◌, ◌≤◌, ◌<◌}
use native.Mathlib.Nat.{add-zero, add-suc, suc-add, zero-add, zero-lt-suc}
use native.Mathlib.Omega.{arith}
use lib.Dec.{ltb, leb-suc-suc}
use lib.ListN.{length, drop, get_or}
use lib.Seq.{drop-cons}
use borrow.Author.Tests.{lt-ltb}
use Rattle.answer.specs.Numbers.{Answer}
use Rattle.answer.specs.declared.Cause.TheVariants.{WrongByte}
use Rattle.hash.specs.Mix.{mix_of}
use Rattle.hash.specs.Fnv.{fnv_step, fnv_from, fnv_start}
use Rattle.identifier.specs.Identifier.{Token, id_bytes, is_kind, sized, allowed, folded, refused_from, fold_of, word_of, first_refused, read_of}
use Rattle.identifier.specs.Scan.{scan}
use Rattle.std.specs.Prelude.{Ok, Err}
use Rattle.identifier.proofs.Folding.{by_test, entry-allowed, entry_refused, entry-low}

-- what a scan of s finds
abbrev found : ℕ → ℕ → List ℕ → Answer
found i h s = cond (ltb (first_refused s) (length s)) (Err (WrongByte (i + first_refused s))) (Ok (mix_of (fnv_from h (map folded s))))

scan-next : (i h b : ℕ) (s : List ℕ) → allowed b ≡ true → scan i h (b ∷ s) ≡ scan (suc i) (fnv_step h (folded b)) s
unfolding scan
scan-next i h b s e = rw e

scan-here : (i h b : ℕ) (s : List ℕ) → allowed b ≡ false → scan i h (b ∷ s) ≡ Err (WrongByte i)
unfolding scan
scan-here i h b s e = rw e

pub scan-end : (i h : ℕ) → scan i h [] ≡ Ok (mix_of h)
unfolding scan
scan-end i h = refl

scan-found : (i h : ℕ) (s : List ℕ) → scan i h s ≡ found i h s
unfolding first_refused fnv_from
scan-found i h [] = scan-end i h
scan-found i h (b ∷ s) =
    by_test (allowed b)
    (λ e. scan-next i h b s e ∙ scan-found (suc i) (fnv_step h (folded b)) s
    ∙ sym (rw (e, leb-suc-suc (suc (first_refused s)) (length s), add-suc i (first_refused s), suc-add i (first_refused s))))
    (λ e. scan-here i h b s e ∙ sym (rw (e, lt-ltb 0 (suc (length s)) (zero-lt-suc (length s)), add-zero i)))

-- an identifier of a right kind and length is scanned from the start, after its kind
pub scan_read : (i : Token) → is_kind i.kind ≡ true → sized i.stated ≡ true → scan 0 (fnv_step fnv_start i.kind) (id_bytes i) ≡ read_of i
unfolding read_of word_of fnv_from
scan_read i k e = scan-found 0 (fnv_step fnv_start i.kind) (id_bytes i) ∙ rw (k, e, zero-add (first_refused (id_bytes i)))

-- ---- one byte, by its entry of the table

module _ (s : List ℕ) (i h : ℕ) (l : i < length s) where
  pub scan_refused : refused_from ≤ fold_of (get_or s i 0) → scan i h (drop i s) ≡ Err (WrongByte i)
  scan_refused r =
      let b = get_or s i 0 in
      let e : allowed b ≡ false = by_test (allowed b) (λ a. absurd (omega (arith, entry-low b a))) (λ a. a) in
      rw (drop-cons s i 0) (scan-here i h b (drop (suc i) s) e)

  pub scan-more : fold_of (get_or s i 0) < refused_from → scan i h (drop i s) ≡ scan (suc i) (fnv_step h (fold_of (get_or s i 0))) (drop (suc i) s)
  scan-more r =
      let b = get_or s i 0 in
      let e : allowed b ≡ true = by_test (allowed b) (λ a. a) (λ a. absurd (omega (arith, entry_refused b a))) in
      rw (drop-cons s i 0, entry-allowed b e) (scan-next i h b (drop (suc i) s) e)
