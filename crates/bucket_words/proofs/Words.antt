-- A bucket and its words, there and back, at every number of rows and of solution words.
-- Assumes nothing.
use mathlib.Core.Path.{◌≡◌, sym, ap, ◌∙◌, subst}
use mathlib.Core.List.{List, [], ◌∷◌, ◌++◌, append_assoc, append-nil}
use Prim.Native.Nat.{ℕ, suc, ◌+◌, ◌≤◌, ◌<◌}
use native.Mathlib.Omega.{arith}
use lib.ListN.{length, get_or, set, take, drop, length-append, length-drop, length-replicate, take-append-drop, drop_of_length-le}
use lib.Seq.{length-take-le, drop-cons, drop-drop, take_at, get_or_at, drop-append-add, get_or-append-add, set_at}
use Rattle.gf2.proofs.Inverse.{length-units}
use Rattle.bucket.specs.declared.Bucket.{Bucket}
use Rattle.bucket.specs.Bucket.{empty_bucket}
use Rattle.bucket_words.specs.Words.{bucket_words, words_of, bucket_from, Shaped}

module _ (n r : ℕ) (b : Bucket) (h : Shaped n r b) where
  pub length-words : length (words_of b) ≡ bucket_words n r
  unfolding words_of
  length-words = simp length-append (omega arith)

  module _ (rest : List ℕ) where
    abbrev after_cols : List ℕ
    after_cols = b.mark ∷ b.sols ++ b.bound ∷ rest

    spread : words_of b ++ rest ≡ b.cols ++ after_cols
    unfolding words_of
    spread = simp append_assoc

    drop_cols : (k : ℕ) → drop (n + k) (b.cols ++ after_cols) ≡ drop k after_cols
    drop_cols k = subst (λ (m : ℕ). drop (m + k) (b.cols ++ after_cols) ≡ drop k after_cols) h.cols (drop-append-add b.cols after_cols k)

    bound_at : get_or (b.cols ++ after_cols) (n + 1 + r) 0 ≡ b.bound
    bound_at =
        let e : n + 1 + r ≡ n + suc r = omega arith in
        ap (λ (k : ℕ). get_or (b.cols ++ after_cols) k 0) e
        ∙ subst (λ (m : ℕ). get_or (b.cols ++ after_cols) (m + suc r) 0 ≡ get_or after_cols (suc r) 0) h.cols (get_or-append-add b.cols after_cols (suc r) 0)
        ∙ get_or_at b.sols b.bound rest 0 r h.sols

    -- what was stored is what is loaded
    pub from-words : bucket_from n r (words_of b ++ rest) ≡ b
    unfolding bucket_from
    from-words = rw (spread, take_at b.cols after_cols n h.cols, get_or_at b.cols b.mark (b.sols ++ b.bound ∷ rest) 0 n h.cols, drop_cols 1, take_at b.sols (b.bound ∷ rest) r h.sols, bound_at)

pub words-bucket : (n r : ℕ) (b : Bucket) → Shaped n r b → bucket_from n r (words_of b) ≡ b
words-bucket n r b h = ap (bucket_from n r) (sym (append-nil (words_of b))) ∙ from-words n r b h []

-- another bound
pub set-bound : (n r : ℕ) (b : Bucket) → Shaped n r b → (x : ℕ) → set (words_of b) (n + 1 + r) x ≡ words_of (record { cols = b.cols; mark = b.mark; sols = b.sols; bound = x })
unfolding words_of
set-bound n r b h x =
    let front : List ℕ = b.cols ++ b.mark ∷ [] in
    let l : length (front ++ b.sols) ≡ n + 1 + r = simp length-append (omega arith) in
    let e : words_of b ≡ (front ++ b.sols) ++ b.bound ∷ [] = simp append_assoc in
    ap (λ (l : List ℕ). set l (n + 1 + r) x) e ∙ set_at (front ++ b.sols) b.bound [] x (n + 1 + r) l ∙ simp append_assoc

-- what was loaded is what is stored
pub words-from : (n r : ℕ) (xs : List ℕ) → bucket_words n r ≤ length xs → words_of (bucket_from n r xs) ++ drop (bucket_words n r) xs ≡ xs
unfolding words_of bucket_from
words-from n r xs h =
    simp append_assoc
    (ap (λ (l : List ℕ). take n xs ++ l)
    (ap (λ (l : List ℕ). get_or xs n 0 ∷ l)
    (ap (λ (l : List ℕ). take r (drop (n + 1) xs) ++ l) (at (n + 1 + r) (n + 2 + r) (omega arith) (omega arith) ∙ sym (drop-drop r (n + 1) xs))
    ∙ take-append-drop r (drop (n + 1) xs))
    ∙ at n (n + 1) (omega arith) (omega arith))
    ∙ take-append-drop n xs)
  where
    at : (i j : ℕ) → j ≡ suc i → i < length xs → get_or xs i 0 ∷ drop j xs ≡ drop i xs
    at i j e l = rw (e, drop-cons xs i 0 l)

pub words-all : (n r : ℕ) (xs : List ℕ) → length xs ≡ bucket_words n r → words_of (bucket_from n r xs) ≡ xs
words-all n r xs h =
    sym (append-nil (words_of (bucket_from n r xs)))
    ∙ ap (λ (l : List ℕ). words_of (bucket_from n r xs) ++ l) (sym (drop_of_length-le xs {i = bucket_words n r} (omega (arith, h)))) ∙ words-from n r xs (omega (arith, h))

pub from-shaped : (n r : ℕ) (xs : List ℕ) → bucket_words n r ≤ length xs → Shaped n r (bucket_from n r xs)
unfolding bucket_from
from-shaped n r xs h = record {
  cols = length-take-le n xs (omega arith);
  sols = length-take-le r (drop (n + 1) xs) (rw length-drop (omega arith));
}

pub empty_shaped : (n r : ℕ) → Shaped n r (empty_bucket n r)
unfolding empty_bucket
empty_shaped n r = record { cols = length-units n; sols = length-replicate r 0 }
