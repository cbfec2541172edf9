-- Opening, number by number: the header, the empty buckets and the zeros are the numbers of the opened table.
-- Assumes nothing.
use Prim.Native.Nat.{ℕ, ◌+◌, ◌-◌, ◌*◌, ◌≤◌, ◌<◌}
use native.Mathlib.Omega.{arith}
use mathlib.Core.Path.{◌≡◌, refl, sym, ap, ap₂, ◌∙◌, subst, subst⁻¹}
use mathlib.Core.Bool.{true, false}
use mathlib.Core.List.{List, [], ◌∷◌, ◌++◌, append_assoc, append-nil}
use lib.ListN.{length, set, take, drop, replicate, length-append, length-drop, length-replicate, get_or-replicate, replicate-append-replicate, drop_of_length-le}
use lib.Seq.{length-take-le, take_at, drop_at, drop-drop}
use borrow.Author.Tests.{eq-eqb, ne_eqb}
use borrow.Rule.Slice.PartMut.{put_mid}
use Rattle.std.specs.Prelude.{Ok}
use Rattle.lists.proofs.Tests.{cond_true, cond_false}
use Rattle.answer.specs.declared.Cause.TheVariants.{WrongBuckets, WrongTable}
use Rattle.bucket.specs.declared.Bucket.{Bucket}
use Rattle.bucket.specs.Bucket.{empty_bucket}
use Rattle.bucket_words.specs.Words.{bucket_words, words_of, Shaped}
use Rattle.bucket_words.proofs.Words.{length-words, empty_shaped}
use Rattle.table.specs.Table.{total_numbers, zero_totals, open_table}
use Rattle.table.specs.Layout.{leading, buckets1_at, buckets2_at, base_count_at, live_count_at, totals_at, header, base_numbers, level_numbers, base_pairs, heads, numbers_of, bucket_place, in_range, length_of}
use Rattle.table.specs.Calls.{rows, solutions, turned_down, open_call}
use Rattle.table.proofs.Numbers.{length_level, four}

zeros_is : zero_totals ≡ replicate total_numbers 0
unfolding zero_totals
zeros_is = refl

level_append : (bs cs : List Bucket) → level_numbers (bs ++ cs) ≡ level_numbers bs ++ level_numbers cs
level_append [] cs = refl
level_append (b ∷ bs) cs = ap (λ (l : List ℕ). words_of b ++ l) (level_append bs cs) ∙ sym (append_assoc (words_of b) (level_numbers bs) (level_numbers cs))

module _ (n r : ℕ) where
  abbrev E : Bucket
  E = empty_bucket n r

  abbrev w : ℕ
  w = bucket_words n r

  -- the leading numbers are written, and the totals cleared
  pub header-set : (t : List ℕ) (b1 b2 : ℕ) → header ≤ length t → (u zs : List ℕ)
      → u ≡ set (set (set (set t buckets1_at b1) buckets2_at b2) base_count_at 0) live_count_at 0 → zs ≡ replicate (length (take (header - totals_at) (drop totals_at u))) 0
      → put_mid totals_at (header - totals_at) u zs ≡ heads (open_table n r b1 b2) ++ drop header t
  header-set t b1 b2 h u zs e z =
      let leads : u ≡ b1 ∷ b2 ∷ 0 ∷ 0 ∷ drop leading t = e ∙ ap (λ (l : List ℕ). set (set (set (set l buckets1_at b1) buckets2_at b2) base_count_at 0) live_count_at 0) (sym (four n r t (omega arith))) in
      let size : length (take total_numbers (drop totals_at u)) ≡ total_numbers = length-take-le total_numbers (drop totals_at u) (omega (arith, length-drop totals_at u, ap length leads, length-drop leading t)) in
      ap₂ (λ (l zs : List ℕ). take totals_at l ++ (zs ++ drop total_numbers (drop totals_at l))) leads (z ∙ ap (λ (k : ℕ). replicate k 0) size ∙ sym zeros_is)
      ∙ ap {B = List ℕ} (λ l. b1 ∷ b2 ∷ 0 ∷ 0 ∷ (zero_totals ++ l)) (drop-drop total_numbers leading t)
      ∙ sym (ap₂ {C = List ℕ} (λ i j. i ∷ j ∷ 0 ∷ 0 ∷ (zero_totals ++ drop header t)) (length-replicate b1 E) (length-replicate b2 E))

  -- one more empty bucket is stored
  pub level_more : (i at : ℕ) (words part : List ℕ) (k : ℕ) → at + w ≤ length words → part ≡ words_of E → take at words ≡ level_numbers (replicate i E)
      → take (at + w) (put_mid at k words part) ≡ level_numbers (replicate (i + 1) E)
  level_more i at words part k h p q =
      let e : length (take at words ++ part) ≡ at + w = length-append (take at words) part ∙ ap₂ ◌+◌ (length-take-le at words (omega arith)) (ap length p ∙ length-words n r E (empty_shaped n r)) in
      ap (take (at + w)) (sym (append_assoc (take at words) part (drop k (drop at words)))) ∙ take_at (take at words ++ part) (drop k (drop at words)) (at + w) e
      ∙ ap₂ (λ (a b : List ℕ). a ++ b) q (p ∙ sym (append-nil (words_of E)))
      ∙ sym (level_append (replicate i E) (E ∷ [])) ∙ ap level_numbers (replicate-append-replicate i 1 E)

  length_empty : (m : ℕ) → length (level_numbers (replicate m E)) ≡ m * w
  length_empty m =
      length_level n r (replicate m E) (λ i l. subst⁻¹ (Shaped n r) (get_or-replicate m i E E (subst (λ (k : ℕ). i < k) (length-replicate m E) l)) (empty_shaped n r))
      ∙ ap (λ (k : ℕ). k * w) (length-replicate m E)

  module _ (b1 b2 : ℕ) (t H L : List ℕ) (p : ℕ) (place : p ≡ bucket_place n r (b1 + b2)) (size : length t ≡ length_of n r b1 b2)
      (headed : H ≡ heads (open_table n r b1 b2) ++ drop header t) (buckets : L ≡ level_numbers (replicate (b1 + b2) E)) where
    -- the header and the buckets are written
    abbrev filled : List ℕ
    filled = put_mid header (p - header) H L

    abbrev hs : List ℕ
    hs = heads (open_table n r b1 b2)

    abbrev rest : List ℕ
    rest = drop (p - header) (drop header t)

    length_rest : length rest ≡ base_numbers
    length_rest = omega (arith, length-drop (p - header) (drop header t), length-drop header t)

    length-hs : length hs ≡ header
    length-hs = let e : length zero_totals ≡ total_numbers = ap length zeros_is ∙ length-replicate {A = ℕ} total_numbers 0 in omega arith

    filled_is : filled ≡ (hs ++ L) ++ rest
    filled_is =
        ap (λ (h : List ℕ). put_mid header (p - header) h L) headed
        ∙ ap₂ (λ (a b : List ℕ). a ++ (L ++ drop (p - header) b)) (take_at hs (drop header t) header length-hs) (drop_at hs (drop header t) header length-hs)
        ∙ sym (append_assoc hs L rest)

    length_front : length (hs ++ L) ≡ p
    length_front = omega (arith, length-append hs L, length-hs, ap length buckets ∙ length_empty (b1 + b2))

    back : drop p filled ≡ rest
    back = ap (drop p) filled_is ∙ drop_at (hs ++ L) rest p length_front

    -- and the base pairs
    pub laid_out : (zs : List ℕ) → zs ≡ replicate (length (take (length filled - p) (drop p filled))) 0
        → put_mid p (length filled - p) filled zs ≡ numbers_of (open_table n r b1 b2)
    unfolding numbers_of
    laid_out zs z =
        let k : ℕ = length filled - p in
        let k-is : k ≡ base_numbers = omega (arith, ap length filled_is, length-append (hs ++ L) rest, length_front, length_rest) in
        let gone : drop k (drop p filled) ≡ [] = ap (drop k) back ∙ drop_of_length-le rest {i = k} (omega (arith, length_rest)) in
        let room : length (take k (drop p filled)) ≡ base_numbers - 2 * 0 = ap (λ (l : List ℕ). length (take k l)) back ∙ length-take-le k rest (omega (arith, length_rest)) ∙ k-is in
        let both : L ≡ level_numbers (replicate b1 E) ++ level_numbers (replicate b2 E) = buckets ∙ ap level_numbers (sym (replicate-append-replicate b1 b2 E)) ∙ level_append (replicate b1 E) (replicate b2 E) in
        ap₂ (λ (a b : List ℕ). a ++ (zs ++ b)) (ap (take p) filled_is ∙ take_at (hs ++ L) rest p length_front) gone
        ∙ ap₂ (λ (a b : List ℕ). (hs ++ a) ++ b) both (append-nil zs ∙ z ∙ ap (λ (m : ℕ). replicate m 0) room)
        ∙ append_assoc hs (level_numbers (replicate b1 E) ++ level_numbers (replicate b2 E)) (base_pairs [])
        ∙ ap (λ (l : List ℕ). hs ++ l) (append_assoc (level_numbers (replicate b1 E)) (level_numbers (replicate b2 E)) (base_pairs []))

-- ---- the causes of an opening

module _ (b1 b2 : ℕ) (t : List ℕ) where
  pub out_of_range : in_range b1 b2 ≡ false → open_call b1 b2 t ≡ turned_down WrongBuckets t
  unfolding open_call
  out_of_range f = cond_false _ _ f

  module _ (i : in_range b1 b2 ≡ true) where
    pub wrong-length : (length t ≡ length_of rows solutions b1 b2 → ⊥) → open_call b1 b2 t ≡ turned_down (WrongTable (length t)) t
    unfolding open_call
    wrong-length e = cond_true _ _ i ∙ cond_false _ _ (ne_eqb _ _ e)

    pub accepted : length t ≡ length_of rows solutions b1 b2 → open_call b1 b2 t ≡ record { answer = Ok 0; table = numbers_of (open_table rows solutions b1 b2) }
    unfolding open_call
    accepted e = cond_true _ _ i ∙ cond_true _ _ (eq-eqb _ _ e)
