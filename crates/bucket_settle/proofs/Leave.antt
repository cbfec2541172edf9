-- The words that leave when the bound falls: found row by row, inserted in order, withdrawn one by one.
-- Assumes nothing.
use Prim.Native.Nat.{ℕ, zero, suc, ◌+◌, ◌-◌, ◌/◌, ◌%◌, ◌^◌, ◌≤◌, ◌<◌}
use native.Mathlib.Nat.{div-one, pow-suc, div-div-eq-div-mul}
use native.Mathlib.Numerals.{add-one}
use native.Mathlib.Omega.{arith}
use mathlib.Core.Path.{◌≡◌, refl, sym, ap, ◌∙◌}
use mathlib.Core.Bool.{true, false, true≢false}
use mathlib.Core.List.{List, [], map}
use lib.Dec.{eqb}
use lib.ListN.{length, get_or, drop, length-map, length-drop, drop_of_length-le}
use lib.Seq.{drop-cons}
use Rattle.lists.specs.Entries.{Entry, words, insert}
use Rattle.lists.proofs.Keep.{keep-within, length-sub}
use Rattle.lists.proofs.Sorts.{sort-length}
use Rattle.gf2.specs.Select.{put_if, chosen}
use Rattle.gf2.proofs.Chosen.{chosen-length}
use Rattle.bucket.specs.declared.Bucket.{Bucket}
use Rattle.bucket.specs.Bucket.{lookup, without}
use Rattle.bucket_settle.specs.Settle.{withdraw_all}
use Rattle.bucket_settle.specs.Steps.{leaves, leaving_of}

-- ---- row by row

pub leaves-set : (thr : ℕ → ℕ) (t v d : ℕ) → (d ≡ 0 → ⊥) → eqb (thr v) t ≡ leaves d thr t v
leaves-set thr t v zero h = absurd (h refl)
leaves-set thr t v (suc d) h = refl

-- the rows from i on, and the one before them
chosen_down : (mark i : ℕ) (rows : List ℕ) → i < length rows
    → chosen (mark / 2 ^ i) (drop i rows) ≡ put_if (mark / 2 ^ i % 2) (get_or rows i 0) (chosen (mark / 2 ^ suc i) (drop (suc i) rows))
chosen_down mark i rows h =
    let e : mark / 2 ^ i / 2 ≡ mark / 2 ^ suc i = div-div-eq-div-mul mark (2 ^ i) 2 ∙ ap (λ (x : ℕ). mark / x) (sym (pow-suc 2 i)) in
    rw (drop-cons rows i 0 h, e)

module _ (thr : ℕ → ℕ) (t : ℕ) (b : Bucket) where
  leaving-length : (ks : List ℕ) → length (leaving_of thr t b ks) ≤ length ks
  unfolding leaving_of
  leaving-length ks =
      let f : ℕ → Entry = (λ k. record { word = k; plan = lookup b k }) in
      rw sort-length (omega (arith, length-sub (keep-within (λ (e : Entry). eqb (thr e.word) t) (map f ks)), length-map ks f))

  -- one more row, inserted where it leaves
  row-leaves : (v : ℕ) (ks : List ℕ) (d : ℕ) → leaves d thr t v ≡ true
      → insert (record { word = v; plan = lookup b v }) (leaving_of thr t b ks) ≡ leaving_of thr t b (put_if d v ks)
  unfolding leaving_of
  row-leaves v ks zero y = absurd (true≢false (sym y))
  row-leaves v ks (suc d) y = rw y

  row_stays : (v : ℕ) (ks : List ℕ) (d : ℕ) → leaves d thr t v ≡ false → leaving_of thr t b ks ≡ leaving_of thr t b (put_if d v ks)
  unfolding leaving_of
  row_stays v ks zero n = refl
  row_stays v ks (suc d) n = rw n

  -- es is what leaves of the rows from i on
  abbrev pub Found : ℕ → List ℕ → ℕ → List Entry → Type 0
  Found mark rows i es = es ≡ leaving_of thr t b (chosen (mark / 2 ^ i) (drop i rows))

  module _ (mark : ℕ) (rows : List ℕ) where
    pub found_few : (i : ℕ) {es : List Entry} → Found mark rows i es → length es ≤ length rows - i
    found_few i e =
        let ks : List ℕ = chosen (mark / 2 ^ i) (drop i rows) in
        omega (arith, ap length e, leaving-length ks, chosen-length (mark / 2 ^ i) (drop i rows), length-drop i rows)

    pub found_none : (i : ℕ) → length rows ≤ i → Found mark rows i []
    unfolding leaving_of
    found_none i h = rw (drop_of_length-le rows h)

    -- the row before, by whether it leaves
    module _ (i : ℕ) (h : i < length rows) {es : List Entry} (e : Found mark rows (suc i) es) where
      abbrev later : List ℕ
      later = chosen (mark / 2 ^ suc i) (drop (suc i) rows)

      pub found-leaves : {fs : List Entry} → leaves (mark / 2 ^ i % 2) thr t (get_or rows i 0) ≡ true → fs ≡ insert (record { word = get_or rows i 0; plan = lookup b (get_or rows i 0) }) es → Found mark rows i fs
      found-leaves y f = rw (chosen_down mark i rows h) (f ∙ rw e (row-leaves (get_or rows i 0) later (mark / 2 ^ i % 2) y))

      pub found_stays : leaves (mark / 2 ^ i % 2) thr t (get_or rows i 0) ≡ false → Found mark rows i es
      found_stays n = rw (chosen_down mark i rows h) (e ∙ row_stays (get_or rows i 0) later (mark / 2 ^ i % 2) n)

    pub found_all : (i : ℕ) {es : List Entry} → i ≤ 0 → Found mark rows i es → es ≡ leaving_of thr t b (chosen mark rows)
    found_all zero h e = e ∙ ap (λ (x : ℕ). leaving_of thr t b (chosen x rows)) (div-one mark)
    found_all (suc i) h e = absurd (omega arith)

-- ---- withdrawn one by one

module _ (n : ℕ) (b : Bucket) (es : List Entry) (i : ℕ) where
  pub withdraw-step : i < length es → (d : Entry) → withdraw_all n (words (drop (i + 1) es)) (without n (get_or es i d).word b) ≡ withdraw_all n (words (drop i es)) b
  withdraw-step h d = rw (add-one, drop-cons es i d h)

  pub withdraw-end : length es ≤ i → withdraw_all n (words (drop i es)) b ≡ b
  withdraw-end h = rw (drop_of_length-le es h)
