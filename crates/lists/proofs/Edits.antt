-- Entries that are kept by a test of their word, renamed one to one, or sorted: there too `find`, `remove`, `update` and `insert_all` do the same.
-- Assumes nothing.
use Prim.Native.Nat.{ℕ, ◌<◌}
use mathlib.Core.Path.{◌≡◌, refl, sym, ap, ap₂, ◌∙◌}
use mathlib.Core.Bool.{Bool, true, false, cond}
use mathlib.Core.Logic.{⊎_elim}
use mathlib.Core.Option.{Option, none, some}
use mathlib.Core.List.Memᴰ
use mathlib.Core.List.Permᴰ
use mathlib.Core.List.{List, [], ◌∷◌, ◌++◌, map, Permᴰ, Memᴰ}
use lib.Dec.{eqb}
use borrow.Author.Tests.{eqb-true, eqb-false, eq-eqb, ne_eqb}
use Rattle.lists.specs.Lists.{keep}
use Rattle.lists.specs.Entries.{Entry, find, insert, update, remove, sort, insert_all, Ascending, Distinct}
use Rattle.lists.proofs.Tests.{cases, by_test}
use Rattle.lists.proofs.Entries.{find_none, none_find, insert_perm, insert_ascending, remove_perm, update_perm}
use Rattle.lists.proofs.Sorts.{distinct_perm, fresh-sort, sort_perm, sort_ascending, sort-same, sort_order, sort-changed, sort_removed, sort-found, ascending_distinct}

-- ---- entries kept by a test of their word

module _ (P : ℕ → Bool) where
  abbrev kept : List Entry → List Entry
  kept es = keep (λ e. P e.word) es

  -- the test says the same of x, which has the word w
  same : (w : ℕ) (x : Entry) {b : Bool} → eqb w x.word ≡ true → P w ≡ b → P x.word ≡ b
  same w x t h = sym (ap P (eqb-true w x.word t)) ∙ h

  pub find-keep : (w : ℕ) (es : List Entry) → P w ≡ true → find w (kept es) ≡ find w es
  find-keep w [] h = refl
  find-keep w (x ∷ xs) h =
      cases (eqb w x.word) (λ t. rw (same w x t h, t))
      (λ f. rw f (by_test (λ (l : List Entry). find w l ≡ find w xs) (P x.word) (λ p. rw f (find-keep w xs h)) (λ p. find-keep w xs h)))

  pub remove_in : (w : ℕ) (es : List Entry) → P w ≡ true → kept (remove w es) ≡ remove w (kept es)
  remove_in w [] h = refl
  remove_in w (x ∷ xs) h =
      cases (eqb w x.word) (λ t. rw (same w x t h, t))
      (λ f. rw f (cases (P x.word) (λ p. rw (p, f) (ap {B = List Entry} (λ l. x ∷ l) (remove_in w xs h))) (λ p. rw p (remove_in w xs h))))

  pub remove_out : (w : ℕ) (es : List Entry) → P w ≡ false → kept (remove w es) ≡ kept es
  remove_out w [] h = refl
  remove_out w (x ∷ xs) h =
      cases (eqb w x.word) (λ t. rw (t, same w x t h))
      (λ f. rw f (ap (λ (l : List Entry). cond (P x.word) (x ∷ l) l) (remove_out w xs h)))

  pub update_in : (d : Entry) (es : List Entry) → P d.word ≡ true → kept (update d es) ≡ update d (kept es)
  update_in d [] h = refl
  update_in d (x ∷ xs) h =
      cases (eqb d.word x.word) (λ t. rw (same d.word x t h, t, h))
      (λ f. rw f (cases (P x.word) (λ p. rw (p, f) (ap {B = List Entry} (λ l. x ∷ l) (update_in d xs h))) (λ p. rw p (update_in d xs h))))

  pub update_out : (d : Entry) (es : List Entry) → P d.word ≡ false → kept (update d es) ≡ kept es
  update_out d [] h = refl
  update_out d (x ∷ xs) h =
      cases (eqb d.word x.word) (λ t. rw (t, h, same d.word x t h))
      (λ f. rw f (ap (λ (l : List Entry). cond (P x.word) (x ∷ l) l) (update_out d xs h)))

-- ---- words renamed one to one

module _ (f : ℕ → ℕ) (N : ℕ) (inj : (u v : ℕ) → u < N → v < N → f u ≡ f v → u ≡ v) where
  abbrev renamed : Entry → Entry
  renamed e = record { word = f e.word; plan = e.plan }

  abbrev Below : List Entry → Type 0
  Below es = (e : Entry) → Memᴰ e es → e.word < N

  eqb_renamed : (u v : ℕ) → u < N → v < N → eqb (f u) (f v) ≡ eqb u v
  eqb_renamed u v hu hv =
      cases (eqb u v) (λ t. eq-eqb (f u) (f v) (ap f (eqb-true u v t)) ∙ sym t)
      (λ n. ne_eqb (f u) (f v) (λ q. eqb-false u v n (inj u v hu hv q)) ∙ sym n)

  pub find-renamed : (w : ℕ) (es : List Entry) → w < N → Below es → find (f w) (map renamed es) ≡ find w es
  find-renamed w [] h b = refl
  find-renamed w (x ∷ xs) h b =
      ap₂ (λ (t : Bool) (o : Option ℕ). cond t (some x.plan) o) (eqb_renamed w x.word h (b x (Memᴰ.head refl)))
      (find-renamed w xs h (λ e m. b e (Memᴰ.tail m)))

  map_test : (t : Bool) (xs ys : List Entry) → map renamed (cond t xs ys) ≡ cond t (map renamed xs) (map renamed ys)
  map_test true xs ys = refl
  map_test false xs ys = refl

  pub remove-renamed : (w : ℕ) (es : List Entry) → w < N → Below es → map renamed (remove w es) ≡ remove (f w) (map renamed es)
  remove-renamed w [] h b = refl
  remove-renamed w (x ∷ xs) h b =
      map_test (eqb w x.word) xs (x ∷ remove w xs)
      ∙ ap₂ (λ (t : Bool) (l : List Entry). cond t (map renamed xs) (renamed x ∷ l)) (sym (eqb_renamed w x.word h (b x (Memᴰ.head refl))))
      (remove-renamed w xs h (λ e m. b e (Memᴰ.tail m)))

  pub update-renamed : (d : Entry) (es : List Entry) → d.word < N → Below es → map renamed (update d es) ≡ update (renamed d) (map renamed es)
  update-renamed d [] h b = refl
  update-renamed d (x ∷ xs) h b =
      map_test (eqb d.word x.word) (d ∷ xs) (x ∷ update d xs)
      ∙ ap₂ (λ (t : Bool) (l : List Entry). cond t (renamed d ∷ map renamed xs) (renamed x ∷ l)) (sym (eqb_renamed d.word x.word h (b x (Memᴰ.head refl))))
      (update-renamed d xs h (λ e m. b e (Memᴰ.tail m)))

  pub distinct_renamed : (es : List Entry) → Below es → Distinct es → Distinct (map renamed es)
  distinct_renamed [] b d = tt
  distinct_renamed (x ∷ xs) b d =
      (find-renamed x.word xs (b x (Memᴰ.head refl)) (λ e m. b e (Memᴰ.tail m)) ∙ d.0, distinct_renamed xs (λ e m. b e (Memᴰ.tail m)) d.1)

-- ---- entries of two lists

pub distinct_append : (xs ys : List Entry) → Distinct xs → Distinct ys
    → ((x y : Entry) → Memᴰ x xs → Memᴰ y ys → x.word ≡ y.word → ⊥) → Distinct (xs ++ ys)
distinct_append [] ys d e f = e
distinct_append (x ∷ xs) ys d e f = (
  none_find x.word (xs ++ ys) (λ y m q. ⊎_elim (λ a. find_none x.word xs d.0 y a q) (λ b. f x y (Memᴰ.head refl) b q) (Memᴰ.append_cases xs m)),
  distinct_append xs ys d.1 e (λ u v a b. f u v (Memᴰ.tail a) b),
)

-- ---- sorted lists

pub find-sort : (w : ℕ) (es : List Entry) → Distinct es → find w (sort es) ≡ find w es
find-sort w es d = go (find w es) refl
  where
    go : (o : Option ℕ) → find w es ≡ o → find w (sort es) ≡ o
    go none f = fresh-sort w es f
    go (some p) f = sort-found (record { word = w; plan = p }) (remove_perm w p es f) d

pub sort-update : (d : Entry) (p : ℕ) (es : List Entry) → Distinct es → find d.word es ≡ some p → update d (sort es) ≡ sort (update d es)
sort-update d p es u f =
    sym (sort-changed (record { word = d.word; plan = p }) (remove_perm d.word p es f) u d refl)
    ∙ sort_order (Permᴰ.symm (update_perm d p es f)) (distinct_perm (remove_perm d.word p es f) u)

pub sort-remove : (w p : ℕ) (es : List Entry) → Distinct es → find w es ≡ some p → remove w (sort es) ≡ sort (remove w es)
sort-remove w p es u f = sym (sort_removed (record { word = w; plan = p }) (remove_perm w p es f) u)

pub insert-all_perm : (es base : List Entry) → Permᴰ (insert_all es base) (es ++ base)
insert-all_perm [] base = Permᴰ.refl base
insert-all_perm (e ∷ es) base =
    Permᴰ.trans (insert-all_perm es (insert e base)) (Permᴰ.trans (Permᴰ.append_left es (insert_perm e base)) (Permᴰ.middle e es base))

insert-all_ascending : (es base : List Entry) → Ascending base → Distinct (es ++ base) → Ascending (insert_all es base)
insert-all_ascending [] base a d = a
insert-all_ascending (e ∷ es) base a d =
    insert-all_ascending es (insert e base)
    (insert_ascending e base a (none_find e.word base (λ x m. find_none e.word (es ++ base) d.0 x (Memᴰ.append_right es m))))
    (distinct_perm (Permᴰ.trans (Permᴰ.symm (Permᴰ.middle e es base)) (Permᴰ.append_left es (Permᴰ.symm (insert_perm e base)))) d)

-- entries inserted into a sorted list
pub insert-all-sort : (es old new : List Entry) → Permᴰ (es ++ old) new → Distinct old → Distinct new → insert_all es (sort old) ≡ sort new
insert-all-sort es old new s da dn =
    sym (sort-same (insert_all es (sort old)) asc (ascending_distinct (insert_all es (sort old)) asc)) ∙ sym (sort_order (Permᴰ.symm whole) dn)
  where
    parts : Permᴰ (es ++ sort old) new
    parts = Permᴰ.trans (Permᴰ.append_left es (sort_perm old)) s

    whole : Permᴰ (insert_all es (sort old)) new
    whole = Permᴰ.trans (insert-all_perm es (sort old)) parts

    asc : Ascending (insert_all es (sort old))
    asc = insert-all_ascending es (sort old) (sort_ascending old da) (distinct_perm (Permᴰ.symm parts) dn)
