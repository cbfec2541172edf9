-- The patch from one plane to another: it leads there, and the old plane allows it.
-- Assumes nothing.
use Prim.Native.Nat.{ℕ, suc, ◌+◌, ◌≤◌}
use native.Mathlib.Omega.{arith}
use mathlib.Core.Path.{◌≡◌, refl, sym, ap, ◌∙◌}
use mathlib.Core.Bool.{Bool, true, false, not}
use mathlib.Core.Option.{none, some}
use mathlib.Core.List.{List, [], ◌∷◌, ◌++◌, Memᴰ}
use lib.ListN.{length, take, drop, length-append}
use lib.Seq.{append_snoc, set_at, take_at, drop_at}
use borrow.Author.Tests.{le-leb, lt-ltb}
use Rattle.codec.specs.Bytes.{eq_list}
use Rattle.codec.proofs.Equal.{equal_eq}
use Rattle.lists.specs.Lists.{keep, Every}
use Rattle.lists.specs.Entries.{Entry, words, find, Ascending}
use Rattle.lists.proofs.Tests.{cases, by_test}
use Rattle.lists.proofs.Keep.{keep_out}
use Rattle.lists.proofs.Entries.{none≢some, above_mem, mem_find}
use Rattle.lists.proofs.Sorts.{by_word, ascending_distinct}
use Rattle.bucket.specs.Bucket.{largest_bound}
use Rattle.model.specs.Model.{base_limit}
use Rattle.plane.specs.Record.{Format, word_bytes, PlaneBucket, bucket_bytes, bucket_from}
use Rattle.plane.specs.Plane.{Plane, all_allowed}
use Rattle.plane.specs.Fits.{Below, FitsBucket, FitsEntry, Fits}
use Rattle.plane.proofs.Round.{bucket_back}
use Rattle.patch.specs.Base.{is_there, among, enter, gone_of, news_of}
use Rattle.patch.specs.Record.{Change}
use Rattle.patch.specs.Patch.{changes_of, buckets_of, between, set_all, patched}
use Rattle.patch.specs.Wrong.{change_allowed, next_index, gone_allowed, next_word, Filled, new_allowed, filled, unfilled, allowed}
use Rattle.patch.specs.Fits.{FitsChange, Sized}
use Rattle.patch.proofs.Base.{by_find, enter_ascending, enter-other, remove-all_ascending, remove-all-gone, still_none, gone_is, gone_not, news_ascending, edits_lead, fewer}

-- ---- buckets

module _ (F : Format) where
  -- buckets with the same bytes are the same
  same-bucket : (b c : PlaneBucket) → FitsBucket F b → FitsBucket F c → bucket_bytes b ≡ bucket_bytes c → b ≡ c
  same-bucket b c f g e = sym ((bucket_back F b f).1 []) ∙ ap (λ (l : List ℕ). bucket_from F (F.bucket_kind ∷ (l ++ []))) e ∙ (bucket_back F c g).1 []

  -- after those that are done, `front`
  changes_lead : (front bs cs : List PlaneBucket) (i : ℕ) → length front ≡ i → length bs ≡ length cs → Every (FitsBucket F) bs → Every (FitsBucket F) cs
      → set_all (changes_of i bs cs) (front ++ bs) ≡ front ++ cs
  changes_lead front [] [] i n l f g = refl
  changes_lead front [] (c ∷ cs) i n l f g = absurd (omega arith)
  changes_lead front (b ∷ bs) [] i n l f g = absurd (omega arith)
  changes_lead front (b ∷ bs) (c ∷ cs) i n l f g =
      let more : length (front ++ (c ∷ [])) ≡ suc i = rw length-append (omega arith) in
      let past : set_all (changes_of (suc i) bs cs) (front ++ c ∷ bs) ≡ front ++ c ∷ cs =
      ap (set_all (changes_of (suc i) bs cs)) (sym (append_snoc front c bs)) ∙ changes_lead (front ++ (c ∷ [])) bs cs (suc i) more (omega arith) f.1 g.1 ∙ append_snoc front c cs in
      cases (eq_list (bucket_bytes b) (bucket_bytes c))
      (λ t. rw (t, same-bucket b c f.0 g.0 (equal_eq (bucket_bytes b) (bucket_bytes c) t)) past)
      (λ u. rw u (ap (set_all (changes_of (suc i) bs cs)) (set_at front b bs c i n) ∙ past))

  changes_fit : (bs cs : List PlaneBucket) (i : ℕ) → Every (FitsBucket F) cs → Every (FitsChange F) (changes_of i bs cs)
  changes_fit [] cs i g = tt
  changes_fit (b ∷ bs) [] i g = tt
  changes_fit (b ∷ bs) (c ∷ cs) i g =
      by_test (Every (FitsChange F)) (eq_list (bucket_bytes b) (bucket_bytes c)) (λ t. changes_fit bs cs (suc i) g.1) (λ u. (g.0, changes_fit bs cs (suc i) g.1))

  changes_allowed : (n : ℕ) (bs cs : List PlaneBucket) (i least : ℕ) → least ≤ i → i + length bs ≤ n → Every (FitsBucket F) cs
      → all_allowed (change_allowed n) next_index least (changes_of i bs cs) ≡ true
  changes_allowed n [] cs i least h l g = refl
  changes_allowed n (b ∷ bs) [] i least h l g = refl
  changes_allowed n (b ∷ bs) (c ∷ cs) i least h l g =
      by_test (λ (ds : List Change). all_allowed (change_allowed n) next_index least ds ≡ true) (eq_list (bucket_bytes b) (bucket_bytes c))
      (λ t. changes_allowed n bs cs (suc i) least (omega arith) (omega arith) g.1)
      (λ u. rw (le-leb least i h, lt-ltb i n (omega arith), le-leb c.bound largest_bound g.0.low) (changes_allowed n bs cs (suc i) (suc i) (omega arith) (omega arith) g.1))

-- ---- the base list

every-keep : (F : Entry → Type 0) (t : Entry → Bool) (es : List Entry) → Every F es → Every F (keep t es)
every-keep F t [] h = tt
every-keep F t (e ∷ es) h = by_test (Every F) (t e) (λ y. (h.0, every-keep F t es h.1)) (λ n. every-keep F t es h.1)

words_fit : (es : List Entry) → Every FitsEntry es → Every (Below word_bytes) (words es)
words_fit [] h = tt
words_fit (e ∷ es) h = (h.0.word, words_fit es h.1)

-- the words of some entries of the base list
gone-allowed : (base : List Entry) (t : Entry → Bool) (es : List Entry) (least : ℕ) → Ascending es
    → ((x : Entry) → Memᴰ x es → (least ≤ x.word) × (is_there (find x.word base) ≡ true)) → all_allowed (gone_allowed base) next_word least (words (keep t es)) ≡ true
gone-allowed base t [] least a h = refl
gone-allowed base t (e ∷ es) least a h =
    let here = h e (Memᴰ.head refl) in
    by_test (λ (l : List Entry). all_allowed (gone_allowed base) next_word least (words l) ≡ true) (t e)
    (λ y. rw (le-leb least e.word here.0, here.1)
    (gone-allowed base t es (suc e.word) a.1 (λ x m. (above_mem e.word es a.0 x m, (h x (Memᴰ.tail m)).1))))
    (λ n. gone-allowed base t es least a.1 (λ x m. h x (Memᴰ.tail m)))

-- entries of the new base list, none of them gone, where the list so far has no word but its
news-allowed : (new : List Entry) (gone : List ℕ) (es : List Entry) (s : Filled) → length new ≤ base_limit → Every FitsEntry es → Ascending es → Ascending s.base
    → ((w : ℕ) → find w new ≡ none → find w s.base ≡ none)
    → ((x : Entry) → Memᴰ x es → (s.least ≤ x.word) × ((among x.word gone ≡ false) × (find x.word new ≡ some x.plan)))
    → all_allowed (new_allowed gone) filled s es ≡ true
news-allowed new gone [] s l f a b h k = refl
news-allowed new gone (e ∷ es) s l f a b h k =
    let here = k e (Memᴰ.head refl) in
    let asc : Ascending (enter e s.base) = enter_ascending e s.base b in
    let in-new : (w : ℕ) → find w new ≡ none → find w (enter e s.base) ≡ none =
    (λ w n. by_word w e.word (λ q. absurd (none≢some (sym n ∙ ap (λ (v : ℕ). find v new) q ∙ here.1.1))) (λ m. enter-other e s.base w m ∙ h w n)) in
    let few : length (enter e s.base) ≤ length new = fewer (enter e s.base) new (ascending_distinct (enter e s.base) asc) in-new in
    rw (le-leb s.least e.word here.0, f.0.plan, here.1.0, le-leb (length (enter e s.base)) base_limit (omega arith))
    (news-allowed new gone es (filled s e) l f.1 a.1 asc in-new (λ x m. (above_mem e.word es a.0 x m, (k x (Memᴰ.tail m)).1)))

-- ---- the plane

module _ (F : Format) (P Q : Plane) (f : Fits F P) (g : Fits F Q) (old new : ℕ) where
  -- the entries new or changed are the new plane's
  news_fit : Every FitsEntry (news_of P.base Q.base)
  news_fit = every-keep FitsEntry _ Q.base g.entries

  -- each value is within its bytes
  pub between-sized : Below word_bytes old → Below word_bytes new → Sized F (between old new P Q)
  unfolding between
  between-sized o n = record {
    old_sum = o;
    new_sum = n;
    changes = changes_fit F (buckets_of P) (buckets_of Q) 0 g.buckets;
    gone = words_fit (keep (λ e. not (is_there (find e.word Q.base))) P.base) (every-keep FitsEntry (λ e. not (is_there (find e.word Q.base))) P.base f.entries);
    news = news_fit;
  }

  -- the old plane allows it
  pub between-allowed : allowed P (between old new P Q) ≡ true
  unfolding between allowed
  between-allowed =
      let G : List ℕ = gone_of P.base Q.base in
      rw (
        changes_allowed F (length (buckets_of P)) (buckets_of P) (buckets_of Q) 0 0 (omega arith) (omega arith) g.buckets,
        gone-allowed P.base (λ e. not (is_there (find e.word Q.base))) P.base 0 f.ascending (λ x m. (omega arith, ap is_there (mem_find P.base f.ascending x m))),
      )
      (news-allowed Q.base G (news_of P.base Q.base) (unfilled P.base G) g.few news_fit (news_ascending P.base Q.base g.ascending) (remove-all_ascending G P.base f.ascending)
      (λ w n. by_find (find w P.base) (λ m. still_none w G P.base f.ascending m)
      (λ p s. remove-all-gone w G P.base f.ascending (gone_is P.base Q.base w n ∙ ap is_there s)))
      (λ x m. let k = mem_find Q.base g.ascending x (keep_out _ Q.base x m).0 in (omega arith, (gone_not P.base Q.base x.word x.plan k, k))))

  -- and it leads to the new one
  pub between_leads : length P.level1 ≡ length Q.level1 → length P.level2 ≡ length Q.level2 → patched P (between old new P Q) ≡ Q
  unfolding between patched
  between_leads l1 l2 =
      let all : set_all (changes_of 0 (buckets_of P) (buckets_of Q)) (buckets_of P) ≡ buckets_of Q =
      changes_lead F [] (buckets_of P) (buckets_of Q) 0 refl (rw (length-append, length-append) (omega arith)) f.buckets g.buckets in
      let e1 = ap (take (length P.level1)) all ∙ take_at Q.level1 Q.level2 (length P.level1) (sym l1) in
      let e2 = ap (drop (length P.level1)) all ∙ drop_at Q.level1 Q.level2 (length P.level1) (sym l1) in
      let e3 = edits_lead P.base Q.base f.ascending g.ascending in
      λ i. record { level1 = e1 i; level2 = e2 i; base = e3 i }
