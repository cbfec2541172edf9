-- The numbers of document 01's table stand for a state of the model: opening does, and each call keeps that and gives the model's answer.
-- Assumes nothing.
use Prim.Native.Nat.{ℕ, ◌^◌, ◌≤◌, ◌<◌}
use native.Mathlib.Omega.{arith}
use mathlib.Core.Path.{◌≡◌, refl, sym, ap, ap₂, ◌∙◌, subst, subst⁻¹}
use mathlib.Core.Bool.{Bool, true, false, cond, ◌&&◌}
use mathlib.Core.Logic.{◌↔◌}
use mathlib.Core.Option.{Option, none, some}
use mathlib.Core.List.{List, Permᴰ}
use lib.Dec.{ltb, leb}
use lib.ListN.{length, get_or}
use borrow.Author.Tests.{eqb-true, eq-eqb, leb-true, le-leb, ltb-false}
use Rattle.std.specs.Prelude.{Ok, Err}
use Rattle.answer.specs.Numbers.{Answer}
use Rattle.lists.specs.Entries.{Entry, assignable, find, update, remove}
use Rattle.lists.specs.Totals.{plan_count}
use Rattle.lists.proofs.Tests.{cond_true, and_one, and_two, and_both}
use Rattle.lists.proofs.Entries.{assignable_byte, update_found}
use Rattle.lists.proofs.Totals.{totals_length, totals-at}
use Rattle.hash.specs.Mix.{mix_of, unmix_of}
use Rattle.hash.proofs.Inverse.{mix_lt, unmix_lt, unmix_mix, mix_unmix}
use Rattle.answer.specs.declared.Cause.TheVariants.{Full}
use Rattle.identifier.specs.Identifier.{Token}
use Rattle.bucket.specs.declared.Bucket.{Bucket}
use Rattle.model.specs.Levels.{first_level, second_level}
use Rattle.model.specs.Model as M
use Rattle.model.specs.Model.{base_limit, Size, State, Call, add, change, withdraw, query, opened, with_live, would_leave, base, step_add, step_live, step}
use Rattle.model.specs.Request.{plan_allowed, word_for, ask_of, serve_read, serve, Request, ask, respond}
use Rattle.model.proofs.Requests.{word_small, word_plan}
use Rattle.table.specs.Table.{Table, total_numbers, open_table, changed_in, withdrawn_from, added_to}
use Rattle.table.specs.Layout.{leading, buckets1_at, buckets2_at, most_buckets1, in_range, numbers_of, unused_in, length_of}
use Rattle.table.specs.Content.{entries_of}
use Rattle.table.specs.Sound.{SoundLevel, SoundTable}
use Rattle.table.specs.Test.{shape_test}
use Rattle.table.specs.Calls.{rows, solutions, table_of, plan_in, shaped, sound, FlatSound, Outcome, turned_down, joined, replaced, queried, served, call_read, call, total_call}
use Rattle.table.specs.History.{request, flat_state}
use Rattle.table.proofs.Numbers.{AllShaped, ShapedTable, Laid, header_read, total_read, back, laid}
use Rattle.table.proofs.Stand.{Stands, open_stands, look, change_stands, withdraw_stands, based_length, add_stands}
use Rattle.table.proofs.Content.{table_entries, table_live}
use Rattle.table.proofs.Sound.{one_to_one, sound_stands, stands_sound}
use Rattle.table.proofs.Test.{test_sound, sound-test}

-- ---- the mix on 64 bits

keeps : (x : ℕ) → x < 2 ^ rows → mix_of x < 2 ^ rows
keeps x l = mix_lt x

keeps_u : (x : ℕ) → x < 2 ^ rows → unmix_of x < 2 ^ rows
keeps_u x l = unmix_lt x

one : (u v : ℕ) → u < 2 ^ rows → v < 2 ^ rows → mix_of u ≡ mix_of v → u ≡ v
one = one_to_one rows solutions mix_of unmix_of keeps keeps_u unmix_mix mix_unmix

-- ---- sound tables have the layout

level_shaped : (bs : List Bucket) → SoundLevel rows solutions mix_of bs → AllShaped rows solutions bs
level_shaped bs h i l = let b = h.buckets i l in record { cols = b.sound.inverse.cols; sols = b.wide }

pub sound-shaped : (T : Table) → SoundTable rows solutions mix_of unmix_of T → ShapedTable rows solutions T
sound-shaped T h = record { first = level_shaped T.level1 h.level1; second = level_shaped T.level2 h.level2; fits = h.fits; totalled = ap length h.totals ∙ totals_length total_numbers (entries_of rows unmix_of T) }

-- ---- numbers that stand for a state

pub record FlatStands (t : List ℕ) (s : State) : Type 0 where
  pub shape : shaped t ≡ true
  pub unused : (i : ℕ) → get_or (unused_in rows solutions t) i 0 ≡ 0
  pub stands : Stands rows solutions mix_of (table_of t) s

-- an answer and numbers that go with the model's answer and state
pub record Match (o : Outcome) (m : M.Outcome) : Type 0 where
  pub says : o.answer ≡ m.answer
  pub stands : FlatStands o.table m.after

match_test : (b : Bool) {o p : Outcome} {m q : M.Outcome} → (b ≡ true → Match o m) → (b ≡ false → Match p q) → Match (cond b o p) (cond b m q)
match_test true f g = f refl
match_test false f g = g refl

pub shape_range : (n r : ℕ) (t : List ℕ) → shape_test n r t ≡ true → in_range (get_or t buckets1_at 0) (get_or t buckets2_at 0) ≡ true
unfolding shape_test
shape_range n r t h = and_one (in_range (get_or t buckets1_at 0) (get_or t buckets2_at 0)) _ (and_two (leb leading (length t)) _ h)

pub shape_size : (n r : ℕ) (t : List ℕ) → shape_test n r t ≡ true → length t ≡ length_of n r (get_or t buckets1_at 0) (get_or t buckets2_at 0)
unfolding shape_test
shape_size n r t h = eqb-true _ _ (and_two (in_range (get_or t buckets1_at 0) (get_or t buckets2_at 0)) _ (and_two (leb leading (length t)) _ h))

size_shape : (t : List ℕ) → in_range (get_or t buckets1_at 0) (get_or t buckets2_at 0) ≡ true → length t ≡ length_of rows solutions (get_or t buckets1_at 0) (get_or t buckets2_at 0) → shaped t ≡ true
unfolding shape_test
size_shape t h e = and_both (le-leb leading (length t) (omega (arith, e))) (and_both h (eq-eqb _ _ e))

-- the shape of a table that stands for a state
stands_shaped : (T : Table) (s : State) → Stands rows solutions mix_of T s → ShapedTable rows solutions T
stands_shaped T s st = sound-shaped T (stands_sound rows solutions mix_of unmix_of keeps keeps_u unmix_mix mix_unmix T s st)

-- a table that stands for a state with bucket numbers in range, as numbers
pub numbers_stand : (T : Table) (s : State) → Stands rows solutions mix_of T s → in_range s.size.buckets1 s.size.buckets2 ≡ true → FlatStands (numbers_of T) s
unfolding numbers_of
numbers_stand T s st h =
    let g = stands_shaped T s st in
    let k = laid rows solutions T g in
    record {
      shape = size_shape (numbers_of T) (ap₂ in_range st.level1.count st.level2.count ∙ h) k.size;
      unused = k.unused;
      stands = subst⁻¹ (λ (U : Table). Stands rows solutions mix_of U s) (back rows solutions T g) st;
    }

module _ (t : List ℕ) (s : State) (h : FlatStands t s) where
  abbrev T₀ : Table
  T₀ = table_of t

  range : in_range s.size.buckets1 s.size.buckets2 ≡ true
  range =
      let k = header_read rows solutions t in
      ap₂ in_range (sym h.stands.level1.count ∙ k.0) (sym h.stands.level2.count ∙ k.1) ∙ shape_range rows solutions t h.shape

  pub stands_flat : FlatSound t
  stands_flat = record { table = stands_sound rows solutions mix_of unmix_of keeps keeps_u unmix_mix mix_unmix T₀ s h.stands; unused = h.unused }

  pub stands_test : sound t ≡ true
  stands_test = sound-test rows solutions mix_of unmix_of t stands_flat

  -- the state is the one that the table shows
  pub stands_shows : flat_state t ≡ s
  stands_shows = λ i. record {
    size = record { buckets1 = h.stands.level1.count i; buckets2 = h.stands.level2.count i };
    live = table_live rows solutions mix_of unmix_of keeps unmix_mix T₀ s h.stands i;
    bounds1 = h.stands.bounds1 i;
    bounds2 = h.stands.bounds2 i;
  }

  pub stands_look : (w : ℕ) → w < 2 ^ rows → plan_in t w ≡ find w s.live
  stands_look w l = look rows solutions mix_of keeps one T₀ s h.stands w l

  -- the total of a plan is the number of live words with it
  pub stands_total : (p : ℕ) → p < total_numbers → total_call t p ≡ Ok (plan_count p s.live)
  unfolding total_call
  stands_total p l =
      cond_true _ _ h.shape
      ∙ ap Ok (sym (total_read rows solutions t p l) ∙ ap (λ (ts : List ℕ). get_or ts p 0) h.stands.totalled ∙ totals-at total_numbers s.live p l)

  -- its occupied rows and base entries are the live words
  pub stands_entries : Permᴰ (entries_of rows unmix_of T₀) s.live
  stands_entries = table_entries rows solutions mix_of unmix_of keeps unmix_mix T₀ s h.stands

  module _ (w : ℕ) (l : w < 2 ^ rows) where
    -- the call goes as the model's does, by whether w is live
    by_plan : (f : Option ℕ → Outcome) (g : Option ℕ → M.Outcome) → (find w s.live ≡ none → Match (f none) (g none))
        → ((q : ℕ) → find w s.live ≡ some q → Match (f (some q)) (g (some q))) → Match (f (plan_in t w)) (g (find w s.live))
    by_plan f g a b = subst⁻¹ (λ (o : Option ℕ). Match (f o) (g (find w s.live))) (stands_look w l) (go (find w s.live) refl)
      where
        go : (o : Option ℕ) → find w s.live ≡ o → Match (f o) (g o)
        go none = a
        go (some q) = b q

    live_match : (u : ℕ → Table) (es : List Entry) → ((q : ℕ) → find w s.live ≡ some q → Stands rows solutions mix_of (u q) (with_live s es))
        → Match (replaced t u (plan_in t w)) (step_live s es (find w s.live))
    live_match u es k =
        by_plan (replaced t u) (step_live s es) (λ e. record { says = refl; stands = h }) (λ q e. record { says = refl; stands = numbers_stand (u q) (with_live s es) (k q e) range })

    add_match : (p : ℕ) → assignable p ≡ true
        → Match (joined t (added_to rows solutions mix_of T₀ (record { word = w; plan = p })) (plan_in t w)) (step first_level second_level s (add w p))
    add_match p a =
        let e : Entry = record { word = w; plan = p } in
        let fits : (w < 2 ^ rows) × (p < 2 ^ solutions) = (l, assignable_byte p a) in
        let u : Table = added_to rows solutions mix_of T₀ e in
        let t' : State = would_leave first_level second_level s e in
        by_plan (joined t u) (step_add first_level second_level s e)
        (λ f.
        subst⁻¹ (λ (k : ℕ). Match (cond (ltb base_limit k) (turned_down Full t) (record { answer = Ok u.count; table = numbers_of u })) (M.unless_full first_level second_level s t'))
        (based_length rows solutions mix_of keeps one T₀ s h.stands e fits a f)
        (match_test (ltb base_limit (length (base first_level second_level t'))) (λ b. record { says = refl; stands = h })
        (λ b.
        let k = add_stands rows solutions mix_of keeps one T₀ s h.stands e fits a f (ltb-false base_limit _ b) in
        record { says = ap Ok k.counted; stands = numbers_stand u t' k range })))
        (λ q f. record { says = refl; stands = h })

    -- the causes 15, 1, 2, 14, 4 and 5 are not met
    pub served_match : {I : Type 0} (c : Call I) → plan_allowed c ≡ true → Match (served t (ask_of w c)) (step first_level second_level s (ask_of w c))
    unfolding served
    served_match (add i p) k = add_match p k
    served_match (change i p) k = live_match (changed_in rows solutions mix_of T₀ w p) (update (record { word = w; plan = p }) s.live) (λ q f. change_stands rows solutions mix_of keeps one T₀ s h.stands w l p q (assignable_byte p k) k f)
    served_match (withdraw i) k = live_match (withdrawn_from rows solutions mix_of T₀ w) (remove w s.live) (λ q f. withdraw_stands rows solutions mix_of keeps one T₀ s h.stands w l q f)
    served_match (query i) k = by_plan (queried t) (step_live s s.live) (λ e. record { says = refl; stands = h }) (λ q e. record { says = refl; stands = h })

  -- the table that an accepted change leaves
  module _ (id : Token) (w p q : ℕ) (e : word_for (change id p) ≡ Ok w) (k : plan_in t w ≡ some q) where
    abbrev changed : Table
    changed = changed_in rows solutions mix_of T₀ w p q

    found : find w s.live ≡ some q
    found = sym (stands_look w (word_small (change id p) w e)) ∙ k

    changed_stands : Stands rows solutions mix_of changed (with_live s (update (record { word = w; plan = p }) s.live))
    changed_stands =
        let a = word_plan (change id p) w e in
        change_stands rows solutions mix_of keeps one T₀ s h.stands w (word_small (change id p) w e) p q (assignable_byte p a) a found

    -- its numbers give it back
    pub changed_back : table_of (numbers_of changed) ≡ changed
    changed_back = back rows solutions changed (stands_shaped changed _ changed_stands)

    pub changed_flat : FlatStands (numbers_of changed) (with_live s (update (record { word = w; plan = p }) s.live))
    changed_flat = numbers_stand changed _ changed_stands range

    -- the word has the plan
    pub changed-found : find w (update (record { word = w; plan = p }) s.live) ≡ some p
    changed-found = update_found (record { word = w; plan = p }) q s.live found

  -- each call follows the model
  pub call_match : (c : Call Token) → Match (call t c) (serve s c)
  unfolding call
  call_match c = go (word_for c) refl
    where
      go : (x : Answer) → word_for c ≡ x → Match (call_read t c x) (serve_read s c x)
      go (Err a) e = record { says = refl; stands = h }
      go (Ok w) e =
          subst⁻¹ (λ (o : Outcome). Match o (step first_level second_level s (ask_of w c))) (cond_true _ _ h.shape ∙ cond_true _ _ stands_test)
          (served_match w (word_small c w e) c (word_plan c w e))

  -- and so does each request
  pub request_match : (q : Request) → Match (request t q) (respond s q)
  request_match (ask c) = call_match c

-- ---- opening, and sound numbers

range_some : (b1 b2 : ℕ) → in_range b1 b2 ≡ true → (0 < b1) × (0 < b2)
range_some b1 b2 h =
    (leb-true 1 b1 (and_one (leb 1 b1) _ (and_one (leb 1 b1 && leb b1 most_buckets1) _ h)), leb-true 1 b2 (and_one (leb 1 b2) _ (and_two (leb 1 b1 && leb b1 most_buckets1) _ h)))

pub open_stands_flat : (z : Size) → in_range z.buckets1 z.buckets2 ≡ true → FlatStands (numbers_of (open_table rows solutions z.buckets1 z.buckets2)) (opened z)
open_stands_flat z h =
    let g = range_some z.buckets1 z.buckets2 h in
    numbers_stand (open_table rows solutions z.buckets1 z.buckets2) (opened z) (open_stands rows solutions mix_of z g.0 g.1) h

pub sound_stands_flat : (t : List ℕ) → shaped t ≡ true → FlatSound t → FlatStands t (flat_state t)
sound_stands_flat t k h = record { shape = k; unused = h.unused; stands = sound_stands rows solutions mix_of unmix_of keeps keeps_u unmix_mix mix_unmix refl (table_of t) h.table }

pub sound_laid : (t : List ℕ) → shaped t ≡ true → FlatSound t → Laid rows solutions t
sound_laid t k h = record {
  size = shape_size rows solutions t k;
  fits = subst (λ (c : ℕ). c ≤ base_limit) (header_read rows solutions t).2 h.table.fits;
  unused = h.unused;
}

-- the test says true exactly of sound tables
pub sound_exactly : (t : List ℕ) → shaped t ≡ true → ((i : ℕ) → get_or t i 0 < 2 ^ rows) → (sound t ≡ true) ↔ FlatSound t
sound_exactly t k b =
    let g = range_some (get_or t buckets1_at 0) (get_or t buckets2_at 0) (shape_range rows solutions t k) in
    (test_sound rows solutions mix_of unmix_of t refl (shape_size rows solutions t k) b g.0 g.1, sound-test rows solutions mix_of unmix_of t)
