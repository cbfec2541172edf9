-- The laws that others cite, each with the sentence of document 01 that it stands for, proved in the files named or here.
-- t is the list of the table's numbers, `table_of t` the table that it holds.
-- Assumes nothing.
use Prim.Native.Nat.{ℕ, ◌+◌, ◌*◌, ◌^◌, ◌<◌}
use native.Mathlib.Omega.{arith}
use mathlib.Core.Path.{◌≡◌, refl, ap, ◌∙◌, sym, subst, subst⁻¹}
use mathlib.Core.Bool.{true, false}
use mathlib.Core.Logic.{◌↔◌}
use mathlib.Core.Option.{Option, none, some}
use mathlib.Core.List.{List, ◌∷◌, ◌++◌, Permᴰ}
use lib.Dec.{eqb}
use lib.ListN.{length, get_or, set, take, drop}
use borrow.Author.Tests.{eqb-true, eq-eqb, ltb-true}
use Rattle.std.specs.Prelude.{Ok, Err}
use Rattle.lists.specs.Lists.{keep}
use Rattle.lists.specs.Entries.{Entry, plan_limit, desk_plan, assignable, words, find}
use Rattle.lists.specs.Totals.{plan_count, totals_of, sum_of}
use Rattle.lists.proofs.Tests.{cond_true}
use Rattle.lists.proofs.Keep.{keep_in, keep_out}
use Rattle.lists.proofs.Entries.{assignable_byte, find_mem, mem_find, keep_ascending}
use Rattle.gf2.specs.Vectors.{Clear}
use Rattle.gf2.specs.Bound.{Largest}
use Rattle.hash.specs.Mix.{mix_of, unmix_of}
use Rattle.hash.proofs.Inverse.{unmix_lt, mix_unmix}
use Rattle.answer.specs.declared.Cause.TheVariants.{NotLive, Full}
use Rattle.answer.specs.Numbers.{Answer, number_of, value_of}
use Rattle.answer.specs.Causes.{Cause, NoneMet, InOrder, Apart, Exactly}
use Rattle.answer.proofs.Causes.{number_exactly, accepted_exactly}
use Rattle.identifier.specs.Identifier.{Token, word_of, read_of, with_plan}
use Rattle.identifier.specs.Causes.{wrong_length, wrong_byte}
use Rattle.identifier.proofs.Causes.{OfIdentifier}
use Rattle.bucket.specs.declared.Bucket.{Bucket}
use Rattle.bucket.specs.Bucket.{lookup}
use Rattle.bucket_words.specs.Words.{bucket_words, words_of, bucket_from}
use Rattle.model.specs.Levels.{first_level, second_level, passed, due}
use Rattle.model.specs.Model.{State, Call, add, change, withdraw, query, opened, would_leave, base}
use Rattle.model.specs.Request.{subject, plan_allowed, word_for, ask_of, serve_read, Request, ask, calls_of}
use Rattle.model.specs.Machine.{accepted, after, answers, Alike, Refines}
use Rattle.model.specs.History.{model, adds_in, withdrawals_in, told}
use Rattle.model.proofs.Valid.{valid_opened}
use Rattle.model.proofs.Calls.{count_after, told-after}
use Rattle.model.proofs.Requests.{word_small, stands_for, respond_size}
use Rattle.model.proofs.Others.{found-other}
use Rattle.model.proofs.Statements as Model
use Rattle.table.specs.Table.{Table, total_numbers, with_first, with_second, bounds, nth, bucket_of, changed_in, withdrawn_from, added_to}
use Rattle.table.specs.Layout.{buckets1_at, buckets2_at, base_count_at, live_count_at, numbers_of, table_from, bucket_place, length_of, longest}
use Rattle.table.specs.Content.{entries_of}
use Rattle.table.specs.AtOnce.{added_at_once}
use Rattle.table.specs.Sound.{SoundTable}
use Rattle.table.specs.Answers.{Answered}
use Rattle.table.specs.Calls.{rows, solutions, table_of, plan_in, shaped, sound, FlatSound, Outcome, open_call, replaced, queried, served, call_read, call, total_call}
use Rattle.table.specs.History.{request, tables, Opened, accepted_calls, LiveWith, flat_state, Same}
use Rattle.table.specs.Causes.{open_causes, open_returns, wrong_table, not_sound, word_causes, call_causes, sound_causes, call_returns, total_causes, total_returns}
use Rattle.table.proofs.Numbers as Numbers
use Rattle.table.proofs.Numbers.{ShapedTable}
use Rattle.lists.proofs.Totals as Totals
use Rattle.table.proofs.Answers as Answers
use Rattle.table.proofs.AtOnce as AtOnce
use Rattle.table.proofs.Calls as Calls
use Rattle.table.proofs.Calls.{FlatStands}
use Rattle.table.proofs.History as History
use Rattle.table.proofs.Causes as Causes

-- ---- the layout

-- "Layout": a sound table's numbers give it back
pub numbers_table : (T : Table) → SoundTable rows solutions mix_of unmix_of T → table_of (numbers_of T) ≡ T
numbers_table T h = Numbers.back rows solutions T (Calls.sound-shaped T h)

-- and sound numbers are those of their table: nothing else is kept
pub table_numbers : (t : List ℕ) → shaped t ≡ true → FlatSound t → numbers_of (table_of t) ≡ t
table_numbers t k h = Numbers.forth rows solutions t (Calls.sound_laid t k h)

-- the header: buckets of level 1, of level 2, base count, live count
pub header_read : (t : List ℕ) → (length (table_of t).level1 ≡ get_or t buckets1_at 0) × (length (table_of t).level2 ≡ get_or t buckets2_at 0) × (length (table_of t).base ≡ get_or t base_count_at 0) × ((table_of t).count ≡ get_or t live_count_at 0)
header_read = Numbers.header_read rows solutions

-- document 02, order 2: "its length is 4 + 256 + 74 × buckets + 128", 536 for the smallest table and 6,308 for the largest
pub length_formula : (b1 b2 : ℕ) → length_of rows solutions b1 b2 ≡ 4 + 256 + 74 * (b1 + b2) + 128
length_formula b1 b2 = omega arith

pub lengths : (length_of rows solutions 1 1 ≡ 536) × (longest rows solutions ≡ 6308)
lengths = (refl, refl)

-- opening accepts that length alone
pub opened-length : (b1 b2 : ℕ) (t : List ℕ) → (open_call b1 b2 t).answer ≡ Ok 0 → length t ≡ 4 + 256 + 74 * (b1 + b2) + 128
opened-length b1 b2 t e = (History.open_cases b1 b2 t e).2 ∙ length_formula b1 b2

-- of any table whose shape is right
pub table_length : (t : List ℕ) → shaped t ≡ true → length t ≡ 4 + 256 + 74 * (get_or t buckets1_at 0 + get_or t buckets2_at 0) + 128
table_length t k = Calls.shape_size rows solutions t k ∙ length_formula (get_or t buckets1_at 0) (get_or t buckets2_at 0)

-- "74 per bucket, level 1 first": bucket i is read from its own stretch
pub read_first : (t : List ℕ) (i : ℕ) → i < get_or t buckets1_at 0
    → nth rows solutions (table_of t).level1 i ≡ bucket_from rows solutions (take (bucket_words rows solutions) (drop (bucket_place rows solutions i) t))
read_first t i l = Numbers.read_first rows solutions t i l ∙ sym (Numbers.from-part rows solutions (drop (bucket_place rows solutions i) t))

pub read_second : (t : List ℕ) (i : ℕ) → i < get_or t buckets2_at 0
    → nth rows solutions (table_of t).level2 i ≡ bucket_from rows solutions (take (bucket_words rows solutions) (drop (bucket_place rows solutions (get_or t buckets1_at 0 + i)) t))
read_second t i l = Numbers.read_second rows solutions t i l ∙ sym (Numbers.from-part rows solutions (drop (bucket_place rows solutions (get_or t buckets1_at 0 + i)) t))

-- base pair i
pub read_base : (t : List ℕ) (i : ℕ) (d : Entry) → i < get_or t base_count_at 0
    → get_or (table_of t).base i d
    ≡ record {
      word = get_or (drop (bucket_place rows solutions (get_or t buckets1_at 0 + get_or t buckets2_at 0)) t) (2 * i) 0;
      plan = get_or (drop (bucket_place rows solutions (get_or t buckets1_at 0 + get_or t buckets2_at 0)) t) (2 * i + 1) 0;
    }
read_base = Numbers.read_base rows solutions

module _ (T : Table) (h : ShapedTable rows solutions T) where
  -- "lends only the touched bucket's stretch of the table": one bucket replaced is its stretch replaced
  pub write_first : (i : ℕ) (b : Bucket) → i < length T.level1
      → numbers_of (with_first T (set T.level1 i b))
      ≡ take (bucket_place rows solutions i) (numbers_of T) ++ (words_of b ++ drop (bucket_place rows solutions i + bucket_words rows solutions) (numbers_of T))
  write_first = Numbers.write_first rows solutions T h

  pub write_second : (i : ℕ) (b : Bucket) → i < length T.level2
      → numbers_of (with_second T (set T.level2 i b))
      ≡ take (bucket_place rows solutions (length T.level1 + i)) (numbers_of T)
      ++ (words_of b ++ drop (bucket_place rows solutions (length T.level1 + i) + bucket_words rows solutions) (numbers_of T))
  write_second = Numbers.write_second rows solutions T h

-- ---- "An add goes to the place its word is due .. each withdrawn and added with its plan one level further"

-- handing each word on at once, as the document does, leaves the table of `added_to`
pub document_order : (T : Table) (e : Entry) → added_at_once rows solutions mix_of T e ≡ added_to rows solutions mix_of T e
document_order = AtOnce.at_once rows solutions mix_of

-- ---- "Sound"

-- the test that the calls make says true exactly of sound tables; the numbers of a table have 64 bits
pub sound_exactly : (t : List ℕ) → shaped t ≡ true → ((i : ℕ) → get_or t i 0 < 2 ^ 64) → (sound t ≡ true) ↔ FlatSound t
sound_exactly = Calls.sound_exactly

-- ---- "When a call is turned down"

-- "each number given if and only if its cause is the first met", with what is returned with it, and 0 with what is returned if none is met;
-- specs/Causes lists the causes of opening and of the calls, each in the document's words
pub open-causes : (b1 b2 : ℕ) (t : List ℕ) → Exactly (open_causes b1 b2 t) open_returns (open_call b1 b2 t).answer
open-causes = Causes.open_exactly

-- the numbers of a table have 64 bits
module _ (t : List ℕ) (b : (i : ℕ) → get_or t i 0 < 2 ^ 64) (c : Call Token) where
  pub call-causes : Exactly (call_causes t c) (call_returns t c) (call t c).answer
  call-causes = Causes.call_exactly t c b

  -- read for one cause x: the call gives its number, with v, exactly if x is met with v and no cause before it is met
  pub call_cause : (before : List Cause) (x : Cause) (after : List Cause) → call_causes t c ≡ before ++ (x ∷ after) → (v : ℕ)
      → ((number_of (call t c).answer ≡ x.number) × (value_of (call t c).answer ≡ v)) ↔ (NoneMet before × x.met v)
  call_cause before x after e =
      number_exactly before x after (call_returns t c) (call t c).answer (subst Apart e (Causes.call_apart t c))
      (subst (λ (cs : List Cause). Exactly cs (call_returns t c) (call t c).answer) e call-causes)

  -- "A call is accepted if it meets no cause"
  pub call-accepted : (v : ℕ)
      → ((number_of (call t c).answer ≡ 0) × (value_of (call t c).answer ≡ v)) ↔ (NoneMet (call_causes t c) × call_returns t c v)
  call-accepted = accepted_exactly (call_causes t c) (call_returns t c) (call t c).answer (Causes.call_apart t c) call-causes

-- a call gives 15, 1 or 2 exactly if reading its identifier does, whatever the table
pub as_read : (t : List ℕ) (c : Call Token) (n v : ℕ) → OfIdentifier n
    → ((number_of (call t c).answer ≡ n) × (value_of (call t c).answer ≡ v)) ↔ ((number_of (read_of (subject c)) ≡ n) × (value_of (read_of (subject c)) ≡ v))
as_read = Causes.as_read

-- document 02, order 3, "plan 255 given, after cause 2": 14 exactly if the identifier is one and the plan may not be given, whatever the
-- table
pub cause_14 : (t : List ℕ) (c : Call Token) → (number_of (call t c).answer ≡ 14) ↔ ((read_of (subject c) ≡ Ok (word_of (subject c))) × (plan_allowed c ≡ false))
cause_14 = Causes.cause_14

-- document 02, order 2, "The question for one plan tests only cause 4 and reads one number": 4 exactly if the shape is wrong, else the number
pub total-causes : (t : List ℕ) (p : ℕ) → Exactly (total_causes t) (total_returns t p) (total_call t p)
total-causes = Causes.total_exactly

-- "Order is the table's order"
pub open_order : (b1 b2 : ℕ) (t : List ℕ) → InOrder 0 (open_causes b1 b2 t)
open_order = Causes.open_order

-- (of document 02's causes 15 stands before 1, and 14 between 2 and 4: `call_causes`)
pub call_order : (t : List ℕ) (c : Call Token) → InOrder 0 (wrong_length (subject c) ∷ wrong_byte (subject c) ∷ wrong_table t ∷ not_sound t ∷ word_causes t c)
call_order = Causes.call_order

-- a call that meets none of 15, 1, 2, 14, 4 and 5 does what `served` says
pub causes_else : (t : List ℕ) (c : Call Token) (w : ℕ) → word_for c ≡ Ok w → shaped t ≡ true → sound t ≡ true → call t c ≡ served t (ask_of w c)
unfolding call
causes_else t c w e k h = ap (call_read t c) e ∙ cond_true _ _ k ∙ cond_true _ _ h

-- "Kept as it was"
pub refused_keeps : (t : List ℕ) (q : Request) → accepted (request t q).answer ≡ false → (request t q).table ≡ t
refused_keeps = History.request_refused

pub refused_opening : (b1 b2 : ℕ) (t : List ℕ) → accepted (open_call b1 b2 t).answer ≡ false → (open_call b1 b2 t).table ≡ t
refused_opening = History.open_refused

-- ---- the link to the model: FlatStands t s says that the numbers t stand for the state s (Calls)

-- "Opening sets each bound to 8": what an accepted opening left stands for the opened state
pub opening_stands : (t : List ℕ) (o : Opened t) → FlatStands t (opened o.size)
opening_stands = History.opened_stands

-- each call answers as the model does, and leaves a table that stands for the state that the model comes to
pub refines : Refines tables model FlatStands
refines = History.refines

-- a table that stands for a state is sound
pub stands_sound : (t : List ℕ) (s : State) → FlatStands t s → (shaped t ≡ true) × (sound t ≡ true) × FlatSound t
stands_sound t s h = (h.shape, Calls.stands_test t s h, Calls.stands_flat t s h)

-- every sound table stands for a state: the one that its occupied rows, base entries and bounds show
pub sound_stands : (t : List ℕ) → shaped t ≡ true → FlatSound t → FlatStands t (flat_state t)
sound_stands = Calls.sound_stands_flat

-- and for no other
pub stands_one : (t : List ℕ) (s : State) → FlatStands t s → flat_state t ≡ s
stands_one = Calls.stands_shows

-- so a call for a word of 64 bits leaves a sound table sound
pub served-sound : (t : List ℕ) → shaped t ≡ true → FlatSound t → (w : ℕ) → w < 2 ^ 64 → {I : Type 0} (c : Call I) → plan_allowed c ≡ true
    → (shaped (served t (ask_of w c)).table ≡ true) × FlatSound (served t (ask_of w c)).table
served-sound t k h w l c f =
    let m = Calls.served_match t (flat_state t) (sound_stands t k h) w l c f in
    (m.stands.shape, Calls.stands_flat (served t (ask_of w c)).table _ m.stands)

-- and any call for an identifier does
pub call-sound : (t : List ℕ) → shaped t ≡ true → FlatSound t → (c : Call Token) → (shaped (call t c).table ≡ true) × (sound (call t c).table ≡ true) × FlatSound (call t c).table
call-sound t k h c = stands_sound (call t c).table _ (Calls.call_match t (flat_state t) (sound_stands t k h) c).stands

-- with the same bucket numbers
pub call_size : (t : List ℕ) → shaped t ≡ true → FlatSound t → (c : Call Token) → (flat_state (call t c).table).size ≡ (flat_state t).size
call_size t k h c =
    let m = Calls.call_match t (flat_state t) (sound_stands t k h) c in
    ap (λ (s : State). s.size) (stands_one (call t c).table _ m.stands) ∙ respond_size (flat_state t) (ask c)

-- document 02, order 6, "withdrawn cards must leave no plan behind": whatever plan an identifier had, its withdrawal leaves the same numbers,
-- every one; for any sound table in which it is live, with the plan q, and any plan p that may be given
pub plan_forgotten : (t : List ℕ) → shaped t ≡ true → FlatSound t → (id : Token) (w p q : ℕ) → read_of id ≡ Ok w → assignable p ≡ true → plan_in t w ≡ some q
    → (call (call t (change id p)).table (withdraw id)).table ≡ (call t (withdraw id)).table
unfolding served
plan_forgotten t k h id w p q i a f =
    let s = sound_stands t k h in
    let for : word_for (change id p) ≡ Ok w = ap (with_plan (assignable p)) i ∙ cond_true _ _ a in
    let leave : word_for (withdraw id) ≡ Ok w = ap (with_plan true) i in
    let T : Table = table_of t in
    let C : Table = changed_in rows solutions mix_of T w p q in
    let u : List ℕ = numbers_of C in
    let st = Calls.changed_flat t (flat_state t) s id w p q for f in
    let sd = stands_sound u _ st in
    let plan : plan_in u w ≡ some p = Calls.stands_look u _ st w (word_small (change id p) w for) ∙ Calls.changed-found t (flat_state t) s id w p q for f in
    ap (λ (o : Outcome). (call o.table (withdraw id)).table) (causes_else t (change id p) w for k (stands_sound t _ s).1 ∙ ap (replaced t (changed_in rows solutions mix_of T w p)) f)
    ∙ ap (λ (o : Outcome). o.table) (causes_else u (withdraw id) w leave sd.0 sd.1 ∙ ap (replaced u (withdrawn_from rows solutions mix_of (table_of u) w)) plan)
    ∙ ap (λ (X : Table). numbers_of (withdrawn_from rows solutions mix_of X w p)) (Calls.changed_back t (flat_state t) s id w p q for f)
    ∙ ap numbers_of (Answers.table_forgotten rows solutions mix_of unmix_of T h.table w p q (assignable_byte p a) f)
    ∙ sym (ap (λ (o : Outcome). o.table) (causes_else t (withdraw id) w leave k (stands_sound t _ s).1 ∙ ap (replaced t (withdrawn_from rows solutions mix_of T w)) f))

-- ---- sound tables, also those handed in from elsewhere

-- the answer to a query is settled by what is found
queried-alike : (t u : List ℕ) (o : Option ℕ) → (queried t o).answer ≡ (queried u o).answer
queried-alike t u (some p) = refl
queried-alike t u none = refl

module _ (t : List ℕ) (k : shaped t ≡ true) (h : FlatSound t) where
  -- "In a sound table handed in from elsewhere the live words are those of its occupied rows and base entries"
  pub live_entries : Permᴰ (entries_of rows unmix_of (table_of t)) (flat_state t).live
  live_entries = Calls.stands_entries t (flat_state t) (sound_stands t k h)

  -- the three tests find the plan of a live word, and nothing for any other
  pub live-plans : (w : ℕ) → w < 2 ^ 64 → plan_in t w ≡ find w (flat_state t).live
  live-plans = Calls.stands_look t (flat_state t) (sound_stands t k h)

  -- "live count = occupied rows + base count"
  pub live_count : get_or t live_count_at 0 ≡ length (flat_state t).live
  unfolding table_from
  live_count = (sound_stands t k h).stands.counted

  -- document 02, order 2, "each total is the number of live words with that plan"
  pub totals : (table_of t).totals ≡ totals_of total_numbers (flat_state t).live
  totals = (sound_stands t k h).stands.totalled

  pub total_exact : (p : ℕ) → p < plan_limit → total_call t p ≡ Ok (plan_count p (flat_state t).live)
  total_exact = Calls.stands_total t (flat_state t) (sound_stands t k h)

  -- the totals sum to the live count
  pub totals_sum : sum_of (table_of t).totals ≡ get_or t live_count_at 0
  totals_sum =
      ap sum_of totals ∙ Totals.totals_sum total_numbers (flat_state t).live (λ e m. ((sound_stands t k h).stands.small e m).1) ∙ sym live_count

  -- document 02, order 3: no live word has the desk's plan
  pub live_given : (w p : ℕ) → find w (flat_state t).live ≡ some p → assignable p ≡ true
  live_given w p e = (sound_stands t k h).stands.given (record { word = w; plan = p }) (find_mem w p (flat_state t).live e)

  -- so its total, which may be asked, is 0
  pub desk_total : total_call t desk_plan ≡ Ok 0
  desk_total =
      total_exact desk_plan (omega arith)
      ∙ ap Ok (Totals.count_none desk_plan (flat_state t).live (λ e m q. let l = ltb-true e.plan desk_plan ((sound_stands t k h).stands.given e m) in omega arith))

  -- document 02, order 6, "In every table row j of Z is 0 for each free row j": of each bucket, first level and second
  pub free_rows_clear : ((i : ℕ) → i < length (table_of t).level1 → Clear (nth rows solutions (table_of t).level1 i).mark (nth rows solutions (table_of t).level1 i).sols)
      × ((i : ℕ) → i < length (table_of t).level2 → Clear (nth rows solutions (table_of t).level2 i).mark (nth rows solutions (table_of t).level2 i).sols)
  free_rows_clear = (Answers.rows-clear rows solutions mix_of (table_of t).level1 h.table.level1, Answers.rows-clear rows solutions mix_of (table_of t).level2 h.table.level2)

  -- "A bucket then answers any vector with the XOR of the plans of the live vectors in its combination of K's rows": first level, where a
  -- vector is a word
  pub answers-first : (v : ℕ) → v < 2 ^ 64 → Answered rows (plan_in t) (bucket_of rows solutions mix_of (table_of t).level1 v) v (lookup (bucket_of rows solutions mix_of (table_of t).level1 v) v)
  answers-first = Answers.answered_first rows solutions mix_of unmix_of (table_of t) h.table

  -- second level, where the word of the vector v is U(U(v)), U the inverse of S
  pub answers-second : (v : ℕ) → v < 2 ^ 64
      → Answered rows (λ v. plan_in t (unmix_of (unmix_of v))) (bucket_of rows solutions mix_of (table_of t).level2 v) v (lookup (bucket_of rows solutions mix_of (table_of t).level2 v) v)
  answers-second = Answers.answered_second rows solutions mix_of unmix_of (table_of t) h.table (λ v l. ap mix_of (mix_unmix (unmix_of v) (unmix_lt v)) ∙ mix_unmix v l)

  query_plan : (i : Token) (w : ℕ) → word_for (query i) ≡ Ok w → call t (query i) ≡ queried t (find w (flat_state t).live)
  unfolding served
  query_plan i w e = causes_else t (query i) w e k (stands_sound t _ (sound_stands t k h)).1 ∙ ap (queried t) (live-plans w (word_small (query i) w e))

  -- "query the plan", and 7 where the word is not live
  pub query_live : (i : Token) (w p : ℕ) → word_for (query i) ≡ Ok w → find w (flat_state t).live ≡ some p → call t (query i) ≡ record { answer = Ok p; table = t }
  query_live i w p e f = query_plan i w e ∙ ap (queried t) f

  pub query_other : (i : Token) (w : ℕ) → word_for (query i) ≡ Ok w → find w (flat_state t).live ≡ none → call t (query i) ≡ record { answer = Err NotLive; table = t }
  query_other i w e f = query_plan i w e ∙ ap (queried t) f

  -- document 02, order 4: a call for another word, accepted or not, leaves what the table has of the word w
  pub other-plan : (c : Call Token) (w : ℕ) → w < 2 ^ 64 → (w ≡ word_of (subject c) → ⊥) → plan_in (call t c).table w ≡ plan_in t w
  other-plan c w l ne =
      let st = sound_stands t k h in
      Calls.stands_look (call t c).table _ (Calls.call_match t (flat_state t) st c).stands w l ∙ found-other (flat_state t) st.stands.valid w c ne ∙ sym (live-plans w l)

  -- so a query for that word gets the same answer after it as before
  pub other_query : (c : Call Token) (i : Token) (w : ℕ) → word_for (query i) ≡ Ok w → (w ≡ word_of (subject c) → ⊥) → (call (call t c).table (query i)).answer ≡ (call t (query i)).answer
  unfolding served
  other_query c i w e ne =
      let u : List ℕ = (call t c).table in
      let s = call-sound t k h c in
      ap (λ (o : Outcome). o.answer) (causes_else u (query i) w e s.0 s.1)
      ∙ ap (λ (o : Option ℕ). (queried u o).answer) (other-plan c w (word_small (query i) w e) ne)
      ∙ queried-alike u t (plan_in t w)
      ∙ sym (ap (λ (o : Outcome). o.answer) (causes_else t (query i) w e k (stands_sound t _ (sound_stands t k h)).1))

  module _ (i : Token) (p : ℕ) where
    -- statement 3, the rule of the bounds: after an accepted add each is the largest number, not above the old one, under which no
    -- non-empty selection of the words due there XORs to zero; first level
    pub bounds-first : accepted (call t (add i p)).answer ≡ true → (j : ℕ) → j < (flat_state t).size.buckets1
        → Largest (get_or (flat_state t).bounds1 j 0)
        (due first_level (flat_state t).size.buckets1 (words (flat_state (call t (add i p)).table).live) j)
        (get_or (flat_state (call t (add i p)).table).bounds1 j 0)
    bounds-first a j q =
        subst⁻¹ (λ (u : State). Largest (get_or (flat_state t).bounds1 j 0) (due first_level (flat_state t).size.buckets1 (words u.live) j) (get_or u.bounds1 j 0))
        (History.left t k h i p a) (Model.bounds-first first_level second_level (flat_state t) _ (History.took t k h i p a) j q)

    -- then the second, where the words are due that the first does not hold now
    pub bounds-second : accepted (call t (add i p)).answer ≡ true → (j : ℕ) → j < (flat_state t).size.buckets2
        → Largest (get_or (flat_state t).bounds2 j 0)
        (due second_level (flat_state t).size.buckets2
        (passed first_level (flat_state t).size.buckets1 (flat_state (call t (add i p)).table).bounds1 (words (flat_state (call t (add i p)).table).live)) j)
        (get_or (flat_state (call t (add i p)).table).bounds2 j 0)
    bounds-second a j q =
        subst⁻¹ (λ (u : State). Largest (get_or (flat_state t).bounds2 j 0) (due second_level (flat_state t).size.buckets2 (passed first_level (flat_state t).size.buckets1 u.bounds1 (words u.live)) j) (get_or u.bounds2 j 0))
        (History.left t k h i p a) (Model.bounds-second first_level second_level (flat_state t) _ (History.took t k h i p a) j q)

    -- statement 3, the rule of the base list: refused as full exactly when more than 64 words would fall to the base list under the bounds
    -- that the add would so leave
    pub full_exactly : (w : ℕ) → word_for (add i p) ≡ Ok w → find w (flat_state t).live ≡ none
        → ((call t (add i p)).answer ≡ Err Full) ↔ (64 < length (base first_level second_level (would_leave first_level second_level (flat_state t) (record { word = w; plan = p }))))
    full_exactly w q f =
        subst⁻¹ (λ (a : Answer). (a ≡ Err Full) ↔ (64 < length (base first_level second_level (would_leave first_level second_level (flat_state t) (record { word = w; plan = p })))))
        ((History.m t k h i p).says ∙ ap (λ (x : Answer). (serve_read (flat_state t) (add i p) x).answer) q) (Model.full_exactly first_level second_level (flat_state t) _ f)

-- two sound tables that statement 3 calls equal have equal totals, so they answer each question for one alike
pub same_totals : (t u : List ℕ) → shaped t ≡ true → FlatSound t → shaped u ≡ true → FlatSound u → Same t u
    → ((table_of t).totals ≡ (table_of u).totals) × ((p : ℕ) → p < plan_limit → total_call t p ≡ total_call u p)
same_totals t u k h j g e =
    let live = ap (λ (s : State). s.live) e in (
      totals t k h ∙ ap (totals_of total_numbers) live ∙ sym (totals u j g),
      λ p l. total_exact t k h p l ∙ ap (λ (es : List Entry). Ok (plan_count p es)) live ∙ sym (total_exact u j g p l),
    )

-- ---- "A list of calls": t is what an accepted opening left, ps any requests, refused ones included

-- statement 3, the claim about lists: where two tables are then equal in bucket numbers, live words, plans and bounds, each further
-- request of every list gets the same answer from both, and they are equal in these again after each
pub statement_3 : (t u : List ℕ) → Opened t → Opened u → (ps qs : List Request) → Same (after tables t ps) (after tables u qs)
    → (cs : List Request) → Alike tables Same (after tables t ps) (after tables u qs) cs
statement_3 t u o r = Model.statement_3 tables model FlatStands refines Same History.compares t u _ _ (opening_stands t o) (opening_stands u r)

module _ (t : List ℕ) (o : Opened t) (ps : List Request) where
  -- "So the opening and these calls alone settle every answer and bound"
  pub settles : (answers tables t ps ≡ answers model (opened o.size) ps)
      × (flat_state (after tables t ps) ≡ after model (opened o.size) ps)
  settles =
      let r = Model.settles tables model FlatStands refines t (opened o.size) (opening_stands t o) ps in
      (r.0, stands_one (after tables t ps) _ r.1)

  -- an opening fixes the bucket numbers: no call changes them
  pub list_size : (flat_state (after tables t ps)).size ≡ o.size
  list_size = ap (λ (s : State). s.size) settles.1 ∙ History.size_after (opened o.size) ps

  -- "the table itself never gives cause 4 or 5 in a list": it is sound after each call
  pub always_sound : (shaped (after tables t ps) ≡ true) × (sound (after tables t ps) ≡ true) × FlatSound (after tables t ps)
  always_sound = stands_sound (after tables t ps) _ (History.after_stands t o ps)

  pub never_4_5 : (q : Request) → (number_of (request (after tables t ps) q).answer ≡ 4 → ⊥) × (number_of (request (after tables t ps) q).answer ≡ 5 → ⊥)
  never_4_5 q =
      subst⁻¹ (λ (a : Answer). (number_of a ≡ 4 → ⊥) × (number_of a ≡ 5 → ⊥)) (refines.says _ _ q (History.after_stands t o ps)) (Model.never_4_5 (after model (opened o.size) ps) q)

  -- so the answer to each further call is that of the first cause met, of 15, 1, 2, 14 and those of its word
  pub list_causes : (c : Call Token) → Exactly (sound_causes (after tables t ps) c) (call_returns (after tables t ps) c) (call (after tables t ps) c).answer
  list_causes c = Causes.sound-call (after tables t ps) c always_sound.0 always_sound.2

  -- "After each call its occupied rows and base entries hold just the live words, and its stored bounds are these": the model's
  pub holds-live : Permᴰ (entries_of rows unmix_of (table_of (after tables t ps))) (after model (opened o.size) ps).live
  holds-live = Calls.stands_entries (after tables t ps) _ (History.after_stands t o ps)

  pub stored_bounds : (bounds (table_of (after tables t ps)).level1 ≡ (after model (opened o.size) ps).bounds1)
      × (bounds (table_of (after tables t ps)).level2 ≡ (after model (opened o.size) ps).bounds2)
  stored_bounds = let h = History.after_stands t o ps in (h.stands.bounds1, h.stands.bounds2)

  -- "The live count equals accepted adds less accepted withdrawals since opening"
  pub count : get_or (after tables t ps) live_count_at 0 + withdrawals_in (accepted_calls t ps) ≡ adds_in (accepted_calls t ps)
  unfolding table_from
  count =
      let c : get_or (after tables t ps) live_count_at 0 ≡ length (after model (opened o.size) ps).live = (History.after_stands t o ps).stands.counted in
      subst (λ (cs : List (Call ℕ)). get_or (after tables t ps) live_count_at 0 + withdrawals_in cs ≡ adds_in cs) (History.same_calls t o ps)
      (let h = count_after first_level second_level model calls_of stands_for (opened o.size) (valid_opened first_level second_level o.size) ps in omega arith)

  -- statement 2, the table's half: a word is live if, of its accepted adds and withdrawals, the last is an add; its plan is that of its last
  -- accepted add or change; every other word is not live
  pub plan : (v : ℕ) → v < 2 ^ 64 → plan_in (after tables t ps) v ≡ told v (accepted_calls t ps)
  plan v l =
      Calls.stands_look (after tables t ps) _ (History.after_stands t o ps) v l
      ∙ told-after first_level second_level model calls_of stands_for v (opened o.size) (valid_opened first_level second_level o.size) false 0 refl ps
      ∙ ap (told v) (History.same_calls t o ps)

  -- document 02, order 6: after any list each bucket answers any vector with the XOR of the last accepted plans of the live words whose
  -- vectors are in its combination; first level
  pub list_answers_first : (v : ℕ) → v < 2 ^ 64 → let b = bucket_of rows solutions mix_of (table_of (after tables t ps)).level1 v in
      Answered rows (λ u. told u (accepted_calls t ps)) b v (lookup b v)
  list_answers_first v l = Answers.answered_as rows _ _ (λ u s. sym (plan u s)) (answers-first (after tables t ps) always_sound.0 always_sound.2 v l)

  -- second level
  pub list_answers_second : (v : ℕ) → v < 2 ^ 64 → let b = bucket_of rows solutions mix_of (table_of (after tables t ps)).level2 v in
      Answered rows (λ u. told (unmix_of (unmix_of u)) (accepted_calls t ps)) b v (lookup b v)
  list_answers_second v l =
      Answers.answered_as rows _ _ (λ u s. sym (plan (unmix_of (unmix_of u)) (unmix_lt (unmix_of u)))) (answers-second (after tables t ps) always_sound.0 always_sound.2 v l)

  -- document 02, order 3: after any list no live word has the desk's plan
  pub plan_given : (v p : ℕ) → v < 2 ^ 64 → told v (accepted_calls t ps) ≡ some p → assignable p ≡ true
  plan_given v p l e =
      let st = History.after_stands t o ps in
      st.stands.given (record { word = v; plan = p })
      (find_mem v p (after model (opened o.size) ps).live (sym (Calls.stands_look (after tables t ps) _ st v l) ∙ plan v l ∙ e))

  -- so a query of an identifier gives the last accepted plan of its word (`queried`: Ok), or says that it is not live
  pub query_tells : (i : Token) (w : ℕ) → word_for (query i) ≡ Ok w → call (after tables t ps) (query i) ≡ queried (after tables t ps) (told w (accepted_calls t ps))
  unfolding served
  query_tells i w e =
      causes_else (after tables t ps) (query i) w e always_sound.0 always_sound.1 ∙ ap (queried (after tables t ps)) (plan w (word_small (query i) w e))

  -- document 02, order 2: after any list the question for a plan gets the number of words then live with it, as the model has them
  pub total_after : (p : ℕ) → p < plan_limit → total_call (after tables t ps) p ≡ Ok (plan_count p (after model (opened o.size) ps).live)
  total_after = Calls.stands_total (after tables t ps) _ (History.after_stands t o ps)

  -- and as the accepted calls tell them
  pub total_told : (p : ℕ) → p < plan_limit → (k : ℕ) × (total_call (after tables t ps) p ≡ Ok k) × LiveWith p (accepted_calls t ps) k
  total_told p l =
      let s = after model (opened o.size) ps in
      let st = History.after_stands t o ps in
      let seen : (v : ℕ) → v < 2 ^ 64 → find v s.live ≡ told v (accepted_calls t ps) = (λ v b. sym (Calls.stands_look (after tables t ps) s st v b) ∙ plan v b) in (
        plan_count p s.live,
        total_after p l,
        record {
          listed = keep (λ e. eqb e.plan p) s.live;
          ascending = keep_ascending (λ e. eqb e.plan p) s.live st.stands.valid.ascending;
          fits = λ e m. let q = keep_out _ s.live e m in ((st.stands.small e q.0).0, eqb-true _ _ q.1);
          exactly = λ v b. (
            λ m. sym (seen v b) ∙ mem_find s.live st.stands.valid.ascending _ (keep_out _ s.live _ m).0,
            λ f. keep_in _ s.live (find_mem v p s.live (seen v b ∙ f)) (eq-eqb p p refl),
          );
          number = refl;
        },
      )
