-- The three statements, over the definitions that the contracts of the entries cite: `open_call`, `call`, `total_call`, `write_call`, `lookup_call`, `make_call`, `apply_call`. Each theorem stands
-- under the words that it is for; the crates named prove it. docs/READING.md lists the definitions that it takes to read this file.
-- Assumes nothing.
use Prim.Native.Nat.{ℕ, suc, ◌+◌, ◌*◌, ◌^◌, ◌≤◌, ◌<◌}
use mathlib.Core.Path.{◌≡◌, refl, sym, ap, ap₂, ◌∙◌, subst⁻¹}
use mathlib.Core.Bool.{true, false}
use mathlib.Core.Logic.{◌⊎◌, ⊎_elim, ◌↔◌}
use mathlib.Core.Option.{none, some}
use mathlib.Core.List.{List, [], ◌∷◌, ◌++◌}
use native.Mathlib.Omega.{arith}
use lib.ListN.{length, get_or, take, drop}
use lib.Dec.{leb}
use borrow.Author.Tests.{leb-true, ltb-true, ltb-false, le-ltb}
use Rattle.std.specs.Prelude.{Ok, Err}
use Rattle.lists.proofs.Tests.{cases, and_one, and_two}
use Rattle.lists.specs.Entries.{plan_limit, desk_plan, assignable, words, find}
use Rattle.lists.specs.Totals.{plan_count}
use Rattle.gf2.specs.Vectors.{product, combine, Inverse, Clear}
use Rattle.gf2.specs.Bound.{Largest}
use Rattle.gf2.proofs.Depend.{forth}
use Rattle.hash.specs.Mix.{mix_of, unmix_of}
use Rattle.hash.specs.Fnv.{fnv_of}
use Rattle.answer.specs.declared.Cause.TheVariants.{WrongLength, WrongByte, WrongBuckets, WrongTable, NotSound, Live, NotLive, Full, ShortOutput, WrongPlane, UnlikePlanes, WrongPatch, WrongSum, DeskPlanGiven, WrongKind}
use Rattle.answer.specs.Numbers.{Answer, number_of, value_of}
use Rattle.answer.specs.Causes.{Exactly}
use Rattle.answer.proofs.Causes.{test_apart, number_exactly, accepted_exactly}
use Rattle.identifier.specs.Identifier.{between, Token, id_bytes, word_of, read_of, with_plan, only_case}
use Rattle.identifier.specs.Causes.{wrong_kind, wrong_length, wrong_byte, id_causes}
use Rattle.identifier.specs.Place.{second_of}
use Rattle.identifier.proofs.Causes.{OfIdentifier, range_exactly, read_exactly, read_word}
use Rattle.identifier.proofs.Words as Words
use Rattle.identifier.proofs.Words.{read_case, kinds_differ}
use Rattle.bucket.specs.declared.Bucket.{Bucket}
use Rattle.bucket.specs.Bucket.{Sound, lookup}
use Rattle.bucket.specs.Answers.{live_in, combined}
use Rattle.bucket.proofs.Answers as Bucket
use Rattle.model.specs.Levels.{first_level, second_level, passed, due}
use Rattle.model.specs.Model.{Call, opened, add, change, withdraw, query, would_leave, base}
use Rattle.model.specs.Request.{subject, word_for, Request, ask}
use Rattle.model.specs.Machine.{accepted, after, answers, Alike}
use Rattle.model.specs.History.{model, adds_in, withdrawals_in, told}
use Rattle.model.proofs.Others.{told-other}
use Rattle.table.specs.Table as T
use Rattle.table.specs.Table.{nth, bucket_of}
use Rattle.table.specs.Layout.{buckets1_at, buckets2_at, live_count_at}
use Rattle.table.specs.Answers.{Answered}
use Rattle.table.specs.Calls.{rows, solutions, table_of, plan_in, shaped, FlatSound, open_call, queried, call, total_call}
use Rattle.table.specs.History.{tables, Opened, accepted_calls, LiveWith, flat_state, Same}
use Rattle.table.specs.Causes.{open_causes, open_returns, call_causes, sound_causes, call_returns, total_causes, total_returns}
use Rattle.table.proofs.Statements as Table
use Rattle.plane.specs.Record.{format1}
use Rattle.plane.specs.Plane.{wrong_at, plane_from}
use Rattle.plane.specs.Lookup.{holds, lookup_call}
use Rattle.plane.specs.Causes.{lookup_causes, lookup_returns}
use Rattle.plane.proofs.Causes as PlaneCauses
use Rattle.plane.proofs.Desk.{stranger_answer}
use Rattle.plane_write.specs.Write.{Written, put_front, write_call, shown_to}
use Rattle.plane_write.specs.Causes.{write_causes, write_returns}
use Rattle.plane_write.proofs.Accepted.{was-written, front_room}
use Rattle.plane_write.proofs.Statements as Plane
use Rattle.patch.specs.Patch.{patch_bytes, patch_of}
use Rattle.patch.specs.Wrong.{patch_from}
use Rattle.patch.specs.Calls.{alike, make_call, apply_call}
use Rattle.patch.specs.Causes.{make_causes, make_returns, apply_causes, apply_returns}
use Rattle.patch.proofs.Causes as Patch
use Rattle.patch.proofs.Longest.{made_most}
use Rattle.patch.proofs.Statements.{make_made}
use Rattle.patch.proofs.Calls as Calls
use Rattle.patch.proofs.Calls.{make_refused, apply_refused, made, done}
use Rattle.patch_make.specs.After.{plane_in, plane_after}
use Rattle.patch_make.proofs.Costs.{change_costs, same_costs, change-length, change_room}
use Rattle.patch_make.proofs.Lists.{list_follows, list_new, plane_tells}

-- ---- statement 1: "Any bytes as identifier, table or plane are answered or turned down by a number of document 01's table, without fault", and any
-- as patch; document 02's orders add their numbers. No entry has a `requires`, and every function is proved safe and ending

-- "by a number of document 01's table", 11 to 13 of order 1, 14 of order 3 or 15 of order 4
pub numbers : (a : Answer) → number_of a ≤ 15
numbers (Ok n) = omega arith
numbers (Err (WrongLength n)) = omega arith
numbers (Err (WrongByte i)) = omega arith
numbers (Err WrongBuckets) = omega arith
numbers (Err (WrongTable n)) = omega arith
numbers (Err NotSound) = omega arith
numbers (Err (Live p)) = omega arith
numbers (Err NotLive) = omega arith
numbers (Err Full) = omega arith
numbers (Err (ShortOutput n)) = omega arith
numbers (Err (WrongPlane i)) = omega arith
numbers (Err UnlikePlanes) = omega arith
numbers (Err (WrongPatch i)) = omega arith
numbers (Err WrongSum) = omega arith
numbers (Err DeskPlanGiven) = omega arith
numbers (Err WrongKind) = omega arith

-- "each number given if and only if its cause is the first met", and what is returned with it: specs/Causes of the crates named list the causes
-- of each entry in the document's words
pub open-causes : (b1 b2 : ℕ) (t : List ℕ) → Exactly (open_causes b1 b2 t) open_returns (open_call b1 b2 t).answer
open-causes = Table.open-causes

-- the numbers of a table have 64 bits, as those of every `&[u64]`
pub call-causes : (t : List ℕ) → ((i : ℕ) → get_or t i 0 < 2 ^ 64) → (c : Call Token) → Exactly (call_causes t c) (call_returns t c) (call t c).answer
call-causes = Table.call-causes

-- document 02, order 2: 4 exactly if the table's shape is wrong, else one number is read
pub total-causes : (t : List ℕ) (p : ℕ) → Exactly (total_causes t) (total_returns t p) (total_call t p)
total-causes = Table.total-causes

pub write-causes : (t out : List ℕ) → ((i : ℕ) → get_or t i 0 < 2 ^ 64) → Exactly (write_causes t out) (write_returns t) (write_call t out).answer
write-causes = Plane.write-causes

pub lookup-causes : (id : Token) (p : List ℕ) → Exactly (lookup_causes id p) (lookup_returns id p) (lookup_call id p)
lookup-causes = Plane.lookup-causes

pub make-causes : (p q out : List ℕ) → Exactly (make_causes p q out) (make_returns p q) (make_call p q out).answer
make-causes = Patch.make_exactly

pub apply-causes : (p d out : List ℕ) → Exactly (apply_causes p d out) (apply_returns p d) (apply_call p d out).answer
apply-causes = Patch.apply_exactly

-- "a call turned down leaves table and output exactly as they were"
pub open_keeps : (b1 b2 : ℕ) (t : List ℕ) → accepted (open_call b1 b2 t).answer ≡ false → (open_call b1 b2 t).table ≡ t
open_keeps = Table.refused_opening

pub call_keeps : (t : List ℕ) (c : Call Token) → accepted (call t c).answer ≡ false → (call t c).table ≡ t
call_keeps t c = Table.refused_keeps t (ask c)

pub write_keeps : (t out : List ℕ) → accepted (write_call t out).answer ≡ false → (write_call t out).output ≡ out
write_keeps = Plane.refused_keeps

pub make_keeps : (p q out : List ℕ) → accepted (make_call p q out).answer ≡ false → (make_call p q out).output ≡ out
make_keeps p q out = make_refused out p q

pub apply_keeps : (p d out : List ℕ) → accepted (apply_call p d out).answer ≡ false → (apply_call p d out).output ≡ out
apply_keeps p d out = apply_refused out p d

-- "output past it is untouched": an accepted call of the writer, of making or of applying returns n, the output has n bytes or more, and those past the
-- first n are what they were
pub write_past : (t out : List ℕ) (n : ℕ) → (write_call t out).answer ≡ Ok n → (n ≤ length out) × (drop n (write_call t out).output ≡ drop n out)
write_past t out n e = let h = was-written t out n e in (h.room, h.rest)

pub make_past : (p q out : List ℕ) (n : ℕ) → (make_call p q out).answer ≡ Ok n → (n ≤ length out) × (drop n (make_call p q out).output ≡ drop n out)
make_past p q out n e = let h = (made p q out n e).patch in (h.room, h.rest)

pub apply_past : (p d out : List ℕ) (n : ℕ) → (apply_call p d out).answer ≡ Ok n → (n ≤ length out) × (drop n (apply_call p d out).output ≡ drop n out)
apply_past p d out n e = let h = (done p d out n e).plane in (h.room, h.rest)

-- ---- statement 2: t is what an accepted opening left, ps any calls since, refused ones included

module _ (t : List ℕ) (o : Opened t) (ps : List Request) where
  -- "every live identifier gives its word's last accepted plan, from the table" (`told`, `queried`: Ok); "the table says not live of every
  -- other word"
  pub plan-from_table : (i : Token) (w : ℕ) → word_for (query i) ≡ Ok w → call (after tables t ps) (query i) ≡ queried (after tables t ps) (told w (accepted_calls t ps))
  plan-from_table = Table.query_tells t o ps

  -- "So the opening and these calls alone settle every answer and bound": they are those of the model, which has the bucket numbers, live words, plans and
  -- bounds, and no matrix
  pub settles : (answers tables t ps ≡ answers model (opened o.size) ps) × (flat_state (after tables t ps) ≡ after model (opened o.size) ps)
  settles = Table.settles t o ps

  -- "the table itself never gives cause 4 or 5 in a list": after any calls it is sound
  pub always_sound : (shaped (after tables t ps) ≡ true) × FlatSound (after tables t ps)
  always_sound = let h = Table.always_sound t o ps in (h.0, h.2)

  pub never_4_5 : (c : Call Token) → (number_of (call (after tables t ps) c).answer ≡ 4 → ⊥) × (number_of (call (after tables t ps) c).answer ≡ 5 → ⊥)
  never_4_5 c = Table.never_4_5 t o ps (ask c)

  -- "The live count equals accepted adds less accepted withdrawals since opening": the one that the table holds
  pub count : get_or (after tables t ps) live_count_at 0 + withdrawals_in (accepted_calls t ps) ≡ adds_in (accepted_calls t ps)
  count = Table.count t o ps

  -- and the one that an accepted add returns, with which it counts itself
  pub add_counts : (i : Token) (p n : ℕ) → (call (after tables t ps) (add i p)).answer ≡ Ok n → n + withdrawals_in (accepted_calls t ps) ≡ suc (adds_in (accepted_calls t ps))
  add_counts i p n e =
      let u : List ℕ = after tables t ps in
      let x = accepted_exactly (sound_causes u (add i p)) (call_returns u (add i p)) (call u (add i p)).answer (test_apart (sound_causes u (add i p)) refl) (Table.list_causes t o ps (add i p)) n in
      let r : n ≡ suc (length (flat_state u).live) = (x.0 (ap number_of e, ap value_of e)).1 in
      let l = Table.live_count u always_sound.0 always_sound.1 in
      let c = count in
      omega arith

  module _ (out : List ℕ) (n : ℕ) (e : (write_call (after tables t ps) out).answer ≡ Ok n) where
    -- "and from the plane": n bytes were written
    pub plan-from-plane : (id : Token) (w p : ℕ) → read_of id ≡ Ok w → told w (accepted_calls t ps) ≡ some p
        → lookup_call id (take n (write_call (after tables t ps) out).output) ≡ Ok p
    plan-from-plane = Plane.last-plan t o ps out n e

    -- "a plane written and read again answers for each identifier as the table's own XOR words or base list do"
    pub plane_as_table : (id : Token) → lookup_call id (take n (write_call (after tables t ps) out).output) ≡ shown_to (table_of (after tables t ps)) (read_of id)
    plane_as_table = Plane.list_gives t o ps out n e

-- ---- head counts, document 02, order 2: "After any list the answer is the number of words then live with that plan" (`LiveWith`: they are listed, as
-- the accepted calls tell them)

pub head_count : (t : List ℕ) → Opened t → (ps : List Request) (p : ℕ) → p < plan_limit → (k : ℕ) × (total_call (after tables t ps) p ≡ Ok k) × LiveWith p (accepted_calls t ps) k
head_count = Table.total_told

-- any sound table, also one handed in from elsewhere: its live words are those of its occupied rows and base entries
pub head_count_sound : (t : List ℕ) → shaped t ≡ true → FlatSound t → (p : ℕ) → p < plan_limit → total_call t p ≡ Ok (plan_count p (flat_state t).live)
head_count_sound = Table.total_exact

-- "its length is 4 + 256 + 74 × buckets + 128", for all bucket numbers: no other length is accepted by an opening, nor by a call (`shaped`: cause 4 is not
-- met; `buckets1_at`, `buckets2_at`: the first two numbers)
pub opened-length : (b1 b2 : ℕ) (t : List ℕ) → (open_call b1 b2 t).answer ≡ Ok 0 → length t ≡ 4 + 256 + 74 * (b1 + b2) + 128
opened-length = Table.opened-length

pub table_length : (t : List ℕ) → shaped t ≡ true → length t ≡ 4 + 256 + 74 * (get_or t buckets1_at 0 + get_or t buckets2_at 0) + 128
table_length = Table.table_length

-- ---- strangers, document 02, order 3: plan 255 means "call the desk" (`desk_plan`; `assignable`: below it)

-- "An add or change to plan 255 is refused": with 14, exactly if the identifier is one and the plan, which is a byte, is 255, whatever the table
pub plan_14 : (t : List ℕ) (i : Token) (p : ℕ) → p < plan_limit
    → ((number_of (call t (add i p)).answer ≡ 14) ↔ ((read_of i ≡ Ok (word_of i)) × (p ≡ 255)))
    × ((number_of (call t (change i p)).answer ≡ 14) ↔ ((read_of i ≡ Ok (word_of i)) × (p ≡ 255)))
plan_14 t i p l =
    let to : assignable p ≡ false → p ≡ 255 = (λ e. let k = ltb-false p desk_plan e in omega arith) in
    let from : p ≡ 255 → assignable p ≡ false = (λ e. le-ltb p desk_plan (omega arith)) in
    let a = Table.cause_14 t (add i p) in
    let c = Table.cause_14 t (change i p) in (
      (λ e. let q = a.0 e in (q.0, to q.1), λ q. a.1 (q.0, from q.1)),
      (λ e. let q = c.0 e in (q.0, to q.1), λ q. c.1 (q.0, from q.1)),
    )

-- "no live word": after any list the plan of a live word is below 255
pub live_not_255 : (t : List ℕ) → Opened t → (ps : List Request) (v p : ℕ) → v < 2 ^ 64 → told v (accepted_calls t ps) ≡ some p → p < 255
live_not_255 t o ps v p l e = ltb-true p desk_plan (Table.plan_given t o ps v p l e)

-- so no live identifier gets 255 from the plane that is written
pub plane_not_255 : (t : List ℕ) → Opened t → (ps : List Request) (out : List ℕ) (n : ℕ) → (write_call (after tables t ps) out).answer ≡ Ok n
    → (id : Token) (w p : ℕ) → read_of id ≡ Ok w → told w (accepted_calls t ps) ≡ some p → lookup_call id (take n (write_call (after tables t ps) out).output) ≡ Ok 255 → ⊥
plane_not_255 = Plane.plane-live_given

-- the same of any sound table, also one handed in from elsewhere; so the total of 255, which may be asked, is 0
pub sound_not_255 : (t : List ℕ) → shaped t ≡ true → FlatSound t → ((w p : ℕ) → find w (flat_state t).live ≡ some p → p < 255) × (total_call t 255 ≡ Ok 0)
sound_not_255 t k h = (λ w p e. ltb-true p desk_plan (Table.live_given t k h w p e), Table.desk_total t k h)

-- "for a word due to the base list and absent" the lookup in any plane that is right answers 255
pub stranger_255 : (id : Token) (p : List ℕ) (w : ℕ) → wrong_at format1 p ≡ Ok tt → read_of id ≡ Ok w
    → holds (plane_from format1 p).level1 w ≡ false → holds (plane_from format1 p).level2 (second_of w) ≡ false → find (second_of w) (plane_from format1 p).base ≡ none
    → lookup_call id p ≡ Ok 255
stranger_255 = stranger_answer

-- ---- kinds, document 02, order 4: an identifier is read by its kind, its stated length and the bytes of that length (`Token`, `read_of`); a call is
-- handed the bytes alone, and their length (`token`)

-- "15: kind not 1 to 7, before cause 1", then 1 and 2: each exactly if it is the first met; else the word
pub reading_causes : (i : Token) → Exactly (id_causes i) (λ v. v ≡ word_of i) (read_of i)
reading_causes = read_exactly

-- every call gives these numbers exactly as the reading of its identifier does, whatever the table
pub call_as_read : (t : List ℕ) (c : Call Token) (n v : ℕ) → OfIdentifier n
    → ((number_of (call t c).answer ≡ n) × (value_of (call t c).answer ≡ v)) ↔ ((number_of (read_of (subject c)) ≡ n) × (value_of (read_of (subject c)) ≡ v))
call_as_read = Table.as_read

-- and so does the lookup, whatever the plane
pub lookup_as_read : (id : Token) (p : List ℕ) (n v : ℕ) → OfIdentifier n
    → ((number_of (lookup_call id p) ≡ n) × (value_of (lookup_call id p) ≡ v)) ↔ ((number_of (read_of id) ≡ n) × (value_of (read_of id) ≡ v))
lookup_as_read = PlaneCauses.as_read

-- so 15 is given exactly if the kind is 0 or over 7
pub kind_15 : (i : Token) → (number_of (read_of i) ≡ 15) ↔ ((i.kind ≡ 0) ⊎ (7 < i.kind))
kind_15 i =
    let e = number_exactly [] (wrong_kind i) (wrong_length i ∷ wrong_byte i ∷ []) (λ v. v ≡ word_of i) (read_of i) (test_apart (id_causes i) refl) (read_exactly i) in
    (λ n. ((e (value_of (read_of i))).0 (n, refl)).1.0, λ m. ((e 0).1 (tt, (m, refl))).0)

-- a number that is not found out of range is in it
in-range : (k : ℕ) → (between 1 7 k ≡ false → ⊥) → (0 < k) × (k ≤ 7)
in-range k n = cases (between 1 7 k) (λ t. (leb-true 1 k (and_one (leb 1 k) (leb k 7) t), leb-true k 7 (and_two (leb 1 k) (leb k 7) t))) (λ f. absurd (n f))

-- "The limit in cause 1 becomes 36 bytes": 1 is given exactly if the kind is 1 to 7 and the length 0 or over 36
pub length_36 : (i : Token) → (number_of (read_of i) ≡ 1) ↔ (((0 < i.kind) × (i.kind ≤ 7)) × ((i.stated ≡ 0) ⊎ (36 < i.stated)))
length_36 i =
    let e = number_exactly (wrong_kind i ∷ []) (wrong_length i) (wrong_byte i ∷ []) (λ v. v ≡ word_of i) (read_of i) (test_apart (id_causes i) refl) (read_exactly i) in
    let kind = range_exactly 7 i.kind in (
      λ n. let h = (e (value_of (read_of i))).0 (n, refl) in (in-range i.kind (λ f. h.0.0 0 (kind.0 f, refl)), h.1.0),
      λ m. ((e i.stated).1 ((λ v r. ⊎_elim (λ z. omega (arith, m.0)) (λ z. omega (arith, m.0)) r.0, tt), (m.1, refl))).0,
    )

-- case makes no difference within a kind
pub case_alike : (i j : Token) → i.kind ≡ j.kind → i.stated ≡ j.stated → only_case (id_bytes i) (id_bytes j) ≡ true → read_of i ≡ read_of j
case_alike = read_case

-- what follows the bytes of the stated length is not read
pub rest_unread : (i j : Token) → i.kind ≡ j.kind → i.stated ≡ j.stated → id_bytes i ≡ id_bytes j → read_of i ≡ read_of j
rest_unread = Words.rest_unread

module _ (i j : Token) (v w : ℕ) (read-i : read_of i ≡ Ok v) (read-j : read_of j ≡ Ok w) (letters : only_case (id_bytes i) (id_bytes j) ≡ true) (kinds : i.kind ≡ j.kind → ⊥) where
  -- "A card and a key code with the same letters are different people": they have two words
  pub two_words : v ≡ w → ⊥
  two_words = kinds_differ i j v w read-i read-j letters kinds

  -- and an accepted call for the one may be left out of what a list of accepted calls tells of the other
  pub two_plans : (c : Call ℕ) → subject c ≡ v → (before later : List (Call ℕ)) → told w (before ++ (c ∷ later)) ≡ told w (before ++ later)
  two_plans c s before later = told-other w c later (λ e. two_words (sym s ∙ sym e)) before

  -- in any sound table, so after any list of calls: c is a call for i, accepted or not
  module _ (t : List ℕ) (k : shaped t ≡ true) (h : FlatSound t) (c : Call Token) (for : subject c ≡ i) where
    apart : w ≡ word_of (subject c) → ⊥
    apart e = two_words (((read_word i v).0 read-i).3 ∙ ap word_of (sym for) ∙ sym e)

    -- it changes nothing of what a query says of j
    pub other_query : (call (call t c).table (query j)).answer ≡ (call t (query j)).answer
    other_query = Table.other_query t k h c j w (ap (with_plan true) read-j) apart

    -- nor of what the plane gives j while j is live: its plan, in the plane written before c and in the one written after. (Where j is not live, the
    -- one may give j another number than the other)
    module _ (p : ℕ) (live : plan_in t w ≡ some p) (out : List ℕ) (n : ℕ) where
      pub plane-before : (write_call t out).answer ≡ Ok n → lookup_call j (take n (write_call t out).output) ≡ Ok p
      plane-before e = Plane.live-plan t out n e h j w p read-j live

      pub plane-after : (write_call (call t c).table out).answer ≡ Ok n → lookup_call j (take n (write_call (call t c).table out).output) ≡ Ok p
      plane-after = Plane.other-plane t k h c j w p read-j apart live out n

-- ---- lost cards, document 02, order 6: what a plane gives an identifier that is live no more, or never was

-- "withdrawn cards must leave no plan behind": whatever plan an identifier had, its withdrawal leaves the same table, number for number, so the same
-- planes from then on; in any sound table in which its word is live, with the plan q, for any plan p that may be given
pub lost_plan : (t : List ℕ) → shaped t ≡ true → FlatSound t → (id : Token) (w p q : ℕ) → read_of id ≡ Ok w → assignable p ≡ true → plan_in t w ≡ some q
    → (call (call t (change id p)).table (withdraw id)).table ≡ (call t (withdraw id)).table
lost_plan = Table.plan_forgotten

-- "In every table row j of Z is 0 for each free row j" (`Clear`): in any sound table, so after any list of calls, of each bucket, first level and second
pub free_rows : (t : List ℕ) → shaped t ≡ true → FlatSound t
    → ((i : ℕ) → i < length (table_of t).level1 → Clear (nth rows solutions (table_of t).level1 i).mark (nth rows solutions (table_of t).level1 i).sols)
    × ((i : ℕ) → i < length (table_of t).level2 → Clear (nth rows solutions (table_of t).level2 i).mark (nth rows solutions (table_of t).level2 i).sols)
free_rows = Table.free_rows_clear

-- "in its combination of K's rows", for n rows: the product of a vector chooses rows of K that XOR to it (`combine`), and no other choice does
pub one_combination : (n : ℕ) (K cs : List ℕ) → Inverse n K cs → (v : ℕ) → v < 2 ^ n → (combine K (product cs v) ≡ v) × ((p : ℕ) → p < 2 ^ n → combine K p ≡ v → p ≡ product cs v)
one_combination n K cs inv v l = (inv.back v l, λ p m e. sym (forth n K cs inv p m) ∙ ap (product cs) e)

-- "A bucket then answers any vector with the XOR of the plans of the live vectors in its combination of K's rows" (`combined`)
pub answers-combined : (n : ℕ) (K : List ℕ) (b : Bucket) → Sound n K b → (v : ℕ) → v < 2 ^ n → lookup b v ≡ combined K b v
answers-combined = Bucket.answers-combined

module _ (t : List ℕ) (o : Opened t) (ps : List Request) (out : List ℕ) (n : ℕ) (e : (write_call (after tables t ps) out).answer ≡ Ok n) (id : Token) (w : ℕ) (i : read_of id ≡ Ok w) where
  -- the bucket of the word at level 1, and at level 2 by w'
  abbrev first : Bucket
  first = bucket_of rows solutions mix_of (table_of (after tables t ps)).level1 w

  abbrev second : Bucket
  second = bucket_of rows solutions mix_of (table_of (after tables t ps)).level2 (second_of w)

  -- so does the plane, and the plans are the last accepted ones of live words (`Answered`): where level 1 holds the word
  pub answer-first : T.holds rows solutions mix_of (table_of (after tables t ps)).level1 w ≡ true
      → (lookup_call id (take n (write_call (after tables t ps) out).output) ≡ Ok (lookup first w)) × Answered rows (λ v. told v (accepted_calls t ps)) first w (lookup first w)
  answer-first = Plane.plane-first t o ps out n e id w i

  -- where level 2 does
  pub answer-second : T.holds rows solutions mix_of (table_of (after tables t ps)).level1 w ≡ false → T.holds rows solutions mix_of (table_of (after tables t ps)).level2 (second_of w) ≡ true
      → (lookup_call id (take n (write_call (after tables t ps) out).output) ≡ Ok (lookup second (second_of w)))
      × Answered rows (λ v. told (unmix_of (unmix_of v)) (accepted_calls t ps)) second (second_of w) (lookup second (second_of w))
  answer-second = Plane.plane-second t o ps out n e id w i

  -- so 0 where no live word is in the combination (`live_in`), as in a bucket without live words
  pub lost_first : T.holds rows solutions mix_of (table_of (after tables t ps)).level1 w ≡ true → live_in first w ≡ 0
      → lookup_call id (take n (write_call (after tables t ps) out).output) ≡ Ok 0
  lost_first = Plane.plane-first_none t o ps out n e id w i

  pub lost_second : T.holds rows solutions mix_of (table_of (after tables t ps)).level1 w ≡ false → T.holds rows solutions mix_of (table_of (after tables t ps)).level2 (second_of w) ≡ true
      → live_in second (second_of w) ≡ 0 → lookup_call id (take n (write_call (after tables t ps) out).output) ≡ Ok 0
  lost_second = Plane.plane-second_none t o ps out n e id w i

-- ---- patches, document 02, order 1

-- any two planes that are right and have equal bucket numbers (`alike`); a plane is bytes, as every `&[u8]`
module _ (p q : List ℕ) (bytes-p : (i : ℕ) → get_or p i 0 < 256) (bytes-q : (i : ℕ) → get_or q i 0 < 256) (right-p : wrong_at format1 p ≡ Ok tt) (right-q : wrong_at format1 q ≡ Ok tt) (like : alike p q ≡ true) where
  -- "from two planes of equal format and bucket numbers a patch is made": an output of 6,598 bytes is never refused
  pub make_accepted : (out : List ℕ) → 6598 ≤ length out → accepted (make_call p q out).answer ≡ true
  make_accepted out l =
      ap (λ (w : Written). accepted w.answer) (make_made p q bytes-p bytes-q right-p right-q like out)
      ∙ ap accepted (front_room (patch_bytes format1 (patch_of format1 p q)) out (let m = made_most p q bytes-p bytes-q right-p right-q in omega arith))

  -- "applied to the old plane it gives the new plane": n bytes were made; applying them is refused for nothing but a short output, and gives q
  pub make_apply : (out : List ℕ) (n : ℕ) → (make_call p q out).answer ≡ Ok n → (into : List ℕ) → apply_call p (take n (make_call p q out).output) into ≡ put_front q into
  make_apply out n = Calls.make_apply p q out n bytes-p bytes-q

-- whoever made the patch d: an accepted patch leaves a plane that is right, with the sums that d has of the old plane and of the new one
module _ (p d out : List ℕ) (bytes-p : (i : ℕ) → get_or p i 0 < 256) (bytes-d : (i : ℕ) → get_or d i 0 < 256) (n : ℕ) (e : (apply_call p d out).answer ≡ Ok n) where
  pub apply_right : wrong_at format1 (take n (apply_call p d out).output) ≡ Ok tt
  apply_right = Calls.apply_right p d out bytes-p bytes-d n e

  pub apply_sums : (fnv_of p ≡ (patch_from format1 d).old_sum) × (fnv_of (take n (apply_call p d out).output) ≡ (patch_from format1 d).new_sum)
  apply_sums = Calls.apply_sums p d out bytes-p bytes-d n e

-- "Changing one plan costs at most 89 bytes, and 22 if the plan was that already": of any sound table, so after any list of calls. The planes are those
-- that the writer wrote before the change and after it
module _ (t : List ℕ) (h : FlatSound t) (id : Token) (p q : ℕ) (e : (call t (change id p)).answer ≡ Ok q)
    (a b : List ℕ) (i j : ℕ) (before : (write_call t a).answer ≡ Ok i) (after : (write_call (call t (change id p)).table b).answer ≡ Ok j) (out : List ℕ) where
  abbrev made_of : Written
  made_of = make_call (take i (write_call t a).output) (take j (write_call (call t (change id p)).table b).output) out

  same : made_of ≡ make_call (plane_in t) (plane_in (call t (change id p)).table) out
  same = ap₂ (λ (x y : List ℕ). make_call x y out) (was-written t a i before).front (was-written (call t (change id p)).table b j after).front

  pub change_89 : (n : ℕ) → made_of.answer ≡ Ok n → n ≤ 89
  change_89 n f = subst⁻¹ (λ (x : ℕ). x ≤ 89) (change-length t h id p q e out n (ap (λ (w : Written). w.answer) (sym same) ∙ f)) (change_costs t h id p q e)

  -- an output of 89 bytes is never refused
  pub room_89 : 89 ≤ length out → accepted made_of.answer ≡ true
  room_89 l = ap (λ (w : Written). accepted w.answer) same ∙ change_room t h id p q e out (let m = change_costs t h id p q e in omega arith)

  pub same_22 : p ≡ q → (n : ℕ) → made_of.answer ≡ Ok n → n ≡ 22
  same_22 s n f = change-length t h id p q e out n (ap (λ (w : Written). w.answer) (sym same) ∙ f) ∙ same_costs t h id p q e s

  -- nor one of 22
  pub room_22 : p ≡ q → 22 ≤ length out → accepted made_of.answer ≡ true
  room_22 s l = ap (λ (w : Written). accepted w.answer) same ∙ change_room t h id p q e out (let m = same_costs t h id p q e s in omega arith)

-- `plane_after` is what the writer wrote: n bytes
pub plane-written : (t : List ℕ) (ps : List Request) (out : List ℕ) (n : ℕ) → (write_call (after tables t ps) out).answer ≡ Ok n → take n (write_call (after tables t ps) out).output ≡ plane_after t ps
plane-written t ps out n e = (was-written (after tables t ps) out n e).front

-- a post that has the plane after the calls ps and applies the patch to the plane after the calls qs, of the same opening (qs may begin with ps), has that
-- plane and answers by it
module _ (t : List ℕ) (o : Opened t) (ps qs : List Request) (out : List ℕ) (n : ℕ) (made : (make_call (plane_after t ps) (plane_after t qs) out).answer ≡ Ok n) (into : List ℕ) where
  -- applying what was made meets no cause but 9, and gives the new plane byte for byte
  pub post_follows : apply_call (plane_after t ps) (take n (make_call (plane_after t ps) (plane_after t qs) out).output) into ≡ put_front (plane_after t qs) into
  post_follows = list_follows t o ps qs out n made into

  -- every live identifier then gives its word's last accepted plan from the post's plane
  pub plan-from_post : (m : ℕ) → (apply_call (plane_after t ps) (take n (make_call (plane_after t ps) (plane_after t qs) out).output) into).answer ≡ Ok m
      → (id : Token) (w p : ℕ) → read_of id ≡ Ok w → told w (accepted_calls t qs) ≡ some p
      → lookup_call id (take m (apply_call (plane_after t ps) (take n (make_call (plane_after t ps) (plane_after t qs) out).output) into).output) ≡ Ok p
  plan-from_post m e id w p i h = ap (lookup_call id) (list_new t o ps qs out n made into m e) ∙ plane_tells t o qs id w p i h

-- depot, patch and post by their calls alone: the depot wrote i bytes after the calls ps and j after qs and made n bytes of patch from them; a post that
-- has the first plane applied these and got m bytes: the second plane. So it answers as `plan-from-plane` and `plane_as_table` say of qs
module _ (t : List ℕ) (o : Opened t) (ps qs : List Request) (a b : List ℕ) (i j : ℕ) (first : (write_call (after tables t ps) a).answer ≡ Ok i) (second : (write_call (after tables t qs) b).answer ≡ Ok j) where
  abbrev old_plane : List ℕ
  old_plane = take i (write_call (after tables t ps) a).output

  abbrev new_plane : List ℕ
  new_plane = take j (write_call (after tables t qs) b).output

  pub depot_to_post : (out : List ℕ) (n : ℕ) → (make_call old_plane new_plane out).answer ≡ Ok n
      → (into : List ℕ) (m : ℕ) → (apply_call old_plane (take n (make_call old_plane new_plane out).output) into).answer ≡ Ok m
      → take m (apply_call old_plane (take n (make_call old_plane new_plane out).output) into).output ≡ new_plane
  depot_to_post = rw (plane-written t ps a i first, plane-written t qs b j second) (λ out n made into m. list_new t o ps qs out n made into m)

-- ---- statement 3

-- "Two tables reached by any lists of calls and equal in bucket numbers, live words, plans and bounds answer every further list of calls alike and
-- stay equal"
pub lists_alike : (t u : List ℕ) → Opened t → Opened u → (ps qs : List Request) → Same (after tables t ps) (after tables u qs)
    → (cs : List Request) → Alike tables Same (after tables t ps) (after tables u qs) cs
lists_alike = Table.statement_3

-- such tables have equal totals too
pub totals_alike : (t u : List ℕ) → Opened t → Opened u → (ps qs : List Request) → Same (after tables t ps) (after tables u qs)
    → (p : ℕ) → p < plan_limit → total_call (after tables t ps) p ≡ total_call (after tables u qs) p
totals_alike t u o r ps qs e =
    let a = Table.always_sound t o ps in
    let b = Table.always_sound u r qs in
    (Table.same_totals (after tables t ps) (after tables u qs) a.0 a.2 b.0 b.2 e).1

-- any sound table, also one handed in from elsewhere; a list of calls leaves one
module _ (t : List ℕ) (k : shaped t ≡ true) (h : FlatSound t) (i : Token) (p : ℕ) where
  -- "After every accepted add each bucket's bound is the largest number not above its old one below which no non-empty selection of words due there
  -- XORs to zero, first level"
  pub bounds-first : accepted (call t (add i p)).answer ≡ true → (j : ℕ) → j < (flat_state t).size.buckets1
      → Largest (get_or (flat_state t).bounds1 j 0)
      (due first_level (flat_state t).size.buckets1 (words (flat_state (call t (add i p)).table).live) j)
      (get_or (flat_state (call t (add i p)).table).bounds1 j 0)
  bounds-first = Table.bounds-first t k h i p

  -- "before second", where the words are due that the first does not hold now
  pub bounds-second : accepted (call t (add i p)).answer ≡ true → (j : ℕ) → j < (flat_state t).size.buckets2
      → Largest (get_or (flat_state t).bounds2 j 0)
      (due second_level (flat_state t).size.buckets2
      (passed first_level (flat_state t).size.buckets1 (flat_state (call t (add i p)).table).bounds1 (words (flat_state (call t (add i p)).table).live)) j)
      (get_or (flat_state (call t (add i p)).table).bounds2 j 0)
  bounds-second = Table.bounds-second t k h i p

  -- "An add with no earlier cause is refused as full exactly when, under those bounds, more than 64 words would fall to the base list"
  pub full_exactly : (w : ℕ) → word_for (add i p) ≡ Ok w → find w (flat_state t).live ≡ none
      → ((call t (add i p)).answer ≡ Err Full) ↔ (64 < length (base first_level second_level (would_leave first_level second_level (flat_state t) (record { word = w; plan = p }))))
  full_exactly = Table.full_exactly t k h i p
