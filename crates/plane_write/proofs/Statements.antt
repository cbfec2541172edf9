-- The statements of document 01 about the plane, and of order 3 of document 02.
-- Assumes nothing.
use mathlib.Core.Logic.{◌↔◌}
use mathlib.Core.Path.{◌≡◌, refl, sym, ap, ap₂, ◌∙◌}
use mathlib.Core.Bool.{true, false}
use mathlib.Core.List.{List, [], ◌∷◌}
use mathlib.Core.Option.{none, some}
use Prim.Native.Nat.{ℕ, ◌+◌, ◌*◌, ◌^◌, ◌<◌}
use native.Mathlib.Omega.{arith}
use lib.ListN.{length, get_or, take}
use borrow.Author.Tests.{ltb-true}
use Rattle.std.specs.Prelude.{Ok, Err}
use Rattle.lists.specs.Entries.{desk_plan, find}
use Rattle.hash.specs.Mix.{mix_of, unmix_of}
use Rattle.answer.specs.Numbers.{number_of, value_of}
use Rattle.answer.specs.Causes.{NoneMet, InOrder, Exactly}
use Rattle.answer.proofs.Causes.{test_apart, number_exactly}
use Rattle.identifier.specs.Identifier.{Token, word_of, read_of}
use Rattle.identifier.specs.Causes.{wrong_length, wrong_byte, id_causes}
use Rattle.identifier.specs.Place.{second_of}
use Rattle.identifier.proofs.Causes.{read_word}
use Rattle.identifier.proofs.Words.{word_lt, second_lt}
use Rattle.bucket.specs.declared.Bucket.{Bucket}
use Rattle.bucket.specs.Bucket.{Sound, lookup, live}
use Rattle.bucket.specs.Answers.{live_in}
use Rattle.bucket.proofs.Answers.{answers_none, solutions-settled}
use Rattle.model.specs.Model.{base_limit, Call}
use Rattle.model.specs.Request.{subject, Request}
use Rattle.model.specs.History.{told}
use Rattle.model.specs.Machine.{accepted, after}
use Rattle.table.specs.Table.{bucket_of, holds}
use Rattle.table.specs.Answers.{Answered}
use Rattle.table.specs.Layout.{most_buckets1, most_buckets2}
use Rattle.table.specs.Calls.{rows, solutions, table_of, plan_in, shaped, FlatSound, call}
use Rattle.table.specs.Causes.{wrong_table, not_sound}
use Rattle.table.specs.History.{tables, Opened, accepted_calls}
use Rattle.table.proofs.Statements.{sound_exactly, call-sound, other-plan, always_sound, plan, plan_given, list_answers_first, list_answers_second}
use Rattle.plane.specs.Record.{Format, format1, PlaneBucket}
use Rattle.plane.specs.Plane.{Plane, plane_bytes, plane_length, plane_from, wrong_at}
use Rattle.plane.specs.Lookup.{lookup_call}
use Rattle.plane.specs.Fits.{Fits, OfPlane}
use Rattle.plane.specs.Offset.{WrongOffset, RightPlane}
use Rattle.plane.specs.Causes.{wrong_plane, lookup_causes, lookup_returns}
use Rattle.plane_write.specs.Write.{seen_of, plane_of, put_front, write_call, shown_to}
use Rattle.plane_write.specs.Causes.{length_needed, short_output, write_causes, write_returns}
use Rattle.plane.proofs.Round.{plane-length, written_right, written_read}
use Rattle.plane.proofs.Exact.{AllBytes, read_written, read_fits}
use Rattle.plane.proofs.Offset as Offset
use Rattle.plane.proofs.Causes as PlaneCauses
use Rattle.plane_write.proofs.Causes as Causes
use Rattle.plane_write.proofs.Accepted.{shows, was-shaped, was-sound, was-written}
use Rattle.plane_write.proofs.Shown.{live_shown}

-- ---- "The plane", in every format F

-- wrong nowhere exactly if the bytes are those of a plane within the limits
pub right_exactly : (F : Format) (p : List ℕ) → AllBytes p → (wrong_at F p ≡ Ok tt) ↔ OfPlane F p
right_exactly F p b = (
  λ e. record { plane = plane_from F p; fits = read_fits F p e b; bytes = read_written F p e b },
  λ o. rw o.bytes at (written_right F o.plane o.fits),
)

-- it is found wrong at an offset exactly if that is "the first byte of the first record that is cut, of a wrong kind, or with a value not
-- allowed; or the first byte after kind 4"
pub offset_exactly : (F : Format) (p : List ℕ) (at : ℕ) → (wrong_at F p ≡ Err at) ↔ WrongOffset F p at
offset_exactly = Offset.offset_exactly

-- and nowhere exactly if no record is wrong and nothing follows
pub nowhere_exactly : (F : Format) (p : List ℕ) → (wrong_at F p ≡ Ok tt) ↔ RightPlane F p
nowhere_exactly = Offset.nowhere_exactly

-- the plane that was written is read
pub read_back : (F : Format) (P : Plane) → Fits F P → plane_from F (plane_bytes F P) ≡ P
read_back = written_read

-- "Length 10 + 66 × buckets + 10 × entries, so 142 to 5,930"
pub length_is : (P : Plane) → Fits format1 P → length (plane_bytes format1 P) ≡ 10 + 66 * (length P.level1 + length P.level2) + 10 * length P.base
length_is P h = plane-length format1 P h ∙ omega arith

pub shortest : plane_length format1 2 0 ≡ 142
shortest = refl

pub longest : plane_length format1 (most_buckets1 + most_buckets2) base_limit ≡ 5930
longest = refl

-- ---- "When a call is turned down"

-- "each number given if and only if its cause is the first met", with what is returned with it, and 0 with what is returned if none is met:
-- the lookup, 15, 1, 2 and 10
pub lookup-causes : (id : Token) (p : List ℕ) → Exactly (lookup_causes id p) (lookup_returns id p) (lookup_call id p)
lookup-causes = PlaneCauses.lookup_exactly

-- the writer, 4, 5 and 9; the numbers of a table have 64 bits
pub write-causes : (t out : List ℕ) → ((i : ℕ) → get_or t i 0 < 2 ^ 64) → Exactly (write_causes t out) (write_returns t) (write_call t out).answer
write-causes = Causes.write_exactly

-- "Order is the table's order" (15, of document 02, stands before 1)
pub lookup_order : (id : Token) (p : List ℕ) → InOrder 0 (wrong_length id ∷ wrong_byte id ∷ wrong_plane format1 p ∷ [])
lookup_order = PlaneCauses.lookup_order

pub write_order : (t out : List ℕ) → InOrder 0 (write_causes t out)
write_order = Causes.write_order

-- read for the last cause of each
pub cause_10 : (id : Token) (p : List ℕ) (at : ℕ)
    → ((number_of (lookup_call id p) ≡ 10) × (value_of (lookup_call id p) ≡ at)) ↔ (NoneMet (id_causes id) × WrongOffset format1 p at)
cause_10 id p = number_exactly (id_causes id) (wrong_plane format1 p) [] (lookup_returns id p) (lookup_call id p) (PlaneCauses.lookup_apart id p) (lookup-causes id p)

pub cause_9 : (t out : List ℕ) → ((i : ℕ) → get_or t i 0 < 2 ^ 64) → (v : ℕ)
    → ((number_of (write_call t out).answer ≡ 9) × (value_of (write_call t out).answer ≡ v)) ↔ (NoneMet (wrong_table t ∷ not_sound t ∷ []) × ((length out < length_needed t) × (v ≡ length_needed t)))
cause_9 t out b = number_exactly (wrong_table t ∷ not_sound t ∷ []) (short_output t out) [] (write_returns t) (write_call t out).answer (test_apart (write_causes t out) refl) (write-causes t out b)

-- "Kept as it was": the output
pub refused_keeps : (t out : List ℕ) → accepted (write_call t out).answer ≡ false → (write_call t out).output ≡ out
refused_keeps = Causes.refused_keeps

-- ---- statement 2, the plane's half

module _ (t out : List ℕ) (n : ℕ) (e : (write_call t out).answer ≡ Ok n) (h : FlatSound t) where
  -- written from a sound table and read again, the plane gives for each identifier, live or not, the answer of the table's own XOR words or
  -- base list
  pub statement_2 : (id : Token) → lookup_call id (take n (write_call t out).output) ≡ shown_to (table_of t) (read_of id)
  statement_2 id = ap (lookup_call id) (was-written t out n e).front ∙ shows t (was-shaped t out n e).0 h id

  -- so a live identifier gets its word's plan
  pub live-plan : (id : Token) (v p : ℕ) → read_of id ≡ Ok v → plan_in t v ≡ some p → lookup_call id (take n (write_call t out).output) ≡ Ok p
  live-plan id v p i l = statement_2 id ∙ ap (shown_to (table_of t)) i ∙ ap Ok (live_shown rows solutions (table_of t) v p l)

-- and what is written was a sound table, if its numbers have 64 bits
pub written-sound : (t out : List ℕ) (n : ℕ) → (write_call t out).answer ≡ Ok n → ((i : ℕ) → get_or t i 0 < 2 ^ 64) → FlatSound t
written-sound t out n e w = (sound_exactly t (was-shaped t out n e).0 w).0 (was-sound t out n e).0

-- the word that an identifier is read as has 64 bits
read_small : (id : Token) (v : ℕ) → read_of id ≡ Ok v → v < 2 ^ 64
read_small id v i = rw ((read_word id v).0 i).3 (word_lt id)

-- document 02, order 4: after a call for another word an identifier that is live gets its plan from the plane as before
pub other-plane : (t : List ℕ) → shaped t ≡ true → FlatSound t → (c : Call Token) (id : Token) (v p : ℕ) → read_of id ≡ Ok v → (v ≡ word_of (subject c) → ⊥) → plan_in t v ≡ some p
    → (out : List ℕ) (n : ℕ) → (write_call (call t c).table out).answer ≡ Ok n → lookup_call id (take n (write_call (call t c).table out).output) ≡ Ok p
other-plane t k h c id v p i ne l out n e = live-plan (call t c).table out n e (call-sound t k h c).2 id v p i (other-plan t k h c v (read_small id v i) ne ∙ l)

-- after any list of calls
pub told_shown : (t : List ℕ) → Opened t → (ps : List Request) (id : Token) (v p : ℕ) → read_of id ≡ Ok v → told v (accepted_calls t ps) ≡ some p
    → shown_to (table_of (after tables t ps)) (read_of id) ≡ Ok p
told_shown t o ps id v p i h =
    ap (shown_to (table_of (after tables t ps))) i ∙ ap Ok (live_shown rows solutions (table_of (after tables t ps)) v p (plan t o ps v (read_small id v i) ∙ h))

module _ (t : List ℕ) (o : Opened t) (ps : List Request) (out : List ℕ) (n : ℕ) (e : (write_call (after tables t ps) out).answer ≡ Ok n) where
  pub list_gives : (id : Token) → lookup_call id (take n (write_call (after tables t ps) out).output) ≡ shown_to (table_of (after tables t ps)) (read_of id)
  list_gives = statement_2 (after tables t ps) out n e (always_sound t o ps).2

  -- every live identifier gets its word's last accepted plan from the plane
  pub last-plan : (id : Token) (v p : ℕ) → read_of id ≡ Ok v → told v (accepted_calls t ps) ≡ some p → lookup_call id (take n (write_call (after tables t ps) out).output) ≡ Ok p
  last-plan id v p i h = list_gives id ∙ told_shown t o ps id v p i h

  -- document 02, order 3: so no live identifier gets the desk's plan
  pub plane-live_given : (id : Token) (v p : ℕ) → read_of id ≡ Ok v → told v (accepted_calls t ps) ≡ some p → lookup_call id (take n (write_call (after tables t ps) out).output) ≡ Ok desk_plan → ⊥
  plane-live_given id v p i h d =
      let l : p < desk_plan = ltb-true p desk_plan (plan_given t o ps v p (read_small id v i) h) in
      let same : Ok p ≡ Ok desk_plan = sym (last-plan id v p i h) ∙ d in
      let q : p ≡ desk_plan = cc in
      omega arith

  -- document 02, order 3: an identifier whose word neither level holds and whose w' is not in the base list gets it
  pub plane_stranger : (id : Token) (v : ℕ) → read_of id ≡ Ok v → holds rows solutions mix_of (table_of (after tables t ps)).level1 v ≡ false
      → holds rows solutions mix_of (table_of (after tables t ps)).level2 (second_of v) ≡ false → find (second_of v) (table_of (after tables t ps)).base ≡ none
      → lookup_call id (take n (write_call (after tables t ps) out).output) ≡ Ok desk_plan
  plane_stranger id v i a b c = list_gives id ∙ ap (shown_to (table_of (after tables t ps))) i ∙ rw (a, b, c)

  -- document 02, order 6: an identifier, live or not, whose word v level 1 holds gets the XOR of the last accepted plans of the live words in
  -- v's combination; 0 where there is none among them, so one that was withdrawn has left nothing
  module _ (id : Token) (v : ℕ) (i : read_of id ≡ Ok v) where
    abbrev first : Bucket
    first = bucket_of rows solutions mix_of (table_of (after tables t ps)).level1 v

    pub plane-first : holds rows solutions mix_of (table_of (after tables t ps)).level1 v ≡ true
        → (lookup_call id (take n (write_call (after tables t ps) out).output) ≡ Ok (lookup first v)) × Answered rows (λ u. told u (accepted_calls t ps)) first v (lookup first v)
    plane-first a = (list_gives id ∙ ap (shown_to (table_of (after tables t ps))) i ∙ rw a, list_answers_first t o ps v (read_small id v i))

    pub plane-first_none : holds rows solutions mix_of (table_of (after tables t ps)).level1 v ≡ true → live_in first v ≡ 0
        → lookup_call id (take n (write_call (after tables t ps) out).output) ≡ Ok 0
    plane-first_none a z = let p = plane-first a in p.0 ∙ ap Ok (answers_none rows p.1.matrix first p.1.sound v (read_small id v i) z)

    -- at level 2 by w', the word's vector there
    abbrev other : Bucket
    other = bucket_of rows solutions mix_of (table_of (after tables t ps)).level2 (second_of v)

    pub plane-second : holds rows solutions mix_of (table_of (after tables t ps)).level1 v ≡ false → holds rows solutions mix_of (table_of (after tables t ps)).level2 (second_of v) ≡ true
        → (lookup_call id (take n (write_call (after tables t ps) out).output) ≡ Ok (lookup other (second_of v)))
        × Answered rows (λ u. told (unmix_of (unmix_of u)) (accepted_calls t ps)) other (second_of v) (lookup other (second_of v))
    plane-second a b = (list_gives id ∙ ap (shown_to (table_of (after tables t ps))) i ∙ rw (a, b), list_answers_second t o ps (second_of v) (second_lt v))

    pub plane-second_none : holds rows solutions mix_of (table_of (after tables t ps)).level1 v ≡ false → holds rows solutions mix_of (table_of (after tables t ps)).level2 (second_of v) ≡ true
        → live_in other (second_of v) ≡ 0 → lookup_call id (take n (write_call (after tables t ps) out).output) ≡ Ok 0
    plane-second_none a b z = let p = plane-second a b in p.0 ∙ ap Ok (answers_none rows p.1.matrix other p.1.sound (second_of v) (second_lt v) z)

-- columns, mark, bound and the plans of its live vectors settle what a plane has of a bucket
pub same_record : (n : ℕ) (K L : List ℕ) (a b : Bucket) → Sound n K a → Sound n L b → a.cols ≡ b.cols → a.mark ≡ b.mark → a.bound ≡ b.bound → length a.sols ≡ length b.sols
    → ((k : ℕ) → k < 2 ^ n → live n k a ≡ true → lookup a k ≡ lookup b k) → seen_of a ≡ seen_of b
same_record n K L a b s t c m e l p = ap₂ {C = PlaneBucket} (λ x ss. record { bound = x; sols = ss }) e (solutions-settled n K L a b s t c m l p)

-- in a list of calls the writer meets no cause but 9
pub list_writes : (t : List ℕ) → Opened t → (ps : List Request) (out : List ℕ)
    → write_call (after tables t ps) out ≡ put_front (plane_bytes format1 (plane_of (table_of (after tables t ps)))) out
unfolding write_call
list_writes t o ps out = rw ((always_sound t o ps).0, (always_sound t o ps).1)

-- so each number is given if and only if its cause is met
pub list_write_causes : (t : List ℕ) → Opened t → (ps : List Request) (out : List ℕ)
    → Exactly (short_output (after tables t ps) out ∷ []) (write_returns (after tables t ps)) (write_call (after tables t ps) out).answer
list_write_causes t o ps out = rw (list_writes t o ps out) (Causes.room_exactly (after tables t ps) out)
