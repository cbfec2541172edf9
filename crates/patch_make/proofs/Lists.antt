-- Patches between the planes of one opening, each after any list of calls: making meets no cause but 9, applied to the first plane the patch gives
-- the second, and the post then answers by it.
-- Assumes nothing.
use Prim.Native.Nat.{ℕ}
use mathlib.Core.Path.{◌≡◌, sym, ap, ◌∙◌}
use mathlib.Core.Bool.{true}
use mathlib.Core.Option.{some}
use mathlib.Core.List.{List, map}
use lib.Dec.{lit<}
use lib.ListN.{length, take, length-map}
use borrow.Author.Tests.{eq-eqb}
use Rattle.std.specs.Prelude.{Ok}
use Rattle.identifier.specs.Identifier.{Token, read_of}
use Rattle.model.specs.Model.{Size}
use Rattle.model.specs.Request.{Request}
use Rattle.model.specs.Machine.{after}
use Rattle.model.specs.History.{told}
use Rattle.table.specs.Table.{Table}
use Rattle.table.specs.Calls.{table_of, shaped, FlatSound}
use Rattle.table.specs.History.{tables, Opened, accepted_calls, flat_state}
use Rattle.table.proofs.Statements.{list_size, always_sound}
use Rattle.plane.specs.Record.{format1}
use Rattle.plane.specs.Plane.{plane_bytes, wrong_at}
use Rattle.plane.specs.Lookup.{lookup_call}
use Rattle.plane.proofs.Round.{written_right}
use Rattle.plane.proofs.Exact.{AllBytes}
use Rattle.plane.proofs.Octets.{plane_octets}
use Rattle.plane_write.specs.Write.{seen_of, plane_of, Written, put_front}
use Rattle.plane_write.proofs.Accepted.{in-front, fits, shows}
use Rattle.plane_write.proofs.Statements.{told_shown}
use Rattle.patch.specs.Patch.{patch_bytes, patch_of}
use Rattle.patch.specs.Calls.{alike, make_call, apply_call}
use Rattle.patch_make.specs.After.{plane_in, plane_after, patch_between}
use Rattle.patch.proofs.Statements.{make_made, made-accepted}
use Rattle.patch.proofs.Calls.{make_apply}

-- ---- the plane of any sound table

module _ (t : List ℕ) (k : shaped t ≡ true) (h : FlatSound t) where
  pub plane_right : wrong_at format1 (plane_in t) ≡ Ok tt
  plane_right = written_right format1 (plane_of (table_of t)) (fits t k h)

  pub plane-bytes : AllBytes (plane_in t)
  plane-bytes = plane_octets format1 (lit< tt) (lit< tt) (plane_of (table_of t)) (fits t k h)

-- tables of equal bucket numbers have planes of equal ones
same_size : (t u : List ℕ) → (flat_state t).size ≡ (flat_state u).size → alike (plane_in t) (plane_in u) ≡ true
unfolding plane_bytes
same_size t u e =
    let T : Table = table_of t in
    let U : Table = table_of u in
    rw (
      eq-eqb (length (map seen_of T.level1)) (length (map seen_of U.level1)) (length-map T.level1 seen_of ∙ ap (λ (z : Size). z.buckets1) e ∙ sym (length-map U.level1 seen_of)),
      eq-eqb (length (map seen_of T.level2)) (length (map seen_of U.level2)) (length-map T.level2 seen_of ∙ ap (λ (z : Size). z.buckets2) e ∙ sym (length-map U.level2 seen_of)),
    )

-- so a patch is made from the one to the other, if it fits the output
pub table_make : (t u : List ℕ) → shaped t ≡ true → FlatSound t → shaped u ≡ true → FlatSound u → (flat_state t).size ≡ (flat_state u).size
    → (out : List ℕ) → make_call (plane_in t) (plane_in u) out ≡ put_front (patch_between t u) out
table_make t u k h j g e = make_made (plane_in t) (plane_in u) (plane-bytes t k h) (plane-bytes u j g) (plane_right t k h) (plane_right u j g) (same_size t u e)

-- ---- the planes of one opening

module _ (t : List ℕ) (o : Opened t) where
  right : (ps : List Request) → wrong_at format1 (plane_after t ps) ≡ Ok tt
  right ps = let h = always_sound t o ps in plane_right (after tables t ps) h.0 h.2

  octets : (ps : List Request) → AllBytes (plane_after t ps)
  octets ps = let h = always_sound t o ps in plane-bytes (after tables t ps) h.0 h.2

  module _ (ps qs : List Request) where
    list_alike : alike (plane_after t ps) (plane_after t qs) ≡ true
    list_alike = same_size (after tables t ps) (after tables t qs) (list_size t o ps ∙ sym (list_size t o qs))

    -- "from two planes of equal format and bucket numbers a patch is made": of two planes of one opening it always is, if it fits the output
    pub list_make : (out : List ℕ) → make_call (plane_after t ps) (plane_after t qs) out ≡ put_front (patch_bytes format1 (patch_of format1 (plane_after t ps) (plane_after t qs))) out
    list_make =
        let h = always_sound t o ps in
        let g = always_sound t o qs in
        table_make (after tables t ps) (after tables t qs) h.0 h.2 g.0 g.2 (list_size t o ps ∙ sym (list_size t o qs))

    -- "applied to the old plane it gives the new plane"
    pub list_apply : (out : List ℕ) → apply_call (plane_after t ps) (patch_bytes format1 (patch_of format1 (plane_after t ps) (plane_after t qs))) out ≡ put_front (plane_after t qs) out
    list_apply = made-accepted (plane_after t ps) (plane_after t qs) (octets ps) (octets qs) (right ps) (right qs) list_alike

    -- n bytes were made, and m were written by applying them: those are the new plane
    module _ (out : List ℕ) (n : ℕ) (made : (make_call (plane_after t ps) (plane_after t qs) out).answer ≡ Ok n) (into : List ℕ) where
      abbrev patch_made : List ℕ
      patch_made = take n (make_call (plane_after t ps) (plane_after t qs) out).output

      pub list_follows : apply_call (plane_after t ps) patch_made into ≡ put_front (plane_after t qs) into
      list_follows = make_apply (plane_after t ps) (plane_after t qs) out n (octets ps) (octets qs) made into

      pub list_new : (m : ℕ) → (apply_call (plane_after t ps) patch_made into).answer ≡ Ok m → take m (apply_call (plane_after t ps) patch_made into).output ≡ plane_after t qs
      list_new m e =
          ap (λ (w : Written). take m w.output) list_follows
          ∙ (in-front m into (plane_after t qs) (ap (λ (w : Written). w.answer) (sym list_follows) ∙ e)).front

  -- the plane gives every live identifier its word's last accepted plan
  pub plane_tells : (ps : List Request) (id : Token) (v p : ℕ) → read_of id ≡ Ok v → told v (accepted_calls t ps) ≡ some p → lookup_call id (plane_after t ps) ≡ Ok p
  plane_tells ps id v p i h = let k = always_sound t o ps in shows (after tables t ps) k.0 k.2 id ∙ told_shown t o ps id v p i h
