-- What an accepted call of the writer has done: the table is sound, and its plane, which fits, stands in front of the output.
-- Assumes nothing.
use mathlib.Core.Path.{◌≡◌, refl, sym, ap, ◌∙◌, subst}
use mathlib.Core.Bool.{Bool, true, false, cond, ◌&&◌}
use mathlib.Core.List.{List}
use Prim.Native.Nat.{ℕ, ◌+◌, ◌≤◌, ◌^◌, ◌<◌}
use native.Mathlib.Omega.{arith}
use borrow.Author.Tests.{leb-true, ltb-false, le-ltb}
use lib.Dec.{leb, ltb, lit≤}
use lib.ListN.{length, get_or, take, drop, length-map}
use lib.Seq.{take_at, drop_at}
use Rattle.std.specs.Prelude.{Ok, Err}
use Rattle.answer.specs.Numbers.{Answer}
use Rattle.lists.proofs.Tests.{by_test}
use Rattle.hash.specs.Mix.{unmix_of}
use Rattle.answer.specs.declared.Cause.{Cause}
use Rattle.answer.specs.declared.Cause.TheVariants.{WrongTable, NotSound}
use Rattle.answer.proofs.Determined.{refused≢accepted}
use Rattle.identifier.specs.Identifier.{Token, read_of}
use Rattle.model.specs.Model.{base_limit}
use Rattle.table.specs.Layout.{buckets1_at, buckets2_at, base_count_at, most_buckets1, most_buckets2, length_of}
use Rattle.table.specs.Calls.{rows, solutions, table_of, shaped, sound, FlatSound}
use Rattle.table.proofs.Calls.{shape_range, shape_size}
use Rattle.table.proofs.Statements.{sound_exactly, header_read}
use Rattle.plane.specs.Record.{format1}
use Rattle.plane.specs.Plane.{plane_bytes, plane_length}
use Rattle.plane.specs.Lookup.{lookup_read, lookup_call}
use Rattle.plane.specs.Fits.{Fits}
use Rattle.plane_write.specs.Write.{seen_of, plane_of, put_front, Written, turned_down, write_call, shown_to}
use Rattle.plane.proofs.Scan.{both}
use Rattle.plane.proofs.Round.{plane-length, written_right, written_read}
use Rattle.plane_write.proofs.Shown.{plane-fits, shown}

module _ (t : List ℕ) (k : shaped t ≡ true) (h : FlatSound t) where
  pub fits : Fits format1 (plane_of (table_of t))
  fits = plane-fits rows format1 (lit≤ tt) t unmix_of (shape_range rows solutions t k) h.table

  -- the plane of a sound table, read again, gives for each identifier, live or not, the answer of the table's own XOR words or base list
  pub shows : (id : Token) → lookup_call id (plane_bytes format1 (plane_of (table_of t))) ≡ shown_to (table_of t) (read_of id)
  unfolding lookup_call
  shows id = go (read_of id)
    where
      go : (i : Answer) → lookup_read (plane_bytes format1 (plane_of (table_of t))) i ≡ shown_to (table_of t) i
      go (Err a) = refl
      go (Ok v) =
          rw (written_right format1 (plane_of (table_of t)) fits, written_read format1 (plane_of (table_of t)) fits)
          (ap Ok (shown rows solutions (table_of t) v h.table.level1.some h.table.level2.some))

-- what the writer knows of a sound table t
pub record Known (t : List ℕ) : Type 0 where
  pub size : length t ≡ length_of rows solutions (get_or t buckets1_at 0) (get_or t buckets2_at 0)
  pub most1 : get_or t buckets1_at 0 ≤ most_buckets1
  pub most2 : get_or t buckets2_at 0 ≤ most_buckets2
  pub few : get_or t base_count_at 0 ≤ base_limit
  pub fits : Fits format1 (plane_of (table_of t))
  pub long : length (plane_bytes format1 (plane_of (table_of t))) ≡ plane_length format1 (get_or t buckets1_at 0 + get_or t buckets2_at 0) (get_or t base_count_at 0)

pub known : (t : List ℕ) → ((i : ℕ) → get_or t i 0 < 2 ^ 64) → shaped t ≡ true → sound t ≡ true → Known t
known t w k q =
    let h : FlatSound t = (sound_exactly t k w).0 q in
    let f : Fits format1 (plane_of (table_of t)) = fits t k h in
    let r = header_read t in
    let d = both (leb 1 (get_or t buckets1_at 0) && leb (get_or t buckets1_at 0) most_buckets1) _ (shape_range rows solutions t k) in
    record {
      size = shape_size rows solutions t k;
      most1 = leb-true (get_or t buckets1_at 0) most_buckets1 (both (leb 1 (get_or t buckets1_at 0)) _ d.0).1;
      most2 = leb-true (get_or t buckets2_at 0) most_buckets2 (both (leb 1 (get_or t buckets2_at 0)) _ d.1).1;
      few = rw r.2 at h.table.fits;
      fits = f;
      long = plane-length format1 (plane_of (table_of t)) f
          ∙ rw (length-map (table_of t).level1 seen_of, length-map (table_of t).level2 seen_of, r.0, r.1, r.2) refl;
    }

-- ---- a call that is accepted has written the plane of a sound table, and nothing past it

module _ (n : ℕ) (out : List ℕ) where
  -- n bytes stand in front of the output, which has room for them, and past them it is what it was
  pub record InFront (bytes after : List ℕ) : Type 0 where
    pub size : n ≡ length bytes
    pub room : n ≤ length out
    pub front : take n after ≡ bytes
    pub rest : drop n after ≡ drop n out

  pub in-front : (bytes : List ℕ) → (put_front bytes out).answer ≡ Ok n → InFront bytes (put_front bytes out).output
  in-front bytes =
      by_test (λ (o : Written). o.answer ≡ Ok n → InFront bytes o.output) (ltb (length out) (length bytes))
      (λ t e. let z : ◌≡◌ {A = ℕ} 0 1 = cc in absurd (omega arith))
      (λ f e. let l : length bytes ≡ n = cc in
      record {
        size = sym l;
        room = subst (λ (k : ℕ). k ≤ length out) l (ltb-false (length out) (length bytes) f);
        front = take_at bytes (drop (length bytes) out) n l;
        rest = drop_at bytes (drop (length bytes) out) n l ∙ ap (λ (k : ℕ). drop k out) l;
      })

-- where there is room it is accepted
pub front_room : (bytes out : List ℕ) → length bytes ≤ length out → (put_front bytes out).answer ≡ Ok (length bytes)
front_room bytes out l = rw (le-ltb (length out) (length bytes) l) refl

accepted-of : (b : Bool) (o : Written) (a : Cause) (out : List ℕ) (n : ℕ) → (cond b o (turned_down a out)).answer ≡ Ok n → (b ≡ true) × (o.answer ≡ Ok n)
accepted-of true o a out n e = (refl, e)
accepted-of false o a out n e = absurd (refused≢accepted a n e)

module _ (t out : List ℕ) (n : ℕ) (e : (write_call t out).answer ≡ Ok n) where
  pub was-shaped : (shaped t ≡ true) × ((cond (sound t) (put_front (plane_bytes format1 (plane_of (table_of t))) out) (turned_down NotSound out)).answer ≡ Ok n)
  unfolding write_call
  was-shaped = accepted-of (shaped t) _ (WrongTable (length t)) out n e

  pub was-sound : (sound t ≡ true) × ((put_front (plane_bytes format1 (plane_of (table_of t))) out).answer ≡ Ok n)
  was-sound = accepted-of (sound t) _ NotSound out n was-shaped.1

  pub was-written : InFront n out (plane_bytes format1 (plane_of (table_of t))) (write_call t out).output
  unfolding write_call
  was-written = rw (was-shaped.0, was-sound.0) (in-front n out (plane_bytes format1 (plane_of (table_of t))) was-sound.1)
