-- The loops over the records of one kind of a patch: i of them fit, and leave s.
-- Assumes nothing.
use Prim.Native.Nat.{ℕ, suc, ◌+◌, ◌-◌, ◌*◌, ◌≤◌, ◌<◌}
use native.Mathlib.Nat.{sub-zero}
use native.Mathlib.Omega.{arith}
use mathlib.Core.Path.{◌≡◌, sym, ap, ◌∙◌}
use mathlib.Core.Bool.{Bool, true, false}
use mathlib.Core.List.{List, [], ◌∷◌}
use lib.ListN.{length, take, drop}
use lib.Seq.{drop-drop}
use Rattle.lists.proofs.Parts.{rest}
use Rattle.std.specs.Prelude.{Result, Ok, Err}
use Rattle.std.specs.Result.{result_and}
use Rattle.plane.specs.Record.{Kind, size_of, read_all}
use Rattle.plane.specs.Plane.{fits, wrong_in}
use Rattle.plane.proofs.Scan.{both, whole-next, scan_step, scan-here}

-- `count` records of the kind k from the offset `first` on, after what leaves s₀
module _ {A S : Type 0} (k : Kind A) (allowed : S → A → Bool) (next : S → A → S) (s₀ : S) (count first : ℕ) (d : List ℕ) where
  -- where record i starts, and the bytes from there on
  abbrev place : ℕ → ℕ
  place i = first + i * size_of k

  abbrev bytes : ℕ → List ℕ
  bytes i = drop (place i) d

  -- those bytes, as the code lends them
  abbrev pub lent : ℕ → List ℕ
  lent i = take (length d - place i) (bytes i)

  abbrev scan : Result (Unit {0}) ℕ
  scan = wrong_in k allowed next s₀ count first (drop first d)

  pub record Scanned (i : ℕ) (s : S) : Type 0 where
    pub room : place i ≤ length d
    pub same : scan ≡ wrong_in k allowed next s (count - i) (place i) (bytes i)

  pub scan_starts : first ≤ length d → Scanned 0 s₀
  scan_starts h = let e : place 0 ≡ first = omega arith in record { room = omega arith; same = rw (e, sub-zero) }

  module _ {i : ℕ} {s : S} (h : Scanned i s) where
    pub scan_ends : count ≤ i → scan ≡ Ok tt
    scan_ends l = let z : count - i ≡ 0 = omega arith in h.same ∙ rw z

    module _ (some : i < count) where
      lent-is : lent i ≡ bytes i
      lent-is = rest (place i) d

      pub scan_stops : fits k allowed s (lent i) ≡ false → Err (place i) ≡ scan
      scan_stops f = sym (h.same ∙ scan-here k allowed next s (count - i) (place i) (bytes i) (omega arith) (rw lent-is at f))

      pub scan-next : fits k allowed s (lent i) ≡ true → {r : S} → r ≡ next s (k.read (lent i)) → Scanned (i + 1) r
      scan-next f {r} q =
          let e : place (i + 1) ≡ place i + size_of k = omega arith in
          let n : count - (i + 1) ≡ count - i - 1 = omega arith in
          let g = rw lent-is at f in
          rw (q, lent-is)
          (record {
            room = rw e (whole-next k.number k.body (place i) d (both _ _ g).0);
            same = rw (e, n) (h.same ∙ scan_step k allowed next s (count - i) (place i) d (omega arith) g);
          })

-- ---- what a scan found, and what follows

module _ {B : Type 0} (r : Result (Unit {0}) ℕ) (o : Result B ℕ) where
  pub wrong_and : {at : ℕ} → Err at ≡ r → Err at ≡ result_and r o
  wrong_and e = ap (λ (x : Result (Unit {0}) ℕ). result_and x o) e

  pub right_and : r ≡ Ok tt → o ≡ result_and r o
  right_and e = sym (ap (λ (x : Result (Unit {0}) ℕ). result_and x o) e)

-- ---- what the first i records of a scan say is known

module _ {A : Type 0} (size : ℕ) (read : List ℕ → A) (count first : ℕ) (d : List ℕ) where
  -- the others
  abbrev pub unread : ℕ → List A
  unread i = read_all size read (count - i) (drop (first + i * size) d)

  pub unread-all : unread 0 ≡ read_all size read count (drop first d)
  unread-all = let e : first + 0 * size ≡ first = omega arith in rw (e, sub-zero)

  pub unread_next : (i : ℕ) → i < count → unread i ≡ read (take (length d - (first + i * size)) (drop (first + i * size) d)) ∷ unread (i + 1)
  unfolding read_all
  unread_next i h =
      let n : count - i ≡ suc (count - (i + 1)) = omega arith in
      let e : first + (i + 1) * size ≡ first + i * size + size = omega arith in
      rw (rest (first + i * size) d, n, e, drop-drop size (first + i * size) d)

  pub unread_none : (i : ℕ) → count ≤ i → unread i ≡ []
  unfolding read_all
  unread_none i h = let n : count - i ≡ 0 = omega arith in rw n
