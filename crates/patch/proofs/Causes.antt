-- Making and applying give each number if and only if its cause is the first met.
-- Assumes nothing.
use Prim.Native.Nat.{ℕ}
use mathlib.Core.Path.{◌≡◌, refl, sym, ◌∙◌}
use mathlib.Core.Logic.{◌⊎◌, inl, inr, ◌↔◌}
use mathlib.Core.Bool.{cond, ◌&&◌}
use mathlib.Core.List.{List, [], ◌∷◌}
use lib.Dec.{eqb}
use lib.ListN.{length}
use borrow.Author.Tests.{eqb-false, ne_eqb}
use Rattle.std.specs.Prelude.{Result, Ok, Err}
use Rattle.hash.specs.Fnv.{fnv_of}
use Rattle.answer.specs.declared.Cause.TheVariants.{WrongPlane, UnlikePlanes, WrongPatch, WrongSum}
use Rattle.answer.specs.Numbers.{cause_number, cause_value}
use Rattle.answer.specs.Causes.{Cause, cause_if, Exactly}
use Rattle.answer.proofs.Causes.{one_value, one_if, Given, exactly, unless_met}
use Rattle.table.proofs.Causes.{and_fails}
use Rattle.plane.specs.Record.{format1}
use Rattle.plane.specs.Plane.{plane_from, wrong_at, buckets1, buckets2}
use Rattle.plane.specs.Causes.{wrong_plane}
use Rattle.plane.proofs.Scan.{at_nowhere}
use Rattle.plane.proofs.Offset.{at_one, offset_exactly}
use Rattle.plane.proofs.Causes.{one_offset}
use Rattle.plane_write.specs.Write.{Written, turned_down, put_front}
use Rattle.plane_write.specs.Causes.{too_short}
use Rattle.plane_write.proofs.Causes.{front_given}
use Rattle.patch.specs.Patch.{patch_bytes, patch_of}
use Rattle.patch.specs.Wrong.{patch_from, patch_wrong_at}
use Rattle.patch.specs.Calls.{unless_wrong, applied, make_call, apply_call}
use Rattle.patch.specs.Causes.{wrong_patch, make_causes, make_returns, apply_causes, apply_returns}
use Rattle.patch.proofs.Calls.{left}
use Rattle.patch.proofs.Offset.{patch_offset_exactly}

-- a cause with an offset, as the scan x finds it; then what follows, o
unless-wrong : (c : Cause) (cause : ℕ → _) → ((at : ℕ) → (cause_number (cause at) ≡ c.number) × (cause_value (cause at) ≡ at)) → (cs : List Cause) (returns : ℕ → Type 0) (out : List ℕ) (o : Written) (x : Result (Unit {0}) ℕ)
    → ((at : ℕ) → (x ≡ Err at) ↔ c.met at) → Given cs returns o.answer → Given (c ∷ cs) returns (unless_wrong cause out x o).answer
unless-wrong c cause n cs returns out o (Ok u) e g = inr (λ at m. at_nowhere (sym ((e at).1 m)), g)
unless-wrong c cause n cs returns out o (Err at) e g = inl ((n at).0, rw (n at).1 ((e at).0 refl))

-- what both calls meet: cause 10 of the plane p, then c, as the scan y finds it, then two pairs of numbers of which one differs, then 9
two_exactly : (p out bytes : List ℕ) (c : Cause) (cause : ℕ → _) → ((at : ℕ) → (cause_number (cause at) ≡ c.number) × (cause_value (cause at) ≡ at)) → (y : Result (Unit {0}) ℕ) → ((at : ℕ) → (y ≡ Err at) ↔ c.met at)
    → (a : _) → cause_value a ≡ 0 → (i j u v : ℕ)
    → Exactly (wrong_plane format1 p ∷ c ∷ cause_if (cause_number a) ((i ≡ j → ⊥) ⊎ (u ≡ v → ⊥)) 0 ∷ too_short bytes out ∷ []) (λ l. l ≡ length bytes) (left out cause a bytes (wrong_at format1 p) y (eqb i j && eqb u v)).answer
two_exactly p out bytes c cause n y e a z i j u v =
    let differ : Cause = cause_if (cause_number a) ((i ≡ j → ⊥) ⊎ (u ≡ v → ⊥)) 0 in
    let short : List Cause = too_short bytes out ∷ [] in
    let o : Written = cond (eqb i j && eqb u v) (put_front bytes out) (turned_down a out) in
    exactly (wrong_plane format1 p ∷ c ∷ differ ∷ short) (λ l. l ≡ length bytes) (unless_wrong WrongPlane out (wrong_at format1 p) (unless_wrong cause out y o)).answer
    (one_offset format1 p, ((λ s t f g. at_one (sym ((e s).1 f) ∙ (e t).1 g)), (one_if (cause_number a) _ 0, (one_if 9 _ (length bytes), one_value (length bytes)))))
    (unless-wrong (wrong_plane format1 p) WrongPlane (λ at. (refl, refl)) (c ∷ differ ∷ short) (λ l. l ≡ length bytes) out (unless_wrong cause out y o) (wrong_at format1 p) (offset_exactly format1 p)
    (unless-wrong c cause n (differ ∷ short) (λ l. l ≡ length bytes) out o y e
    (unless_met (λ (w : Written). w.answer) (cause_number a) _ 0 short (λ l. l ≡ length bytes) (eqb i j && eqb u v) (put_front bytes out) (turned_down a out)
    (and_fails (eqb i j) (eqb u v) (eqb-false i j, ne_eqb i j) (eqb-false u v, ne_eqb u v)) (refl, z) (λ t. front_given bytes out))))

pub make_exactly : (p q out : List ℕ) → Exactly (make_causes p q out) (make_returns p q) (make_call p q out).answer
unfolding make_call
make_exactly p q out =
    two_exactly p out (patch_bytes format1 (patch_of format1 p q)) (wrong_plane format1 q) WrongPlane (λ at. (refl, refl)) (wrong_at format1 q) (offset_exactly format1 q)
    UnlikePlanes refl (buckets1 p) (buckets1 q) (buckets2 p) (buckets2 q)

pub apply_exactly : (p d out : List ℕ) → Exactly (apply_causes p d out) (apply_returns p d) (apply_call p d out).answer
unfolding apply_call
apply_exactly p d out =
    two_exactly p out (applied format1 p d) (wrong_patch format1 p d) WrongPatch (λ at. (refl, refl)) (patch_wrong_at format1 (plane_from format1 p) d) (patch_offset_exactly format1 (plane_from format1 p) d)
    WrongSum refl (patch_from format1 d).old_sum (fnv_of p) (patch_from format1 d).new_sum (fnv_of (applied format1 p d))
