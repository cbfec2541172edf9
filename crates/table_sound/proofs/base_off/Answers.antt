-- `table_sound::base_off` meets its contract.
-- Assumes nothing.
use Prim.Native.Nat.{ℕ, ◌+◌, ◌-◌, ◌*◌, ◌/◌, ◌≤◌}
use native.Mathlib.Omega.{arith}
use mathlib.Core.Path.{◌≡◌, sym, ap, ◌∙◌}
use mathlib.Core.Bool.{Bool, true}
use mathlib.Core.List.{List}
use lib.Dec.{eqb}
use lib.ListN.{length, get_or, take, drop}
use Rattle.std.proofs.lemmas.Bool.{false≢true}
use Rattle.lists.specs.Entries.{Entry}
use Rattle.lists.proofs.Parts.{rest}
use Rattle.model.specs.Model.{base_limit}
use Rattle.table.specs.Layout.{buckets1_at, buckets2_at, base_count_at, pairs_from, bucket_place}
use Rattle.table.specs.Test.{all_of, ascends}
use Rattle.table.specs.Calls.{rows, solutions, shaped}
use Rattle.table_rows.specs.Counting.{count_off}
use Rattle.table_rows.proofs.Counting.{left-stopped, left_as, gate-on, gate_off}
use Rattle.table_sound.specs.Held.{pair_test}
use Rattle.table_sound.proofs.Held.{ascending, unused, pairs_lent}
use Rattle.table_layout.proofs.Shape.{shape}
use Rattle.table_sound.proofs.base_off.Goals.{then-pairs_ascend, else-pairs_ascend}
use Rattle.table_sound.proofs.base_off.Goals as goal

pub bounds-t-2 : goal.bounds-t-2
bounds-t-2 c = let s = shape c.requires.0 in omega arith

pub overflow_add-end : goal.overflow_add-end
overflow_add-end c = let s = shape c.requires.0 in omega arith

pub offset_bounds-t-place : goal.offset_bounds-t-place
offset_bounds-t-place c = let s = shape c.requires.0 in omega arith

pub slice_bounds-pairs-end : goal.slice_bounds-pairs-end
slice_bounds-pairs-end c = let s = shape c.requires.0 in omega arith

pub offset_bounds-t-end : goal.offset_bounds-t-end
offset_bounds-t-end c = let s = shape c.requires.0 in omega arith

pub slice_bounds-all_zero-count : goal.slice_bounds-all_zero-count
slice_bounds-all_zero-count c = let s = shape c.requires.0 in omega arith

pub slice_bounds-all_zero-start : goal.slice_bounds-all_zero-start
slice_bounds-all_zero-start c = let s = shape c.requires.0 in omega arith

-- the pairs in use, as they are lent, and the numbers behind them
module _ (t : List ℕ) (h : shaped t ≡ true) (l : get_or t base_count_at 0 ≤ base_limit) (place : ℕ) (e : place ≡ bucket_place rows solutions (get_or t buckets1_at 0 + get_or t buckets2_at 0)) where
  abbrev many : ℕ
  many = 2 * get_or t base_count_at 0

  abbrev lent : List ℕ
  lent = take (place + many - place) (drop place t)

  same_pairs : pairs_from (length lent / 2) lent ≡ pairs_from (get_or t base_count_at 0) (drop place t)
  same_pairs = let s = shape h in pairs_lent place (get_or t base_count_at 0) t (omega (arith, s.size))

  ascend : {x y : Bool} → x ≡ ascends (pairs_from (length lent / 2) lent) → x ≡ y → ascends (pairs_from (get_or t base_count_at 0) (drop (bucket_place rows solutions (get_or t buckets1_at 0 + get_or t buckets2_at 0)) t)) ≡ y
  ascend f = ascending t e (f ∙ ap ascends same_pairs)

  rest_zero : {x y : Bool} → x ≡ all_of (λ x. eqb x 0) (take (length t - (place + many)) (drop (place + many) t)) → x ≡ y
      → all_of (λ x. eqb x 0) (drop (bucket_place rows solutions (get_or t buckets1_at 0 + get_or t buckets2_at 0) + many) t) ≡ y
  rest_zero f = unused t e (f ∙ ap (all_of (λ x. eqb x 0)) (rest (place + many) t))

  same_counted : (ts : List ℕ) → count_off (pair_test t) (pairs_from (get_or t base_count_at 0) (drop (bucket_place rows solutions (get_or t buckets1_at 0 + get_or t buckets2_at 0)) t)) ts ≡ count_off (pair_test t) (pairs_from (length lent / 2) lent) ts
  same_counted ts =
      ap (λ (x : ℕ). count_off (pair_test t) (pairs_from (get_or t base_count_at 0) (drop x t)) ts) (sym e) ∙ ap (λ (es : List Entry). count_off (pair_test t) es ts) (sym same_pairs)

pub returns-then-all_zero : goal.returns-then-all_zero
returns-then-all_zero c =
    let t = c.args.t.now in
    let e = c.base_place-place.ensures in
    elim c.if-pairs_ascend.branch [
      | then-pairs_ascend w ↦
          left_as c.pairs_off.result c.pairs_off.new.left
          (gate-on c.args.left.now (ascend t c.requires.0 c.requires.1 _ e c.pairs_ascend.ensures w.if-pairs_ascend.true)
          (gate-on c.args.left.now (rest_zero t c.requires.0 c.requires.1 _ e w.all_zero.ensures (sym w.value-is ∙ c.if-all_zero.true))
          (same_counted t c.requires.0 c.requires.1 _ e c.args.left.now))) c.pairs_off.ensures
      | else-pairs_ascend w ↦ absurd (false≢true (sym w.if-pairs_ascend.false ∙ sym w.value-is ∙ c.if-all_zero.true))
    ]

pub returns-else-all_zero : goal.returns-else-all_zero
returns-else-all_zero c =
    let t = c.args.t.now in
    let e = c.base_place-place.ensures in
    rw c.if-all_zero.false
    (elim c.if-pairs_ascend.branch [
      | then-pairs_ascend w ↦
          left-stopped c.args.left.now (gate-on c.args.left.now (ascend t c.requires.0 c.requires.1 _ e c.pairs_ascend.ensures w.if-pairs_ascend.true)
          (gate_off c.args.left.now _ (rest_zero t c.requires.0 c.requires.1 _ e w.all_zero.ensures (sym w.value-is ∙ c.if-all_zero.false))))
      | else-pairs_ascend w ↦ left-stopped c.args.left.now (gate_off c.args.left.now _ (ascend t c.requires.0 c.requires.1 _ e c.pairs_ascend.ensures w.if-pairs_ascend.false))
    ])
