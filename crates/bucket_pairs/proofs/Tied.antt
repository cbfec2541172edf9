-- Pairs that a linear function ties: sums of them, their sweep, and how they begin.
-- Assumes nothing.
use mathlib.Core.Path.{◌≡◌, sym, ap, ap₂, ◌∙◌, subst}
use mathlib.Core.List.{List, [], ◌∷◌, ◌++◌, map}
use Prim.Native.Nat.{ℕ, ◌-◌, ◌/◌, ◌%◌, ◌^◌, ◌<◌, min}
use native.Mathlib.Decide.{dec_lt}
use native.Mathlib.Omega.{arith}
use lib.Bits.{bit_xor, bit_and, xor_self}
use lib.ListN.{length, get_or, take, drop, replicate, get_or-eq_default}
use borrow.Rule.Slice.PartMut.{mid_of, post_of, put_mid}
use Rattle.std.proofs.lemmas.List.Elements.{All-nil, All-cons, All-replicate, All-get_or, All-append, All-take, All-drop, All-weaker, All-map}
use Rattle.gf2.specs.Vectors.{bit, outside, dot, product}
use Rattle.gf2.proofs.Bit.{bit_lt, bit-and, bit_ext, dot_comm, dot-pow, xor_cancel}
use Rattle.gf2.proofs.Linear.{product_xor, product_is}
use Rattle.gf2.proofs.Lowest.{bit-outside, outside_lt}
use Rattle.transpose.specs.Transposed.{transposed}
use Rattle.transpose.proofs.Transposed.{get_d_transposed}
use Rattle.bucket_pairs.specs.declared.Pair.{Pair}
use Rattle.bucket_pairs.specs.declared.Tables.{Tables}
use Rattle.bucket_pairs.specs.Pairs.{zeros, added, entry, index_of, swept, Linear, TiedPair, Tied, Keeps, OwnOutside, Fixes, PairsOf}

-- ---- sums

pub linear_zero : (f : ℕ → ℕ) → Linear f → f 0 ≡ 0
linear_zero f lf = lf 0 0 ∙ xor_self (f 0)

pub tied_added : (f : ℕ → ℕ) (p q : Pair) → Linear f → TiedPair f p → TiedPair f q → TiedPair f (added p q)
tied_added f p q lf e g = ap₂ bit_xor e g ∙ sym (lf p.right q.right)

pub tied_zeros : (f : ℕ → ℕ) (n : ℕ) → Linear f → Tied f (replicate n zeros)
tied_zeros f n lf = All-replicate (TiedPair f) n zeros (sym (linear_zero f lf))

pub tied_entry : (f : ℕ → ℕ) (ts : List Pair) (i : ℕ) → Linear f → Tied f ts → TiedPair f (entry ts i)
tied_entry f ts i lf t = elim (dec_lt i (length ts)) [
  | yes h ↦ All-get_or (TiedPair f) ts i zeros h t
  | no h ↦ subst (TiedPair f) (sym (get_or-eq_default ts zeros (omega arith))) (sym (linear_zero f lf))
]

-- one of them alone
pub tied_one : (f : ℕ → ℕ) (ts : List Pair) (i : ℕ) → Linear f → Tied f ts → Tied f (entry ts i ∷ [])
tied_one f ts i lf t = All-cons (TiedPair f) (entry ts i) [] (tied_entry f ts i lf t) (All-nil (TiedPair f))

-- ---- the sweep

-- the two entries by their indices
pub swept_is : (ts : Tables) (c have i j : ℕ) (p q r : Pair) → i ≡ index_of (p.left / 2 ^ c) (have % 16) → j ≡ index_of (p.left / 2 ^ c / 16) (have / 16)
    → q ≡ added p (entry ts.first i) → r ≡ added q (entry ts.second j) → r ≡ swept ts c have p
unfolding swept
swept_is ts c have i j p q r d e g h =
    h ∙ ap (λ (q : Pair). added q (entry ts.second j)) g ∙ ap₂ (λ (i j : ℕ). added (added p (entry ts.first i)) (entry ts.second j)) d e

tied_swept : (f : ℕ → ℕ) (ts : Tables) (c have : ℕ) (p : Pair) → Linear f → Tied f ts.first → Tied f ts.second → TiedPair f p → TiedPair f (swept ts c have p)
unfolding swept
tied_swept f ts c have p lf t u s = tied_added f (added p _) _ lf (tied_added f p _ lf s (tied_entry f ts.first _ lf t)) (tied_entry f ts.second _ lf u)

pub swept_keeps : (ts : Tables) (c have : ℕ) (ws xs : List Pair) → xs ≡ map (swept ts c have) ws → Keeps (ts.first ∷ ts.second ∷ ws ∷ []) (xs ∷ [])
swept_keeps ts c have ws xs e f lf t =
    let w = All-weaker (TiedPair f) (λ p. TiedPair f (swept ts c have p)) (λ p s. tied_swept f ts c have p lf t.0 t.1.0 s) ws t.1.1.0 in
    (subst (Tied f) (sym e) (All-map (TiedPair f) (swept ts c have) ws w), tt)

-- k pairs from pair a on
pub part_keeps : (ts : Tables) (c have a k : ℕ) (ws xs : List Pair) → xs ≡ map (swept ts c have) (mid_of a k ws)
    → Keeps (ts.first ∷ ts.second ∷ ws ∷ []) (put_mid a k ws xs ∷ [])
part_keeps ts c have a k ws xs e f lf t =
    let w = t.1.1.0 in
    let rest = All-drop (TiedPair f) a ws w in
    let mid = swept_keeps ts c have (mid_of a k ws) xs e f lf (t.0, (t.1.0, (All-take (TiedPair f) k (drop a ws) rest, tt))) in
    let post = All-drop (TiedPair f) k (drop a ws) rest in
    (All-append (TiedPair f) (take a ws) (xs ++ post_of a k ws) (All-take (TiedPair f) a ws w) (All-append (TiedPair f) xs (post_of a k ws) mid.0 post), tt)

-- ---- at the start

-- what lies outside the mark meets of a vector only what lies outside it too
dot-outside : (x m c : ℕ) → dot (outside x m) c ≡ dot (outside x m) (outside c m)
unfolding dot
dot-outside x m c = let e : bit_and (outside x m) c ≡ bit_and (outside x m) (outside c m) = bit_ext _ _ at in rw e
  where
    at : (i : ℕ) → bit i (bit_and (outside x m) c) ≡ bit i (bit_and (outside x m) (outside c m))
    at i =
        bit-and i (outside x m) c ∙ ap (λ (d : ℕ). min d (bit i c)) (bit-outside i x m) ∙ go (bit i x) (bit i m) (bit i c) (bit_lt i x) (bit_lt i m) (bit_lt i c)
        ∙ sym (bit-and i (outside x m) (outside c m) ∙ ap₂ min (bit-outside i x m) (bit-outside i c m))
      where
        go : (a b d : ℕ) → a < 2 → b < 2 → d < 2 → min (a - b) d ≡ min (a - b) (d - b)
        go a b d ha hb hd = omega arith

-- columns with their own bits alone outside the mark leave what lies there
pub own_fixes : (n mark : ℕ) (cs : List ℕ) → length cs ≡ n → mark < 2 ^ n → OwnOutside n mark cs → Fixes n mark (product cs)
own_fixes n mark cs hl hm own x hx =
    product_is n (outside x mark) (outside x mark) cs hl (outside_lt n x mark hx hm)
    (λ a h.
    dot-outside x mark (get_or cs a 0) ∙ ap (dot (outside x mark)) (own a h) ∙ sym (dot-outside x mark (2 ^ a)) ∙ dot_comm (outside x mark) (2 ^ a)
    ∙ dot-pow a (outside x mark))

-- the pair of row x, which is f of the unit a
pub row-pair : (n mark : ℕ) (f : ℕ → ℕ) (a x : ℕ) → Linear f → Fixes n mark f → x < 2 ^ n → x ≡ f (2 ^ a) → bit_and x mark ≡ f (bit_xor (2 ^ a) (outside x mark))
row-pair n mark f a x lf fx hx e = sym (xor_cancel x (bit_and x mark)) ∙ ap₂ bit_xor e (sym (fx x hx)) ∙ sym (lf (2 ^ a) (outside x mark))

-- pairs that are made of the rows of the matrix begin with products
pub pairs_begin : (n m mark : ℕ) (cs rows : List ℕ) (ws : List Pair) → length cs ≡ n → mark < 2 ^ n → OwnOutside n mark cs → rows ≡ transposed n cs
    → PairsOf n mark rows (replicate m zeros) ws → Tied (product cs) ws
pairs_begin n m mark cs rows ws hl hm own e p =
    p (product cs) (product_xor cs) (own_fixes n mark cs hl hm own) (λ a h. ap (λ (l : List ℕ). get_or l a 0) e ∙ get_d_transposed n cs a h)
    (tied_zeros (product cs) m (product_xor cs))
