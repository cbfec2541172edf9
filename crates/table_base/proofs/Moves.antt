-- Elements of a list move by a loop: a step of it, to a lower place and to a higher one.
-- Assumes nothing.
use mathlib.Core.Path.{◌≡◌, sym, ap, ◌∙◌}
use mathlib.Core.List.{List, [], ◌∷◌, ◌++◌, append-nil, append_assoc}
use Prim.Native.Nat.{ℕ, suc, ◌+◌, ◌-◌, ◌≤◌, ◌<◌}
use native.Mathlib.Omega.{arith}
use lib.ListN.{length, get_or, set, take, drop, length-append, length-take, length-drop, take-append-drop, drop_of_length-le, get_or-append}
use lib.Seq.{paste, paste-suc, drop-paste, drop-cons, take-suc, get_or-drop, get_or-take, set_at}

module _ {X : Type 0} (d : List X) (from to : ℕ) where
  -- a copy to a lower place goes from the first element on, so that it reads ahead of what it wrote
  pub down_step : (j : ℕ) (x z : X) → to ≤ from → from + j < length d → x ≡ get_or (paste d to (drop from d) j) (from + j) z → set (paste d to (drop from d) j) (to + j) x ≡ paste d to (drop from d) (j + 1)
  down_step j x z le lt read =
      let long = length-drop from d in
      let at : from + j ≡ to + j + (from - to) = omega arith in
      let on : suc j ≡ j + 1 = omega arith in
      let p : List X = paste d to (drop from d) j in
      let is : x ≡ get_or (drop from d) j z = read ∙ ap (λ k. get_or p k z) at ∙ sym (get_or-drop (to + j) p (from - to) z) ∙ ap (λ l. get_or l (from - to) z) (drop-paste d to (drop from d) j (omega arith) (omega arith)) ∙ get_or-drop (to + j) d (from - to) z ∙ ap (λ k. get_or d k z) (sym at) ∙ sym (get_or-drop from d j z) in
      ap (set p (to + j)) is ∙ paste-suc d to (drop from d) j z (omega arith) (omega arith) ∙ ap (paste d to (drop from d)) on

  module _ (n : ℕ) where
    -- a copy to a higher place goes from the last element back: the places from i on are written
    abbrev pub upper : ℕ → List X
    upper i = (take (to + i) d ++ drop i (take n (drop from d))) ++ drop (to + n) d

    pub up_begins : d ≡ upper n
    up_begins =
        let short = length-take n (drop from d) in
        sym (ap (λ l. (take (to + n) d ++ l) ++ drop (to + n) d) (drop_of_length-le (take n (drop from d)) {i = n} (omega arith)) ∙ ap (λ l. l ++ drop (to + n) d) (append-nil (take (to + n) d)) ∙ take-append-drop (to + n) d)

    pub up_ends : upper 0 ≡ paste d to (drop from d) n
    up_ends = let none : to + 0 ≡ to = omega arith in ap (λ k. (take k d ++ take n (drop from d)) ++ drop (to + n) d) none

    pub up_step : (i : ℕ) (x z : X) → from ≤ to → 0 < i → i ≤ n → to + n ≤ length d → x ≡ get_or (upper i) (from + (i - 1)) z → set (upper i) (to + (i - 1)) x ≡ upper (i - 1)
    up_step i x z le pos within fits read =
        let j : ℕ = i - 1 in
        let t : List X = take n (drop from d) in
        let a : List X = take (to + j) d in
        let m : List X = drop i t in
        let r : List X = drop (to + n) d in
        let y : X = get_or d (to + j) z in
        let front = length-take (to + i) d in
        let both = length-append (take (to + i) d) m in
        let short = length-take (to + j) d in
        let rest = length-drop from d in
        let part = length-take n (drop from d) in
        let on : to + i ≡ suc (to + j) = omega arith in
        let next : suc j ≡ i = omega arith in
        let is : x ≡ get_or t j z = read ∙ get_or-append (take (to + i) d ++ m) r z (from + j) (omega arith) ∙ get_or-append (take (to + i) d) m z (from + j) (omega arith) ∙ get_or-take (to + i) d (from + j) z (omega arith) ∙ sym (get_or-drop from d j z) ∙ sym (get_or-take n (drop from d) j z (omega arith)) in
        let cut : upper i ≡ a ++ y ∷ (m ++ r) = ap (λ l. (l ++ m) ++ r) (ap (λ k. take k d) on ∙ take-suc d (to + j) z (omega arith)) ∙ ap (λ l. l ++ r) (append_assoc a (y ∷ []) m) ∙ append_assoc a (y ∷ m) r in
        let more : drop j t ≡ x ∷ m = drop-cons t j z (omega arith) ∙ (λ k. sym is k ∷ drop (next k) t) in
        ap (λ l. set l (to + j) x) cut ∙ set_at a y (m ++ r) x (to + j) (omega arith) ∙ sym (append_assoc a (x ∷ m) r) ∙ ap (λ l. (a ++ l) ++ r) (sym more)
