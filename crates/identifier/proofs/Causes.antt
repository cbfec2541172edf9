-- Each outcome of reading an identifier is given if and only if it is the first that the order of causes meets.
-- Assumes nothing.
use mathlib.Core.Path.{◌≡◌, refl, sym, ap, ◌∙◌, subst⁻¹}
use mathlib.Core.Logic.{◌⊎◌, inl, inr, ◌↔◌}
use mathlib.Core.Bool.{Bool, true, false, true≢false}
use mathlib.Core.List.{List, [], ◌∷◌, ◌++◌}
use Prim.Native.Nat.{ℕ, zero, suc, ◌≤◌, ◌<◌, zero-le, suc-le-suc}
use native.Mathlib.Nat.{le_refl, le_of_lt, le_antisymm, lt_irrefl, lt_of_lt_of_le, not-suc-le-zero, le_of_suc-le-suc}
use native.Mathlib.Omega.{arith}
use lib.Dec.{ltb, leb}
use lib.ListN.{length, get_or}
use borrow.Author.Tests.{lt-ltb, le-ltb, ltb-true, ltb-false, leb-false, le-leb, lt-leb}
use Rattle.answer.specs.Numbers.{Answer, cause_number}
use Rattle.answer.specs.Causes.{Cause, Exactly}
use Rattle.answer.proofs.Determined.{refused≢accepted}
use Rattle.answer.proofs.Causes.{One, OneEach, one_value, one_if, Given, exactly}
use Rattle.answer.specs.declared.Cause.TheVariants.{WrongLength, WrongByte, WrongKind}
use Rattle.identifier.specs.Identifier.{between, Token, id_bytes, last_kind, is_kind, most_bytes, sized, allowed, word_of, first_refused, read_of}
use Rattle.identifier.specs.Causes.{wrong_kind, wrong_length, AllowedTo, FirstNotAllowed, wrong_byte, id_causes}
use Rattle.std.specs.Prelude.{Ok, Err}
use Rattle.identifier.proofs.Folding.{by_test}

-- ---- the first byte that is not allowed

-- i is the index of the first byte that is not allowed, or the length
pub record First (s : List ℕ) (i : ℕ) : Type 0 where
  pub within : i ≤ length s
  pub before : AllowedTo s i
  pub here : i < length s → allowed (get_or s i 0) ≡ false

pub first-refused : (s : List ℕ) → First s (first_refused s)
unfolding first_refused
first-refused [] = record { within = zero-le; before = λ j h. absurd (not-suc-le-zero h); here = λ h. absurd (not-suc-le-zero h) }
first-refused (b ∷ s) =
    by_test (allowed b)
    (λ e. rw e (next e (first-refused s)))
    (λ e. rw e (record { within = zero-le; before = λ j h. absurd (not-suc-le-zero h); here = λ h. e }))
  where
    earlier : (i : ℕ) → allowed b ≡ true → AllowedTo s i → AllowedTo (b ∷ s) (suc i)
    earlier i e f zero h = e
    earlier i e f (suc j) h = f j (le_of_suc-le-suc h)

    next : {i : ℕ} → allowed b ≡ true → First s i → First (b ∷ s) (suc i)
    next {i} e f = record { within = suc-le-suc f.within; before = earlier i e f.before; here = λ h. f.here (le_of_suc-le-suc h) }

pub first_one : (s : List ℕ) (i j : ℕ) → First s i → First s j → i ≡ j
first_one s i j p q =
    by_test (ltb i j) (λ t. absurd (clash i j p q (ltb-true i j t)))
    (λ t. by_test (ltb j i) (λ u. absurd (clash j i q p (ltb-true j i u))) (λ u. le_antisymm (ltb-false j i u) (ltb-false i j t)))
  where
    clash : (i j : ℕ) → First s i → First s j → i < j → ⊥
    clash i j p q l = true≢false (sym (q.before i l) ∙ p.here (lt_of_lt_of_le l q.within))

-- the number of a cause of an identifier
abbrev pub OfIdentifier : ℕ → Type 0
OfIdentifier n = (n ≡ 15) ⊎ ((n ≡ 1) ⊎ (n ≡ 2))

-- what is computed to fail at each of the three fails at such a number
pub of_identifier : (f : ℕ → Bool) (n : ℕ) → f 15 ≡ false → f 1 ≡ false → f 2 ≡ false → OfIdentifier n → f n ≡ false
of_identifier f n a b c (inl e) = ap f e ∙ a
of_identifier f n a b c (inr (inl e)) = ap f e ∙ b
of_identifier f n a b c (inr (inr e)) = ap f e ∙ c

-- ---- the four outcomes

module _ (i : Token) where
  unkind : is_kind i.kind ≡ false → read_of i ≡ Err WrongKind
  unfolding read_of
  unkind k = rw k

  unsized : is_kind i.kind ≡ true → sized i.stated ≡ false → read_of i ≡ Err (WrongLength i.stated)
  unfolding read_of
  unsized k e = rw (k, e)

  refused : is_kind i.kind ≡ true → sized i.stated ≡ true → first_refused (id_bytes i) < length (id_bytes i) → read_of i ≡ Err (WrongByte (first_refused (id_bytes i)))
  unfolding read_of
  refused k e l = rw (k, e, lt-ltb (first_refused (id_bytes i)) (length (id_bytes i)) l)

  accepted : is_kind i.kind ≡ true → sized i.stated ≡ true → length (id_bytes i) ≤ first_refused (id_bytes i) → read_of i ≡ Ok (word_of i)
  unfolding read_of
  accepted k e l = rw (k, e, le-ltb (first_refused (id_bytes i)) (length (id_bytes i)) l)

  outcome : {P : Type 0} → (is_kind i.kind ≡ false → P) → (is_kind i.kind ≡ true → sized i.stated ≡ false → P)
      → (is_kind i.kind ≡ true → sized i.stated ≡ true → first_refused (id_bytes i) < length (id_bytes i) → P)
      → (is_kind i.kind ≡ true → sized i.stated ≡ true → length (id_bytes i) ≤ first_refused (id_bytes i) → P) → P
  outcome m f g h =
      by_test (is_kind i.kind)
      (λ k. by_test (sized i.stated)
      (λ e. by_test (ltb (first_refused (id_bytes i)) (length (id_bytes i))) (λ l. g k e (ltb-true _ _ l)) (λ l. h k e (ltb-false _ _ l)))
      (f k))
      m

  -- what holds of each refusal by 15, 1 or 2, and of the word, holds of what the identifier is found to be
  pub by_reading : (P : Answer → Type 0) → ((c : _) → OfIdentifier (cause_number c) → P (Err c)) → P (Ok (word_of i)) → P (read_of i)
  by_reading P f g =
      outcome (λ k. subst⁻¹ P (unkind k) (f _ (inl refl))) (λ k u. subst⁻¹ P (unsized k u) (f _ (inr (inl refl))))
      (λ k u l. subst⁻¹ P (refused k u l) (f _ (inr (inr refl)))) (λ k u l. subst⁻¹ P (accepted k u l) g)

  -- accepted, with the word: kind and number of bytes are right and each byte is allowed
  pub read_word : (w : ℕ) → (read_of i ≡ Ok w) ↔ ((is_kind i.kind ≡ true) × (sized i.stated ≡ true) × AllowedTo (id_bytes i) (length (id_bytes i)) × (w ≡ word_of i))
  read_word w = (
    λ e. outcome
        (λ k. absurd (refused≢accepted _ w (sym (unkind k) ∙ e)))
        (λ k u. absurd (refused≢accepted _ w (sym (unsized k u) ∙ e)))
        (λ k u l. absurd (refused≢accepted _ w (sym (refused k u l) ∙ e)))
        (λ k u l. let r = accepted k u l in (k, u, λ j h. (first-refused (id_bytes i)).before j (lt_of_lt_of_le h l), cc)),
    λ p.
        let s : List ℕ = id_bytes i in
        let all : First s (length s) = record { within = le_refl (length s); before = p.2; here = λ h. absurd (lt_irrefl (length s) h) } in
        let q : first_refused s ≡ length s = first_one s (first_refused s) (length s) (first-refused s) all in
        accepted p.0 p.1 (rw q (le_refl (length s))) ∙ ap Ok (sym p.3),
  )

-- ---- as the first causes of a call

-- a number that is not 1 to last is 0 or over last
pub range_exactly : (last n : ℕ) → (between 1 last n ≡ false) ↔ ((n ≡ 0) ⊎ (last < n))
range_exactly last n = (λ e. by_test (leb 1 n) (λ l. inr (leb-false n last (rw l at e))) (λ l. inl (let h = leb-false 1 n l in omega arith)), back)
  where
    back : (n ≡ 0) ⊎ (last < n) → between 1 last n ≡ false
    back (inl z) = rw z
    back (inr l) = let h : 1 ≤ n = omega arith in rw (le-leb 1 n h, lt-leb n last l)

-- two first bytes not allowed are one
pub one_byte : (s : List ℕ) → One (FirstNotAllowed s)
one_byte s i j p q = first_one s i j (made p) (made q)
  where
    made : {i : ℕ} → FirstNotAllowed s i → First s i
    made p = record { within = le_of_lt p.0; before = p.2; here = λ l. p.1 }

-- each of an identifier's causes has one value
pub one_identifier : (i : Token) (cs : List Cause) (returns : ℕ → Type 0) → OneEach cs returns → OneEach (id_causes i ++ cs) returns
one_identifier i cs returns o = (one_if 15 _ 0, (one_if 1 _ i.stated, (one_byte (id_bytes i), o)))

module _ (i : Token) {A : Type 0} (answer : A → Answer) (f : Answer → A) (refuses : (c : _) → answer (f (Err c)) ≡ Err c) (cs : List Cause) (returns : ℕ → Type 0) where
  -- a call that turns down what is no identifier meets causes 15, 1 and 2 first, and those of the word after them
  pub identifier_given : (read_of i ≡ Ok (word_of i) → Given cs returns (answer (f (Ok (word_of i))))) → Given (id_causes i ++ cs) returns (answer (f (read_of i)))
  identifier_given g =
      outcome i
      (λ k. turned (unkind i k) (inl (refl, ((range_exactly last_kind i.kind).0 k, refl))))
      (λ k u. turned (unsized i k u) (inr (known k, inl (refl, ((range_exactly most_bytes i.stated).0 u, refl)))))
      (λ k u l. let h = first-refused (id_bytes i) in turned (refused i k u l) (inr (known k, inr (right u, inl (refl, (l, h.here l, h.before))))))
      (λ k u l. subst⁻¹ P (ap (λ (x : Answer). answer (f x)) (accepted i k u l))
      (inr (known k, inr (right u, inr (λ j p. all l j p, g (accepted i k u l))))))
    where
      P : Answer → Type 0
      P a = Given (id_causes i ++ cs) returns a

      turned : {c : _} → read_of i ≡ Err c → P (Err c) → P (answer (f (read_of i)))
      turned e p = subst⁻¹ P (ap (λ (x : Answer). answer (f x)) e ∙ refuses _) p

      known : is_kind i.kind ≡ true → (v : ℕ) → (wrong_kind i).met v → ⊥
      known k v p = true≢false (sym k ∙ (range_exactly last_kind i.kind).1 p.0)

      right : sized i.stated ≡ true → (v : ℕ) → (wrong_length i).met v → ⊥
      right u v p = true≢false (sym u ∙ (range_exactly most_bytes i.stated).1 p.0)

      all : length (id_bytes i) ≤ first_refused (id_bytes i) → (j : ℕ) → (wrong_byte i).met j → ⊥
      all l j p = true≢false (sym ((first-refused (id_bytes i)).before j (lt_of_lt_of_le p.0 l)) ∙ p.1)

-- reading itself gives each number if and only if its cause is the first met; accepted, it returns the word
pub read_exactly : (i : Token) → Exactly (id_causes i) (λ v. v ≡ word_of i) (read_of i)
read_exactly i =
    exactly (id_causes i) (λ v. v ≡ word_of i) (read_of i) (one_identifier i [] (λ v. v ≡ word_of i) (one_value (word_of i)))
    (identifier_given i (λ a. a) (λ a. a) (λ c. refl) [] (λ v. v ≡ word_of i) (λ e. (refl, refl)))
