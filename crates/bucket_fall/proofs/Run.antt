-- The loop of fall: the words that have left so far, ahead of what is to come, are the whole settlement.
-- Assumes nothing.
use Prim.Native.Nat.{ℕ, zero, suc, ◌+◌, ◌≤◌, ◌<◌}
use native.Mathlib.Nat.{not-suc-le-zero}
use native.Mathlib.Omega.{arith}
use mathlib.Core.Path.{◌≡◌, refl, sym, ap, ◌∙◌, subst⁻¹, subst₂}
use mathlib.Core.List.{List, [], ◌∷◌, ◌++◌, append_assoc, append-nil}
use lib.ListN.{length, length-append}
use borrow.Author.Tests.{lt-ltb, le-ltb}
use Rattle.lists.specs.Entries.{Entry, words}
use Rattle.lists.proofs.Tests.{cond_true, cond_false}
use Rattle.bucket.specs.declared.Bucket.{Bucket}
use Rattle.std.specs.Prelude.{Option, Some, None}
use Rattle.bucket.specs.Bucket.{add}
use Rattle.bucket.proofs.Laws.{still_depends}
use Rattle.bucket_settle.specs.Settle.{SoundBucket, contents, leaving, withdraw_all, at_bound, lowered, Settlement, ahead, or_else, settle}
use Rattle.bucket_settle.proofs.Sound.{contents_few, lowered-sound, lowered-length}
use Rattle.bucket_fall.specs.declared.Settled.{Settled}
use Rattle.bucket_fall.specs.Settled.{settled_of}

-- ---- the three ways of the definition

module _ (n : ℕ) (thr : ℕ → ℕ) (e : Entry) where
  -- by what an add gives
  settle_by : (t : ℕ) (b : Bucket) {o : Option Bucket} → thr e.word < suc t → add n e.word e.plan b ≡ o → settle n thr e (suc t) b ≡ or_else o (ahead (leaving n thr t b) (settle n thr e t (lowered n thr t b)))
  settle_by t b l d =
      cond_true _ _ (lt-ltb (thr e.word) (suc t) l) ∙ ap (λ (o : Option Bucket). or_else o (ahead (leaving n thr t b) (settle n thr e t (lowered n thr t b)))) d

  pub settle-done : (t : ℕ) (b : Bucket) {c : Bucket} → thr e.word < t → add n e.word e.plan b ≡ Some c → settle n thr e t b ≡ record { bucket = c; out = [] }
  settle-done zero b l d = absurd (not-suc-le-zero l)
  settle-done (suc t) b l d = settle_by t b l d

  pub settle-past : (t : ℕ) (b : Bucket) → t ≤ thr e.word → settle n thr e t b ≡ record { bucket = b; out = e ∷ [] }
  settle-past zero b l = refl
  settle-past (suc t) b l = cond_false _ _ (le-ltb (thr e.word) (suc t) l)

-- ---- a dependence that stays

-- where no word leaves, the columns and the mark are those that they were
pub depends_still : (n k plan t : ℕ) (b : Bucket) {b' : Bucket} (es : List Entry) → b' ≡ at_bound t (withdraw_all n (words es) b) → length es ≡ 0
    → add n k plan b ≡ None → add n k plan b' ≡ None
depends_still n k plan t b [] p z d = subst⁻¹ (λ (c : Bucket). add n k plan c ≡ None) p (still_depends n k plan b (at_bound t b) refl refl d)
depends_still n k plan t b (e ∷ es) p z d = absurd (omega (arith, z))

-- ---- the loop

module _ (n r : ℕ) (thr : ℕ → ℕ) (e : Entry) where
  -- b₀ is the bucket to which e came, b the bucket now, gone the words that have left
  pub record Settling (b₀ b : Bucket) (gone : List Entry) : Type 0 where
    pub sound : SoundBucket n r b
    pub room : length gone + length (contents n b) ≤ n
    pub same : ahead gone (settle n thr e b.bound b) ≡ settle n thr e b₀.bound b₀

  pub starts : {b : Bucket} → SoundBucket n r b → {out : List Entry} → out ≡ [] → Settling b b out
  starts {b} h q = subst⁻¹ (Settling b b) q (record { sound = h; room = let k = contents_few h in omega arith; same = refl })

  module _ {b₀ b : Bucket} {gone : List Entry} (s : Settling b₀ b gone) where
    -- the last word finds room
    pub last_room : {m : ℕ} → n < m → length gone < m
    last_room h = let r = s.room in omega arith

    ends : (x : Settlement) → settle n thr e b.bound b ≡ x → {o : List Entry} → o ≡ gone ++ x.out
        → ◌≡◌ {A = Settled} (record { bucket = x.bucket; out = o }) (settled_of (settle n thr e b₀.bound b₀))
    ends x p q =
        (λ i. record { bucket = x.bucket; out = q i }) ∙ ap (λ (y : Settlement). settled_of (ahead gone y)) (sym p) ∙ ap settled_of s.same

    -- e is added
    pub ends-added : thr e.word < b.bound → {c : Bucket} → add n e.word e.plan b ≡ Some c
        → ◌≡◌ {A = Settled} (record { bucket = c; out = gone }) (settled_of (settle n thr e b₀.bound b₀))
    ends-added l {c} d =
        ends (record { bucket = c; out = [] }) (settle-done n thr e b.bound b l d) (sym (append-nil gone))

    -- e leaves last
    pub ends-past : b.bound ≤ thr e.word → {o : List Entry} → o ≡ gone ++ e ∷ []
        → ◌≡◌ {A = Settled} (record { bucket = b; out = o }) (settled_of (settle n thr e b₀.bound b₀))
    ends-past l p = ends (record { bucket = b; out = e ∷ [] }) (settle-past n thr e b.bound b l) p

    -- the bound falls to t; the words es leave
    module _ (t : ℕ) (is : b.bound ≡ suc t) {es : List Entry} (found : es ≡ leaving n thr t b) where
      pub next_room : {m : ℕ} → n ≤ m → length gone + length es ≤ m
      next_room h = omega (arith, ap length found, s.room, lowered-length thr t s.sound)

      pub falls : thr e.word < b.bound → add n e.word e.plan b ≡ None
          → {b' : Bucket} → b' ≡ at_bound t (withdraw_all n (words es) b) → {out' : List Entry} → out' ≡ gone ++ es → Settling b₀ b' out'
      falls l d {b'} p' {out'} q' = subst₂ (Settling b₀) (sym is_lowered) (sym (q' ∙ ap (λ (fs : List Entry). gone ++ fs) found)) (record {
        sound = lowered-sound thr t s.sound (omega (arith, s.sound.low));
        room = omega (arith, s.room, length-append gone leaves, lowered-length thr t s.sound);
        same = (λ i. record { bucket = rest.bucket; out = append_assoc gone leaves rest.out i })
            ∙ ap (ahead gone) (sym (ap (λ (u : ℕ). settle n thr e u b) is ∙ settle_by n thr e t b (omega arith) d))
            ∙ s.same;
      })
        where
          leaves : List Entry
          leaves = leaving n thr t b

          rest : Settlement
          rest = settle n thr e t (lowered n thr t b)

          is_lowered : b' ≡ lowered n thr t b
          is_lowered = p' ∙ ap (λ (fs : List Entry). at_bound t (withdraw_all n (words fs) b)) found
