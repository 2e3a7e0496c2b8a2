-- Stamping by the next member of a set (src/levels.rt): the levels at place r of the search are those of the members below r.
use mathlib.Core.Path.{◌≡◌, refl, sym, ◌∙◌, ap, ap₂, subst}
use mathlib.Core.Bool.{Bool, true, ◌&&◌}
use mathlib.Core.List.{List, [], ◌∷◌}
use Prim.Native.Nat.{ℕ, zero, suc, ◌+◌, ◌≤◌, ◌<◌}
use native.Mathlib.Nat.{not-suc-le-zero, le_of_suc-le-suc, add-suc, suc-add, add-zero, zero-add}
use native.Mathlib.Decide.{ℕ_discrete, dec_lt}
use native.Mathlib.Omega.{arith}
use lib.Dec.{ltb}
use lib.ListN.{length, set}
use borrow.Author.Tests.{lt-ltb, le-ltb}
use Rattle.meaning.specs.Sets.{Set}
use Rattle.meaning.specs.Books.{Rules, rule_no}
use Rattle.meaning.specs.Choice.{ifb}
use Rattle.meaning.specs.Bits.{members, listed, NextIn}
use Rattle.meaning.specs.Written.{of, stamp_from}
use Rattle.meaning.proofs.Choice.{b-yes}
use Rattle.meaning.proofs.Tests.{not-second}
use Rattle.meaning.proofs.Stamps.{stamp-rests}
use Rattle.meaning.proofs.Next.{next-further}
use Rattle.meaning.proofs.Listed.{listed-members}

-- only the rules among the n are asked of
stamp-same : (i n : ℕ) (s t : Rules) (v : ℕ) (l : List ℕ) → ((j : ℕ) → i ≤ j → j < i + n → s (rule_no j) ≡ t (rule_no j))
    → stamp_from i n s v l ≡ stamp_from i n t v l
unfolding stamp_from
stamp-same i zero s t v l f = refl
stamp-same i (suc n) s t v [] f = refl
stamp-same i (suc n) s t v (x ∷ l) f =
    ap₂ (λ (y : ℕ) (m : List ℕ). y ∷ m) (ap (λ (b : Bool). ifb b v x) (f i (omega arith) (omega arith)))
    (stamp-same (suc i) n s t v l (λ j h k. f j (omega arith) (omega arith)))

-- one rule more
stamp-one : (i n r : ℕ) (s t : Rules) (v : ℕ) (l : List ℕ) → r < n → r < length l → t (rule_no (i + r)) ≡ true
    → ((j : ℕ) → (j ≡ i + r → ⊥) → j < i + n → s (rule_no j) ≡ t (rule_no j)) → set (stamp_from i n s v l) r v ≡ stamp_from i n t v l
unfolding stamp_from
stamp-one i zero r s t v l h k e f = absurd (not-suc-le-zero h)
stamp-one i (suc n) r s t v [] h k e f = absurd (not-suc-le-zero k)
stamp-one i (suc n) zero s t v (x ∷ l) h k e f =
    ap₂ (λ (y : ℕ) (m : List ℕ). y ∷ m) (sym (b-yes _ v x (rw add-zero at e)))
    (stamp-same (suc i) n s t v l (λ j g m. f j (λ q. absurd (omega arith)) (omega arith)))
stamp-one i (suc n) (suc r) s t v (x ∷ l) h k e f =
    ap₂ (λ (y : ℕ) (m : List ℕ). y ∷ m) (ap (λ (b : Bool). ifb b v x) (f i (λ q. absurd (omega arith)) (omega arith)))
    (stamp-one (suc i) n r s t v l (le_of_suc-le-suc h) (le_of_suc-le-suc k) (rw (add-suc, ← suc-add i r) at e)
    (λ j q g. f j (λ p. q (omega arith)) (omega arith)))

-- the rules of a set below r
unfoldable pub before : Rules → ℕ → Rules
before s r q = ltb q.0 r && s q

module _ (n v : ℕ) (w levels : List ℕ) where
  abbrev wanted : Rules
  wanted = of (listed w)

  said : (from r : ℕ) → NextIn (members w) from r → NextIn (λ i. wanted (rule_no i)) from r
  said from r p = subst (λ (s : Set ℕ). NextIn s from r) (sym (listed-members w)) p

  pub stamp-start : (r : ℕ) → NextIn (members w) 0 r → levels ≡ stamp_from 0 n (before wanted r) v levels
  unfolding before
  stamp-start r p = sym (stamp-rests 0 n (before wanted r) v levels (λ q. elim (dec_lt q.0 r) [
    | yes l ↦ not-second (ltb q.0 r) ((said 0 r p).passed q.0 (omega arith) l)
    | no l ↦ let z = le-ltb q.0 r (omega arith) in rw z
  ]))

  -- the rule at which the search stands is stamped, and the search goes on
  pub stamp-turn : (from r m : ℕ) {l : List ℕ} → NextIn (members w) from r → r < 256 → NextIn (members w) (r + 1) m → r < n → r < length levels
      → l ≡ stamp_from 0 n (before wanted r) v levels → set l r v ≡ stamp_from 0 n (before wanted m) v levels
  unfolding before
  stamp-turn from r m q low p h long f =
      ap (λ (l : List ℕ). set l r v) f
      ∙ stamp-one 0 n r (before wanted r) (before wanted m) v levels h long here (λ j d k. there j (λ q. d (q ∙ sym (zero-add r))))
    where
      further : r < m
      further = next-further (members w) r m p low

      here : (ltb (0 + r) m && wanted (rule_no (0 + r))) ≡ true
      here = let z = lt-ltb r m further in rw (zero-add r, z) ((said from r q).within low).1

      there : (j : ℕ) → (j ≡ r → ⊥) → (ltb j r && wanted (rule_no j)) ≡ (ltb j m && wanted (rule_no j))
      there j d = elim (dec_lt j r) [
        | yes l ↦ let x = lt-ltb j r l in let y = lt-ltb j m (omega (arith, further)) in rw (x, y)
        | no l ↦
            let x = le-ltb j r (omega arith) in
            rw x (elim (dec_lt j m) [
              | yes k ↦ sym (not-second (ltb j m) ((said (r + 1) m p).passed j (above j d l) k))
              | no k ↦ let y = le-ltb j m (omega arith) in rw y
            ])
      ]
        where
          above : (j : ℕ) → (j ≡ r → ⊥) → (j < r → ⊥) → r + 1 ≤ j
          above j d l = elim (ℕ_discrete j r) [ yes q ↦ absurd (d q) | no q ↦ omega arith ]

  pub stamp-end : (r : ℕ) {l : List ℕ} → n ≤ r → l ≡ stamp_from 0 n (before wanted r) v levels → l ≡ stamp_from 0 n wanted v levels
  unfolding before
  stamp-end r h f = f ∙ stamp-same 0 n (before wanted r) wanted v levels (λ j g k. let z = lt-ltb j r (omega arith) in rw z)
