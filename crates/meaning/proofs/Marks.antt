-- What two bytes are as a paper's mark: 50 46 names, 50 43 clears, 50 4e says that there is no reading, and no other two bytes are a mark
-- (document 02, request 2: "21 now means neither mark").
use mathlib.Core.Path.{◌≡◌, refl, ◌∙◌}
use native.Mathlib.Omega.{arith}
use mathlib.Core.List.{[], ◌∷◌}
use Prim.Native.Nat.{ℕ}
use lib.ListN.{get_or}
use Rattle.meaning.specs.declared.AtomNo.{AtomNo}
use Rattle.meaning.specs.declared.kind.Kind.{Kind}
use Rattle.meaning.specs.declared.kind.Kind.TheVariants.{Naming, Clearing}
use Rattle.meaning.specs.declared.kind.Claim.{Claim}
use Rattle.meaning.specs.declared.kind.Claim.TheVariants.{About, NoReading}
use Rattle.meaning.specs.declared.kind.Marked.TheVariants.{Of, Neither}
use Rattle.meaning.specs.declared.kind.Marked.TheVariants.{NoReading as OfNoReading}
use Rattle.meaning.specs.Claim.{claim, claimed, mark_of, mark, marked_by}
use Rattle.meaning.proofs.Choice.{eq_yes, eq_no}

module _ (x y : ℕ) where
  pub mark-first : (x ≡ 0x50 → ⊥) → marked_by x y ≡ Neither
  unfolding marked_by
  mark-first n = eq_no _ _ _ _ n

  module _ (p : x ≡ 0x50) where
    pub mark-naming : y ≡ 0x46 → marked_by x y ≡ Of Naming
    unfolding marked_by
    mark-naming e = eq_yes _ _ _ _ p ∙ eq_yes _ _ _ _ e

    pub mark-clearing : y ≡ 0x43 → marked_by x y ≡ Of Clearing
    unfolding marked_by
    mark-clearing e = eq_yes _ _ _ _ p ∙ eq_no _ _ _ _ (λ n. omega (arith, e, n)) ∙ eq_yes _ _ _ _ e

    pub mark-no-reading : y ≡ 0x4e → marked_by x y ≡ OfNoReading
    unfolding marked_by
    mark-no-reading e =
        eq_yes _ _ _ _ p ∙ eq_no _ _ _ _ (λ n. omega (arith, e, n)) ∙ eq_no _ _ _ _ (λ n. omega (arith, e, n)) ∙ eq_yes _ _ _ _ e

    pub mark-second : (y ≡ 0x46 → ⊥) → (y ≡ 0x43 → ⊥) → (y ≡ 0x4e → ⊥) → marked_by x y ≡ Neither
    unfolding marked_by
    mark-second n m l = eq_yes _ _ _ _ p ∙ eq_no _ _ _ _ n ∙ eq_no _ _ _ _ m ∙ eq_no _ _ _ _ l

-- the two bytes, read one by one
pub mark-bytes : (k : Claim) → get_or (mark k) 0 0 ∷ (get_or (mark k) 1 0 ∷ []) ≡ mark k
unfolding mark mark_of
mark-bytes (About Naming a) = refl
mark-bytes (About Clearing a) = refl
mark-bytes NoReading = refl

pub mark-of-naming : mark_of Naming ≡ 0x50 ∷ 0x46 ∷ []
unfolding mark_of
mark-of-naming = refl

pub mark-of-clearing : mark_of Clearing ≡ 0x50 ∷ 0x43 ∷ []
unfolding mark_of
mark-of-clearing = refl

pub mark-of-claim : (q : Kind) (a : AtomNo) → mark (claim q a) ≡ mark_of q
unfolding mark
mark-of-claim q a = refl

pub mark-of-no-reading : mark NoReading ≡ 0x50 ∷ 0x4e ∷ []
unfolding mark
mark-of-no-reading = refl

-- the trailer's first byte
pub claimed-claim : (q : Kind) (a : AtomNo) → claimed (claim q a) ≡ a.0
unfolding claimed
claimed-claim q a = refl

pub claimed-no-reading : claimed NoReading ≡ 0
unfolding claimed
claimed-no-reading = refl
