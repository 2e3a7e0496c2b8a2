-- The mark of a paper and the claim that it tells: 50 46, 50 43 or 50 4e, and nothing else. Document 02, request 2: "21 now means neither
-- mark."
use mathlib.Core.Path.{◌≡◌, refl, ◌∙◌, ap}
use mathlib.Core.Logic.{inl, inr, ⊎_elim}
use mathlib.Core.List.{List, [], ◌∷◌}
use Prim.Native.Nat.{ℕ, ◌-◌}
use native.Mathlib.Omega.{arith}
use lib.ListN.{length, get_or}
use Rattle.meaning.specs.declared.AtomNo.{AtomNo}
use Rattle.meaning.specs.declared.kind.Kind.{Kind}
use Rattle.meaning.specs.declared.kind.Kind.TheVariants.{Naming, Clearing}
use Rattle.meaning.specs.declared.kind.Claim.{Claim}
use Rattle.meaning.specs.declared.kind.Claim.TheVariants.{About, NoReading}
use Rattle.meaning.specs.declared.kind.Marked.{Marked}
use Rattle.meaning.specs.declared.kind.Marked.TheVariants.{Of, Neither}
use Rattle.meaning.specs.declared.kind.Marked.TheVariants.{NoReading as OfNoReading}
use Rattle.meaning.specs.Books.{atom_no}
use Rattle.meaning.specs.Claim.{claim, claimed, mark_of, mark, marked_by}
use Rattle.meaning.proofs.Choice.{eq_yes, eq_no, eq-either}
use Rattle.meaning.proofs.Tests.{apart}
use Rattle.checker.specs.Rows.{atom_of, kind_of, claim_of, MarkGood}

-- what the mark of a claim is found to be
unfoldable pub marked_as : Claim → Marked
marked_as (About q a) = Of q
marked_as NoReading = OfNoReading

module _ (s : List ℕ) where
  -- the last two bytes as a mark
  abbrev pub mark_in : Marked
  mark_in = marked_by (get_or s (length s - 2) 0) (get_or s (length s - 1) 0)

  claim-naming : get_or s (length s - 1) 0 ≡ 0x46 → claim_of s ≡ claim Naming (atom_of s)
  claim-naming e =
      eq_no _ _ _ _ (λ n. omega (arith, e, n)) ∙ ap (λ (q : Kind). claim q (atom_of s)) (eq_no _ _ _ _ (λ n. omega (arith, e, n)))

  claim-clearing : get_or s (length s - 1) 0 ≡ 0x43 → claim_of s ≡ claim Clearing (atom_of s)
  claim-clearing e = eq_no _ _ _ _ (λ n. omega (arith, e, n)) ∙ ap (λ (q : Kind). claim q (atom_of s)) (eq_yes _ _ _ _ e)

  claim-none : get_or s (length s - 1) 0 ≡ 0x4e → claim_of s ≡ NoReading
  claim-none e = eq_yes _ _ _ _ e

  -- what holds of both claims that a paper can make holds of the one that it makes
  pub claim-either : (P : Claim → Type 0) → P (claim (kind_of s) (atom_of s)) → P NoReading → P (claim_of s)
  claim-either P about none = eq-either P _ _ _ _ (λ _. none) (λ _. about)

  -- a claim about an atom is of the kind that the mark says, and about the atom that the trailer says
  pub claim-about : {q : Kind} {a : AtomNo} → claim_of s ≡ claim q a → (a ≡ atom_of s) × (q ≡ kind_of s)
  claim-about {q} {a} =
      claim-either (λ k. k ≡ claim q a → (a ≡ atom_of s) × (q ≡ kind_of s)) (λ e. (cc, cc)) (λ e. apart (cc))

  -- what holds of a good mark's claim and, where there is none, of neither holds of what the two bytes are
  pub mark-either : (P : Marked → Type 0) → (MarkGood s → P (marked_as (claim_of s))) → (¬ MarkGood s → P Neither) → P mark_in
  unfolding marked_by marked_as
  mark-either P good none =
      eq-either P _ _ _ _
      (λ e. eq-either P _ _ _ _ (λ f. rw (claim-naming f) at (good (record { first = e; second = inl f })))
      (λ n. eq-either P _ _ _ _ (λ f. rw (claim-clearing f) at (good (record { first = e; second = inr (inl f) })))
      (λ m. eq-either P _ _ _ _ (λ f. rw (claim-none f) at (good (record { first = e; second = inr (inr f) })))
      (λ l. none (λ g. ⊎_elim n (λ h. ⊎_elim m l h) g.second)))))
      (λ n. none (λ g. n g.first))

  pub mark-tells : MarkGood s → mark_in ≡ marked_as (claim_of s)
  mark-tells g = mark-either (λ m. m ≡ marked_as (claim_of s)) (λ _. refl) (λ n. absurd (n g))

  pub no-mark : ¬ MarkGood s → mark_in ≡ Neither
  no-mark n = mark-either (λ m. m ≡ Neither) (λ g. absurd (n g)) (λ _. refl)

  -- the two bytes of a good mark are those of its claim, and back
  pub mark-is : MarkGood s → get_or s (length s - 2) 0 ∷ (get_or s (length s - 1) 0 ∷ []) ≡ mark (claim_of s)
  unfolding mark mark_of
  mark-is m =
      ⊎_elim (λ e. rw (claim-naming e, e, m.first))
      (λ h. ⊎_elim (λ e. rw (claim-clearing e, e, m.first)) (λ e. rw (claim-none e, e, m.first)) h) m.second

  pub mark-read : (k : Claim) → get_or s (length s - 2) 0 ≡ get_or (mark k) 0 0 → get_or s (length s - 1) 0 ≡ get_or (mark k) 1 0
      → get_or s (length s - 6) 0 ≡ claimed k → MarkGood s × (claim_of s ≡ k)
  unfolding mark mark_of claimed
  mark-read (About Naming a) e f p =
      (record { first = e; second = inl f }, claim-naming f ∙ ap (λ (n : ℕ). claim Naming (atom_no n)) p)
  mark-read (About Clearing a) e f p =
      (record { first = e; second = inr (inl f) }, claim-clearing f ∙ ap (λ (n : ℕ). claim Clearing (atom_no n)) p)
  mark-read NoReading e f p = (record { first = e; second = inr (inr f) }, claim-none f)
