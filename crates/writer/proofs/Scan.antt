-- Laws of the writer's way along the branches (specs/Scan; blueprint, N7): it goes through two lists one after the other, stays where it
-- has ended, and counts no more tries than the limit.
use mathlib.Core.Path.{◌≡◌, refl}
use mathlib.Core.Logic.{⊎_elim}
use mathlib.Core.List.{List, [], ◌∷◌, ◌++◌}
use Prim.Native.Nat.{ℕ, ◌+◌, ◌≤◌}
use native.Mathlib.Nat.{eq-or-lt_of_le}
use native.Mathlib.Omega.{arith}
use Rattle.meaning.proofs.Choice.{eq_yes, eq_no, eq-either}
use Rattle.writer.specs.Branches.{Branch}
use Rattle.writer.specs.Scan.{Course, writing, limited, refuted, Progress, course_at, met, scan}

pub limited-not-writing : limited ≡ writing → ⊥
limited-not-writing e = let z : ◌≡◌ {A = ℕ} 0 1 = cc in absurd (omega arith)

pub refuted-not-writing : refuted ≡ writing → ⊥
refuted-not-writing e = let z : ◌≡◌ {A = ℕ} 0 1 = cc in absurd (omega arith)

module _ (limit : ℕ) where
  -- a branch taken down: one try more, its bytes behind the others, and the course that its tip sets
  abbrev pub taken : Progress → Branch → Progress
  taken p t = record { tries = p.tries + 1; bytes = p.bytes ++ t.bytes; course = course_at t.tip }

  -- a way that is stopped by the limit
  abbrev pub stopped : Progress → Progress
  stopped p = record { tries = p.tries; bytes = p.bytes; course = limited }

  met-either : (P : Progress → Type 0) (p : Progress) (t : Branch) → (p.tries ≡ limit → P (stopped p))
      → ((p.tries ≡ limit → ⊥) → P (taken p t)) → P (met limit writing p t)
  unfolding met
  met-either P p t f g = eq-either P _ _ _ _ f g

  -- what each branch keeps, the way keeps
  module _ (P : Progress → Type 0) (takes : (p : Progress) (t : Branch) → p.course ≡ writing → P p → P (met limit writing p t)) where
    met-keeps : (h : Course) (p : Progress) (t : Branch) → p.course ≡ h → P p → P (met limit h p t)
    unfolding met
    met-keeps writing p t e m = takes p t e m
    met-keeps limited p t e m = m
    met-keeps refuted p t e m = m

    pub scan-keeps : (p : Progress) (l : List Branch) → P p → P (scan limit p l)
    unfolding scan
    scan-keeps p [] m = m
    scan-keeps p (t ∷ l) m = scan-keeps (met limit p.course p t) l (met-keeps _ p t refl m)

  pub scan-nil : (p : Progress) → scan limit p [] ≡ p
  unfolding scan
  scan-nil p = refl

  pub scan-append : (p : Progress) (l m : List Branch) → scan limit p (l ++ m) ≡ scan limit (scan limit p l) m
  unfolding scan
  scan-append p [] m = refl
  scan-append p (t ∷ l) m = scan-append (met limit p.course p t) l m

  pub scan-over : (p : Progress) (l : List Branch) → (p.course ≡ writing → ⊥) → scan limit p l ≡ p
  scan-over p l n = scan-keeps (λ q. q ≡ p) (λ q t e m. absurd (n (rw m at e))) p l refl

  -- ---- one branch

  module _ (p : Progress) (going : p.course ≡ writing) (t : Branch) (l : List Branch) where
    pub scan-taken : (p.tries ≡ limit → ⊥) → scan limit p (t ∷ l) ≡ scan limit (taken p t) l
    unfolding scan met
    scan-taken n = rw (going, eq_no _ _ _ (taken p t) n)

    pub scan-stops : p.tries ≡ limit → scan limit p (t ∷ l) ≡ stopped p
    unfolding scan met
    scan-stops e = rw (going, eq_yes _ _ _ (taken p t) e) (scan-over _ l limited-not-writing)

  -- ---- the limit

  pub scan-tries : (p : Progress) (l : List Branch) → p.tries ≤ limit → (scan limit p l).tries ≤ limit
  scan-tries p l h = scan-keeps (λ q. q.tries ≤ limit) step p l h
    where
      step : (q : Progress) (t : Branch) → q.course ≡ writing → q.tries ≤ limit → (met limit writing q t).tries ≤ limit
      step q t e h = met-either (λ u. u.tries ≤ limit) q t (λ z. h) (λ n. ⊎_elim (λ z. absurd (n z)) (λ z. omega arith) (eq-or-lt_of_le h))
