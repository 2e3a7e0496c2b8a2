-- One step: the function of specs/Steps and the conditions of specs/Rows agree, both ways. A step is well-formed or malformed, by cases
-- over its code and its bytes; what the function answers in each case is a chain of the laws of choice. Document 01, numbers 24 and 25.
use mathlib.Core.Path.{◌≡◌, refl, sym, ◌∙◌, subst}
use mathlib.Core.Logic.{◌⊎◌, inl, inr, ⊎_elim, by_cases}
use mathlib.Core.Bool.{Bool, true, false, not}
use mathlib.Core.List.{List, [], ◌∷◌, map, Memᴰ}
use Prim.Native.Nat.{ℕ, ◌+◌, ◌≤◌, ◌<◌}
use native.Mathlib.Decide.{ℕ_discrete}
use native.Mathlib.Omega.{arith}
use lib.Dec.{ltb}
use lib.ListN.{get_or}
use borrow.Author.Tests.{lt-ltb, ltb-true, ltb-false, not-true}
use Rattle.meaning.specs.declared.RuleNo.{RuleNo}
use Rattle.meaning.specs.Sets.{every, ascending}
use Rattle.meaning.specs.Books.{rule_no, Book, count, InBook}
use Rattle.meaning.specs.Colours.{Pair, on_side, off_side, put, may_on, blocked, uncoloured}
use Rattle.meaning.specs.declared.kind.Claim.{Claim}
use Rattle.meaning.specs.Paper.{unfounded, code_on, code_off, code_unfounded, code_split, code_end}
use Rattle.meaning.specs.Choice.{ifb, if_lt}
use Rattle.meaning.proofs.Choice.{b-yes, b-no, lt_yes, lt_no, eq_yes, eq_no, lt-either}
use Rattle.meaning.proofs.Tests.{both, not_first, not-second, refuted, decided, lt-or-le}
use Rattle.meaning.proofs.Sets.{every-at, every-all, some-by, some-of-not-every}
use Rattle.checker.specs.Steps.{Stepped, goes, parts, ends, fails, with_rule, proper_list, with_list, step_by, step_of}
use Rattle.checker.specs.Rows.{rule_at, list_at, OneRule, is-41, is-42, is-53, BadRule, rule-passes, rule-not-below}
use Rattle.checker.specs.Rows.{BadList, list-passes, list-empty, list-not-ascending, list-not-below}
use Rattle.checker.specs.Rows.{Malformed, at-witness, unknown-code, bad-rule, bad-list}
use Rattle.checker.specs.Rows.{Formed, form-41, form-42, form-55, form-53, form-45}

-- ---- codes

data Code (n : ℕ) : Type 0 where
  one : OneRule n → Code n
  unfounded-code : n ≡ code_unfounded → Code n
  end-code : n ≡ code_end → Code n
  no_code : (OneRule n → ⊥) → (n ≡ code_unfounded → ⊥) → (n ≡ code_end → ⊥) → Code n

code : (n : ℕ) → Code n
code n =
    by_cases (ℕ_discrete n code_on) (λ e. one (is-41 e))
    (λ p. by_cases (ℕ_discrete n code_off) (λ e. one (is-42 e))
    (λ q. by_cases (ℕ_discrete n code_split) (λ e. one (is-53 e))
    (λ u. by_cases (ℕ_discrete n code_unfounded) unfounded-code
    (λ v. by_cases (ℕ_discrete n code_end) end-code (λ w. no_code (none p q u) v w)))))
  where
    none : (n ≡ code_on → ⊥) → (n ≡ code_off → ⊥) → (n ≡ code_split → ⊥) → OneRule n → ⊥
    none p q u (is-41 e) = p e
    none p q u (is-42 e) = q e
    none p q u (is-53 e) = u e

-- ---- the parts of a step

all-below : (b : Book) (l : List ℕ) → every (λ n. ltb n (count b)) l ≡ true → (n : ℕ) → Memᴰ n l → n < count b
all-below b l e n m = ltb-true _ _ (every-at (λ n. ltb n (count b)) l e n m)

module _ (b : Book) (s : List ℕ) (from at : ℕ) where
  rule_told : at + 2 ≤ from → InBook b (rule_at s at) → (f : RuleNo → Stepped) → with_rule b s from at f ≡ f (rule_at s at)
  unfolding with_rule
  rule_told h k f = lt_yes _ _ _ _ (omega arith) ∙ lt_yes _ _ _ _ k

  bad-rule-told : BadRule b s from at → (f : RuleNo → Stepped) → with_rule b s from at f ≡ fails 24
  unfolding with_rule
  bad-rule-told (rule-passes h) f = lt_no _ _ _ _ (omega arith)
  bad-rule-told (rule-not-below h) f = lt-either (λ x. x ≡ fails 24) _ _ _ _ (λ k. lt_no _ _ _ _ h) (λ k. refl)

  list-told : at + 2 + get_or s (at + 1) 0 ≤ from → 0 < get_or s (at + 1) 0 → ascending (list_at s at) ≡ true
      → ((n : ℕ) → Memᴰ n (list_at s at) → n < count b) → (f : List RuleNo → Stepped)
      → with_list b s from at (get_or s (at + 1) 0) f ≡ f (map rule_no (list_at s at))
  unfolding with_list proper_list
  list-told h k e g f =
      lt_yes _ _ _ _ k ∙ lt_no _ _ _ _ h ∙ b-yes _ _ _ (both e (every-all _ (list_at s at) (λ n m. lt-ltb _ _ (g n m))))

  bad-list-told : BadList b s from at → (f : List RuleNo → Stepped) → with_list b s from at (get_or s (at + 1) 0) f ≡ fails 24
  unfolding with_list proper_list
  bad-list-told bad f =
      lt-either (λ x. x ≡ fails 24) _ _ _ _
      (λ k. lt-either (λ x. x ≡ fails 24) _ _ _ _ (λ h. refl) (λ h. b-no _ _ _ (improper bad k h))) (λ k. refl)
    where
      improper : BadList b s from at → 0 < get_or s (at + 1) 0 → at + 2 + get_or s (at + 1) 0 ≤ from → proper_list b (list_at s at) ≡ false
      improper (list-passes h) k g = absurd (omega arith)
      improper (list-empty e) k g = absurd (omega arith)
      improper (list-not-ascending e) k g = not_first _ e
      improper (list-not-below n m h) k g =
          not-second (ascending (list_at s at)) (refuted (λ e. omega (arith, all-below b (list_at s at) e n m)))

  -- ---- every step is well-formed or malformed

  module _ (k : Claim) (c : Pair) where
    abbrev Either : Type 0
    Either = Malformed b s from at ⊎ ((t : Bool) × (x : Stepped) × Formed b k s from at c t x)

    with-rule : OneRule (get_or s at 0) → Either
    with-rule o = ⊎_elim (λ h. inl (bad-rule o (rule-passes h)))
        (λ h. ⊎_elim (λ g. inr (formed o h g)) (λ g. inl (bad-rule o (rule-not-below g))) (lt-or-le (get_or s (at + 1) 0) (count b)))
        (lt-or-le from (at + 2))
      where
        formed : OneRule (get_or s at 0) → at + 2 ≤ from → InBook b (rule_at s at) → (t : Bool) × (x : Stepped) × Formed b k s from at c t x
        formed (is-41 e) h g = (_, _, form-41 e h g)
        formed (is-42 e) h g = (_, _, form-42 e h g)
        formed (is-53 e) h g = (_, _, form-53 e h g)

    with-list : get_or s at 0 ≡ code_unfounded → Either
    with-list e =
        ⊎_elim (λ h. inl (bad-list e (list-passes h)))
        (λ h. ⊎_elim (fitting h) (λ g. inl (bad-list e (list-empty (omega arith)))) (lt-or-le 0 (get_or s (at + 1) 0)))
        (lt-or-le from (at + 2 + get_or s (at + 1) 0))
      where
        not-below : every (λ n. ltb n (count b)) (list_at s at) ≡ false → Either
        not-below q =
            let (n, m, p) = some-by _ (list_at s at) (some-of-not-every {t = λ n. not (ltb n (count b))} (λ n p. rw p) (list_at s at) q) in
            inl (bad-list e (list-not-below n m (ltb-false _ _ (not-true _ p))))

        fitting : at + 2 + get_or s (at + 1) 0 ≤ from → 0 < get_or s (at + 1) 0 → Either
        fitting h g =
            ⊎_elim
            (λ p. ⊎_elim (λ q. inr (_, _, form-55 e h g p (all-below b _ q))) not-below
            (decided (every (λ n. ltb n (count b)) (list_at s at))))
            (λ p. inl (bad-list e (list-not-ascending p))) (decided (ascending (list_at s at)))

    formed-or-malformed : Either
    formed-or-malformed = ⊎_elim (λ h. by_code h (code (get_or s at 0))) (λ h. inl (at-witness h)) (lt-or-le at from)
      where
        by_code : at < from → Code (get_or s at 0) → Either
        by_code h (one o) = with-rule o
        by_code h (unfounded-code e) = with-list e
        by_code h (end-code e) = inr (_, _, form-45 e h)
        by_code h (no_code p q u) = inl (unknown-code p q u)

    -- ---- what the function answers

    rule_step : {n : ℕ} → OneRule n → RuleNo → Stepped
    rule_step (is-41 e) r = ifb (may_on b c r) (goes (at + 2) (put on_side (r ∷ []) c)) (fails 25)
    rule_step (is-42 e) r = ifb (blocked b c r) (goes (at + 2) (put off_side (r ∷ []) c)) (fails 25)
    rule_step (is-53 e) r = ifb (uncoloured c r) (parts (at + 2) r) (fails 25)

    by-rule : {n : ℕ} (o : OneRule n) → step_by b k s from at c n ≡ with_rule b s from at (rule_step o)
    unfolding step_by rule_step
    by-rule (is-41 e) = eq_yes _ _ _ _ e
    by-rule (is-42 e) = eq_no _ _ _ _ (λ p. omega arith) ∙ eq_yes _ _ _ _ e
    by-rule (is-53 e) =
        eq_no _ _ _ _ (λ p. omega arith)
        ∙ eq_no _ _ _ _ (λ p. omega arith)
        ∙ eq_no _ _ _ _ (λ p. omega arith)
        ∙ eq_yes _ _ _ _ e

    list_step : List RuleNo → Stepped
    list_step w = ifb (unfounded b c.off w) (goes (at + 2 + get_or s (at + 1) 0) (put off_side w c)) (fails 25)

    by-list : {n : ℕ} → n ≡ code_unfounded
        → step_by b k s from at c n ≡ if_lt (at + 1) from (with_list b s from at (get_or s (at + 1) 0) list_step) (fails 24)
    unfolding step_by list_step
    by-list e = eq_no _ _ _ _ (λ p. omega arith) ∙ eq_no _ _ _ _ (λ p. omega arith) ∙ eq_yes _ _ _ _ e

    pub formed-step : {t : Bool} {x : Stepped} → Formed b k s from at c t x → step_of b k s from at c ≡ ifb t x (fails 25)
    unfolding step_of step_by rule_step list_step
    formed-step (form-41 e h g) = lt_yes _ _ _ _ (omega arith) ∙ by-rule (is-41 e) ∙ rule_told h g _
    formed-step (form-42 e h g) = lt_yes _ _ _ _ (omega arith) ∙ by-rule (is-42 e) ∙ rule_told h g _
    formed-step (form-53 e h g) = lt_yes _ _ _ _ (omega arith) ∙ by-rule (is-53 e) ∙ rule_told h g _
    formed-step (form-55 e h g p q) =
        lt_yes _ _ _ _ (omega arith) ∙ by-list e ∙ lt_yes _ _ _ _ (omega arith) ∙ list-told h g p q _
    formed-step (form-45 e h) =
        lt_yes _ _ _ _ h
        ∙ eq_no _ _ _ _ (λ p. omega arith)
        ∙ eq_no _ _ _ _ (λ p. omega arith)
        ∙ eq_no _ _ _ _ (λ p. omega arith)
        ∙ eq_no _ _ _ _ (λ p. omega arith)
        ∙ eq_yes _ _ _ _ e

    pub malformed-step : Malformed b s from at → step_of b k s from at c ≡ fails 24
    unfolding step_of step_by
    malformed-step m = lt-either (λ x. x ≡ fails 24) _ _ _ _ (λ h. by-cause h m) (λ h. refl)
      where
        by-cause : at < from → Malformed b s from at → step_by b k s from at c (get_or s at 0) ≡ fails 24
        by-cause h (at-witness g) = absurd (omega arith)
        by-cause h (bad-rule o g) = by-rule o ∙ bad-rule-told g _
        by-cause h (bad-list e g) = by-list e ∙ lt-either (λ x. x ≡ fails 24) _ _ _ _ (λ u. bad-list-told g _) (λ u. refl)
        by-cause h (unknown-code p q u) =
            eq_no _ _ _ _ (λ e. p (is-41 e))
            ∙ eq_no _ _ _ _ (λ e. p (is-42 e))
            ∙ eq_no _ _ _ _ q
            ∙ eq_no _ _ _ _ (λ e. p (is-53 e))
            ∙ eq_no _ _ _ _ u

-- ---- the function and the conditions agree

-- what the table says of one step
pub data StepIs (b : Book) (k : Claim) (s : List ℕ) (from at : ℕ) (c : Pair) : Stepped → Type 0 where
  malformed : Malformed b s from at → StepIs b k s from at c (fails 24)
  unheld : {t : Bool} {x : Stepped} → Formed b k s from at c t x → t ≡ false → StepIs b k s from at c (fails 25)
  held : {t : Bool} {x : Stepped} → Formed b k s from at c t x → t ≡ true → StepIs b k s from at c x

-- the place after a step
abbrev pub next_of : Stepped → ℕ
next_of (goes next d) = next
next_of (parts next r) = next
next_of (ends next) = next
next_of (fails i) = 0

module _ (b : Book) (k : Claim) (s : List ℕ) (from at : ℕ) (c : Pair) where
  pub formed-further : {t : Bool} {x : Stepped} → Formed b k s from at c t x → (at < next_of x) × (next_of x ≤ from)
  formed-further (form-41 p h i) = (omega arith, h)
  formed-further (form-42 p h i) = (omega arith, h)
  formed-further (form-55 p h i l j) = (omega arith, h)
  formed-further (form-53 p h i) = (omega arith, h)
  formed-further (form-45 p h) = (omega arith, omega arith)

  pub fails-number : {i : ℕ} → StepIs b k s from at c (fails i) → (i ≡ 24) ⊎ (i ≡ 25)
  fails-number {i = i} (held {t = t} h _) = elim h [ ]
  fails-number (malformed m) = inl refl
  fails-number (unheld f e) = inr refl

  pub is-step : {x : Stepped} → StepIs b k s from at c x → step_of b k s from at c ≡ x
  is-step (malformed m) = malformed-step b s from at k c m
  is-step (unheld f e) = formed-step b s from at k c f ∙ b-no _ _ _ e
  is-step (held f e) = formed-step b s from at k c f ∙ b-yes _ _ _ e

  pub step_is : {x : Stepped} → step_of b k s from at c ≡ x → StepIs b k s from at c x
  step_is p = subst (StepIs b k s from at c) p (⊎_elim bad good (formed-or-malformed b s from at k c))
    where
      told : {x : Stepped} → StepIs b k s from at c x → StepIs b k s from at c (step_of b k s from at c)
      told i = subst (StepIs b k s from at c) (sym (is-step i)) i

      bad : Malformed b s from at → StepIs b k s from at c (step_of b k s from at c)
      bad m = told (malformed m)

      good : ((t : Bool) × (x : Stepped) × Formed b k s from at c t x) → StepIs b k s from at c (step_of b k s from at c)
      good (t, x, f) = ⊎_elim (λ e. told (held f e)) (λ e. told (unheld f e)) (decided t)
