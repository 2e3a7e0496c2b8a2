-- One step of a paper as it is checked, one law for each way through the code: what the code finds is what it promises. Each is the
-- definition of a step with its tests decided. Document 01, "The paper" and numbers 24 and 25.
use mathlib.Core.Path.{◌≡◌, sym, ◌∙◌}
use mathlib.Core.Bool.{Bool, true, false}
use mathlib.Core.List.{List, map}
use Prim.Native.Nat.{ℕ, ◌+◌, ◌-◌, ◌≤◌, ◌<◌}
use native.Mathlib.Omega.{arith}
use lib.ListN.{get_or, take, drop}
use Rattle.meaning.specs.declared.RuleNo.{RuleNo}
use Rattle.meaning.specs.Choice.{if_lt, ifb}
use Rattle.meaning.specs.Books.{rule_no, Book, count}
use Rattle.meaning.specs.Colours.{Pair, off_side, put, may_on, blocked, uncoloured}
use Rattle.meaning.specs.declared.kind.Claim.{Claim}
use Rattle.meaning.specs.Claim.{ended}
use Rattle.meaning.specs.Paper.{unfounded, code_on, code_off, code_unfounded, code_split, code_end}
use Rattle.meaning.proofs.Choice.{b-yes, b-no, lt_yes, lt_no, eq_yes, eq_no, eq-either}
use Rattle.checker.specs.declared.step.Step.{Step}
use Rattle.checker.specs.declared.step.Step.TheVariants.{On, Off, Unfounded, Stops}
use Rattle.checker.specs.declared.step.Stop.TheVariants.{End, Split, Form, Fails}
use Rattle.checker.specs.Steps.{Stepped, goes, ends, fails, with_rule, proper_list, with_list, step_by, step_of}
use Rattle.checker.specs.Parts.{stepped, RuleWithin, StepWithin, Finds}
use Rattle.checker.proofs.Lists.{part-is, proper-in-book}

-- the rule of a step 41, 42 or 53 or of an unknown code, read: it is in the book, and the step ends before the witness
pub record Ruled (b : Book) (s : List ℕ) (from at : ℕ) : Type 0 where
  pub here : at < from
  pub not-list : get_or s at 0 ≡ code_unfounded → ⊥
  pub not_end : get_or s at 0 ≡ code_end → ⊥
  pub room : at + 1 < from
  pub known : get_or s (at + 1) 0 < count b

-- a step that asks t of its rule, and is x if that holds
pub record Asks (b : Book) (k : Claim) (s : List ℕ) (from at : ℕ) (c : Pair) (t : RuleNo → Bool) (x : RuleNo → Step) : Type 0 where
  pub by : step_of b k s from at c ≡ with_rule b s from at (λ r. ifb (t r) (stepped s at c (x r)) (fails 25))
  pub inside : {r : RuleNo} → RuleWithin b from at r → StepWithin b s from at (x r)

-- the list of a step 55, read: its m bytes l end before the witness
pub record Listed (s : List ℕ) (from at m : ℕ) (l : List ℕ) : Type 0 where
  pub here : at < from
  pub code : get_or s at 0 ≡ code_unfounded
  pub counted : m ≡ get_or s (at + 1) 0
  pub some : 0 < m
  pub room : at + 2 + m ≤ from
  pub bytes : l ≡ take (at + 2 + m - (at + 2)) (drop (at + 2) s)

module _ (b : Book) (k : Claim) (s : List ℕ) (from at : ℕ) (c : Pair) where
  bad-form : step_of b k s from at c ≡ fails 24 → Finds b k s from at c (Stops Form)
  bad-form e = record { found = sym e; within = tt }

  not-held : step_of b k s from at c ≡ fails 25 → Finds b k s from at c (Stops Fails)
  not-held e = record { found = sym e; within = tt }

  pub step-late : from ≤ at → Finds b k s from at c (Stops Form)
  unfolding step_of
  step-late h = bad-form (lt_no _ _ _ _ h)

  step-here : at < from → step_of b k s from at c ≡ step_by b k s from at c (get_or s at 0)
  unfolding step_of
  step-here h = lt_yes _ _ _ _ h

  -- ---- 45

  module _ (h : at < from) (e : get_or s at 0 ≡ code_end) where
    end_step : step_of b k s from at c ≡ ifb (ended b k c) (ends (at + 1)) (fails 25)
    unfolding step_by
    end_step =
        step-here h
        ∙ eq_no _ _ _ _ (λ q. omega arith)
        ∙ eq_no _ _ _ _ (λ q. omega arith)
        ∙ eq_no _ _ _ _ (λ q. omega arith)
        ∙ eq_no _ _ _ _ (λ q. omega arith)
        ∙ eq_yes _ _ _ _ e

    pub end-holds : ended b k c ≡ true → Finds b k s from at c (Stops End)
    end-holds t = record { found = sym (end_step ∙ b-yes _ _ _ t); within = omega arith }

    pub end-fails : ended b k c ≡ false → Finds b k s from at c (Stops Fails)
    end-fails t = not-held (end_step ∙ b-no _ _ _ t)

  -- ---- 41, 42, 53 and unknown codes

  module _ (h : at < from) (list : get_or s at 0 ≡ code_unfounded → ⊥) (last : get_or s at 0 ≡ code_end → ⊥) where
    -- no rule can be read: whatever the code is, the form is bad
    rule-bad : ((f : RuleNo → Stepped) → with_rule b s from at f ≡ fails 24) → step_of b k s from at c ≡ fails 24
    unfolding step_by
    rule-bad bad =
        step-here h
        ∙ eq-either P _ _ _ _ (λ q. bad _) (λ q. eq-either P _ _ _ _ (λ q. bad _)
        (λ q. eq_no _ _ _ _ list ∙ eq-either P _ _ _ _ (λ q. bad _) (λ q. eq_no _ _ _ _ last)))
      where
        P : Stepped → Type 0
        P x = x ≡ fails 24

    pub rule-late : from ≤ at + 1 → Finds b k s from at c (Stops Form)
    unfolding with_rule
    rule-late g = bad-form (rule-bad (λ f. lt_no _ _ _ _ g))

    pub rule-out : at + 1 < from → count b ≤ get_or s (at + 1) 0 → Finds b k s from at c (Stops Form)
    unfolding with_rule
    rule-out g l = bad-form (rule-bad (λ f. lt_yes _ _ _ _ g ∙ lt_no _ _ _ _ l))

  module _ (p : Ruled b s from at) where
    pub on-asks : get_or s at 0 ≡ code_on → Asks b k s from at c (may_on b c) On
    unfolding step_by
    on-asks e = record { by = step-here p.here ∙ eq_yes _ _ _ _ e; inside = λ w. w }

    pub off-asks : get_or s at 0 ≡ code_off → Asks b k s from at c (blocked b c) Off
    unfolding step_by
    off-asks e = record {
      by = step-here p.here ∙ eq_no _ _ _ _ (λ q. omega arith) ∙ eq_yes _ _ _ _ e;
      inside = λ w. w;
    }

    pub split-asks : get_or s at 0 ≡ code_split → Asks b k s from at c (uncoloured c) (λ r. Stops (Split r))
    unfolding step_by
    split-asks e = record {
      by = step-here p.here
          ∙ eq_no _ _ _ _ (λ q. omega arith)
          ∙ eq_no _ _ _ _ (λ q. omega arith)
          ∙ eq_no _ _ _ _ p.not-list
          ∙ eq_yes _ _ _ _ e;
      inside = λ w. w;
    }

    pub code-unknown : (get_or s at 0 ≡ code_on → ⊥) → (get_or s at 0 ≡ code_off → ⊥) → (get_or s at 0 ≡ code_split → ⊥)
        → Finds b k s from at c (Stops Form)
    unfolding step_by
    code-unknown on off split =
        bad-form (step-here p.here ∙ eq_no _ _ _ _ on ∙ eq_no _ _ _ _ off ∙ eq_no _ _ _ _ p.not-list ∙ eq_no _ _ _ _ split
        ∙ eq_no _ _ _ _ p.not_end)

    rule-read : (f : RuleNo → Stepped) → with_rule b s from at f ≡ f (rule_no (get_or s (at + 1) 0))
    unfolding with_rule
    rule-read f = lt_yes _ _ _ _ p.room ∙ lt_yes _ _ _ _ p.known

    -- v is what the code found of the rule
    module _ {t : RuleNo → Bool} {x : RuleNo → Step} (a : Asks b k s from at c t x) (v : Bool) (q : v ≡ t (rule_no (get_or s (at + 1) 0)))
      where
        pub rule-holds : v ≡ true → Finds b k s from at c (x (rule_no (get_or s (at + 1) 0)))
        rule-holds e = record {
          found = sym (a.by ∙ rule-read _ ∙ b-yes _ _ _ (sym q ∙ e));
          within = a.inside (p.known, omega (arith, p.room));
        }

        pub rule-fails : v ≡ false → Finds b k s from at c (Stops Fails)
        rule-fails e = not-held (a.by ∙ rule-read _ ∙ b-no _ _ _ (sym q ∙ e))

  -- ---- 55

  module _ (h : at < from) (e : get_or s at 0 ≡ code_unfounded) where
    list-step : step_of b k s from at c
        ≡ if_lt (at + 1) from
        (with_list b s from at (get_or s (at + 1) 0)
        (λ w. ifb (unfounded b c.off w) (goes (at + 2 + get_or s (at + 1) 0) (put off_side w c)) (fails 25)))
        (fails 24)
    unfolding step_by
    list-step = step-here h ∙ eq_no _ _ _ _ (λ q. omega arith) ∙ eq_no _ _ _ _ (λ q. omega arith) ∙ eq_yes _ _ _ _ e

    pub list-late : from ≤ at + 1 → Finds b k s from at c (Stops Form)
    list-late g = bad-form (list-step ∙ lt_no _ _ _ _ g)

    -- m is the list's length, as the code has it
    module _ (g : at + 1 < from) (m : ℕ) (q : m ≡ get_or s (at + 1) 0) where
      list_read : step_of b k s from at c
          ≡ with_list b s from at m (λ w. ifb (unfounded b c.off w) (goes (at + 2 + m) (put off_side w c)) (fails 25))
      list_read = list-step ∙ lt_yes _ _ _ _ g ∙ rw q

      pub list-empty : m ≡ 0 → Finds b k s from at c (Stops Form)
      unfolding with_list
      list-empty z = bad-form (list_read ∙ lt_no _ _ _ _ (omega arith))

      pub list-long : 0 < m → from < at + 2 + m → Finds b k s from at c (Stops Form)
      unfolding with_list
      list-long z l = bad-form (list_read ∙ lt_yes _ _ _ _ z ∙ lt_yes _ _ _ _ l)

  module _ (m : ℕ) (l : List ℕ) (p : Listed s from at m l) where
    list-is : l ≡ take m (drop (at + 2) s)
    list-is = p.bytes ∙ part-is s (at + 2) m

    list_open : step_of b k s from at c
        ≡ ifb (proper_list b l) (ifb (unfounded b c.off (map rule_no l)) (goes (at + 2 + m) (put off_side (map rule_no l) c)) (fails 25))
        (fails 24)
    unfolding with_list
    list_open =
        list_read p.here p.code (omega (arith, p.room, p.some)) m p.counted ∙ lt_yes _ _ _ _ p.some
        ∙ lt_no _ _ _ _ p.room ∙ rw list-is

    pub list-bad : proper_list b l ≡ false → Finds b k s from at c (Stops Form)
    list-bad e = bad-form (list_open ∙ b-no _ _ _ e)

    -- v is what the code found of the list
    module _ (e : proper_list b l ≡ true) (v : Bool) (q : v ≡ unfounded b c.off (map rule_no l)) where
      pub list-holds : v ≡ true → Finds b k s from at c (Unfounded m)
      list-holds t = record {
        found = rw (← list-is) (sym (list_open ∙ b-yes _ _ _ e ∙ b-yes _ _ _ (sym q ∙ t)));
        within = (p.room, rw (← list-is) (proper-in-book b l e));
      }

      pub list-fails : v ≡ false → Finds b k s from at c (Stops Fails)
      list-fails t = not-held (list_open ∙ b-yes _ _ _ e ∙ b-no _ _ _ (sym q ∙ t))
