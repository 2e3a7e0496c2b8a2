-- What one word adds to the rules made: the rule of an entry, and the rules of the rule that was open where it is whole.
use mathlib.Core.Path.{◌≡◌, refl, ap, ◌∙◌}
use mathlib.Core.Bool.{Bool, true, false}
use mathlib.Core.List.{List, [], ◌++◌, append-nil}
use Prim.Native.Nat.{ℕ, ◌<◌, ◌≤◌}
use native.Mathlib.Omega.{arith}
use lib.ListN.{length}
use Rattle.meaning.specs.Books.{Rule}
use Rattle.meaning.proofs.Choice.{b-yes, b-no}
use Rattle.book.specs.declared.making.Making.{Making}
use Rattle.book.specs.Making.{Adds}
use Rattle.book.proofs.Made.{adds-nil, adds_then}
use Rattle.imported.specs.declared.TextAtom.{TextAtom}
use Rattle.lparse.specs.declared.due.Due.{Due}
use Rattle.lparse.specs.declared.due.Standing.{Standing}
use Rattle.lparse.specs.declared.due.Said.{Said}
use Rattle.lparse.specs.declared.due.Said.TheVariants.{Nothing as Silent, Choice as Chooses, Atom}
use Rattle.lparse.specs.declared.rule.Opened.{Opened}
use Rattle.lparse.specs.declared.form.Forming.{Forming}
use Rattle.lparse.specs.Opened.{capped, opening, opened_by, Ready}
use Rattle.lparse.specs.Forming.{place_of, entry_by, entry_rules, closes, helper_behind, formed_said, said_rules, shut, shut_rules, closed_by, rule_closed, Forms, Placed}

module _ (atoms : List ℕ) {said : Said} where
  pub placed-atom : (a : TextAtom) (standing : Standing) → said ≡ Atom a standing → Placed atoms said
      → (place_of atoms a < length atoms) × (length atoms ≤ 255)
  unfolding Placed
  placed-atom a standing e p = rw e at p

  module _ (f : Forming) where
    pub forms-silent : (d : List ℕ) → said ≡ Silent
        → Forms atoms (λ c l. said_rules c atoms said) f.helper (formed_said f atoms said) f.making d f d
    unfolding said_rules formed_said
    forms-silent d e = rw e (record { adds = λ c l i r. adds-nil f.making d; rule = refl; helper = refl; entry = refl })

    pub forms-choice : (d : List ℕ) {o : Opened} → said ≡ Chooses → o ≡ opening true
        → Forms atoms (λ c l. said_rules c atoms said) f.helper (formed_said f atoms said) f.making d
        (record { making = f.making; rule = o; helper = f.helper; entry = f.entry }) d
    unfolding said_rules formed_said
    forms-choice d e g = rw e (record { adds = λ c l i r. adds-nil f.making d; rule = g; helper = refl; entry = refl })

    pub forms-atom : (a : TextAtom) (standing : Standing) → said ≡ Atom a standing → Placed atoms said
        → {n : ℕ} {o : Opened} {b : Bool} {m : Making} {before after : List ℕ} → n ≡ place_of atoms a → o ≡ opened_by f.rule n standing
        → b ≡ entry_by f.entry standing
        → ((k : ℕ) → f.helper ≡ capped k → n < k → Adds (entry_rules standing k n) f.making before m after)
        → Forms atoms (λ c l. said_rules c atoms said) f.helper (formed_said f atoms said) f.making before
        (record { making = m; rule = o; helper = f.helper; entry = b }) after
    unfolding said_rules formed_said
    forms-atom a standing e p {n} i j g adds =
        let (inside, few) = placed-atom a standing e p in
        rw e (record {
          adds = λ c l h r. rw (← i) (adds c r.helper (omega arith));
          rule = j ∙ ap (λ x. opened_by f.rule x standing) i;
          helper = refl;
          entry = g;
        })

-- no word that says something moves the next helper
pub said-helper : (f : Forming) (atoms : List ℕ) (said : Said) → (formed_said f atoms said).helper ≡ f.helper
unfolding formed_said
said-helper f atoms Silent = refl
said-helper f atoms Chooses = refl
said-helper f atoms (Atom a standing) = refl

-- the open rule is whole
module _ (f : Forming) {m : Making} {before after : List ℕ} where
  pub forms-shut : {h : ℕ} → h ≡ helper_behind f.helper f.rule.free f.rule.count
      → ((k : ℕ) (l : List ℕ) → Ready k l f.helper f.rule → Adds (shut_rules k l f.rule) f.making before m after)
      → Forms [] (λ k l. shut_rules k l f.rule) f.helper (shut f) f.making before
      (record { making = m; rule = f.rule; helper = h; entry = f.entry }) after
  forms-shut e adds = record { adds = λ c l i r. adds c l r; rule = refl; helper = e; entry = refl }

module _ (next : Due) {atoms : List ℕ} {rules : ℕ → List ℕ → List Rule} {h : ℕ} {g f : Forming} {m : Making} {before mid : List ℕ}
    (w : Forms atoms rules h g m before f mid) where
  abbrev more : ℕ → List ℕ → List Rule
  more c l = rules c l ++ rule_closed next c l g.rule

  pub forms-open : closes next ≡ false → Forms atoms more h (closed_by next g) m before f mid
  unfolding closed_by rule_closed
  forms-open e =
      let s : closed_by next g ≡ g = b-no _ (shut g) g e in
      rw s (record {
        adds = λ c l i r. rw (b-no _ (shut_rules c l g.rule) [] e, append-nil (rules c l)) (w.adds c l i r);
        rule = w.rule;
        helper = w.helper;
        entry = w.entry;
      })

  pub forms-closed : closes next ≡ true → g.helper ≡ h → {r : Forming} {after : List ℕ}
      → Forms [] (λ k l. shut_rules k l f.rule) f.helper (shut f) f.making mid r after
      → Forms atoms more h (closed_by next g) m before r after
  unfolding closed_by rule_closed
  forms-closed e same v =
      let s : closed_by next g ≡ shut g = b-yes _ (shut g) g e in
      rw s (record {
        adds = λ c l i r. rw (b-yes _ (shut_rules c l g.rule) [] e)
            (adds_then (w.adds c l i r) (rw w.rule at (v.adds c l (omega arith) (rw (w.rule, w.helper, same) r))));
        rule = v.rule ∙ w.rule;
        helper = v.helper ∙ rw (w.helper, w.rule);
        entry = v.entry ∙ w.entry;
      })
