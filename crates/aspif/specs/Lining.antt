-- What the functions that read whole lines hand one another.
--
--   Lined s x at m d r e     x is what is read at `at`: a rule, which was added to the book that is made, or none
--   RulesSeen s at r d       all rule lines from `at` on, and the book that is made of them
--   OutputsSeen s at r       all output lines from `at` on
--   TextSeen s r d           the whole text: the book that is made of it, or that it is none
use Rattle.std.specs.Prelude.{◌≡◌, List, [], ◌∷◌, ℕ, suc, ◌-◌, ◌<◌, ◌≤◌, length, drop}
use Rattle.meaning.specs.Books.{Rule, Book}
use Rattle.book.specs.declared.making.Making.{Making}
use Rattle.book.specs.Making.{Made, Adds}
use Rattle.std.specs.Prelude.{Option, Some, None}
use Rattle.aspif.specs.declared.rules.Rules.{Rules}
use Rattle.aspif.specs.declared.outputs.Outputs.{Outputs}
use Rattle.aspif.specs.Reading.{Got, got, outside, rules_in, outputs_in, top_rule, top_rules, book_from}

pub data Lined (s : List ℕ) (x : Got Rule) (at : ℕ) (m : Making) (before : List ℕ) : Option (Making × ℕ × ℕ) → List ℕ → Type 0 where
  lined : {r : Rule} {n : Making} {top next : ℕ} {after : List ℕ} → x ≡ got r (drop next s) → Adds (r ∷ []) m before n after
      → top ≡ top_rule r → at < next → next ≤ length s → Lined s x at m before (Some (n, top, next)) after
  other : x ≡ outside → Lined s x at m before None before

pub record RulesSeen (s : List ℕ) (at : ℕ) (r : Rules) (draft : List ℕ) : Type 0 where
  pub rules : List Rule
  pub read : rules_in (suc (length s - at)) (length s) [] (drop at s) ≡ got rules (drop r.next s)
  pub inside : r.next ≤ length s
  pub top : r.top ≡ top_rules rules
  pub made : Made rules r.making draft

pub record OutputsSeen (s : List ℕ) (at : ℕ) (r : Outputs) : Type 0 where
  pub read : outputs_in (suc (length s - at)) 0 (drop at s) ≡ got r.count (drop r.next s)
  pub inside : r.next ≤ length s

pub data TextSeen (s : List ℕ) : Option (Making × ℕ) → List ℕ → Type 0 where
  whole : {b : Book} {m : Making} {draft : List ℕ} → book_from s ≡ got b [] → Made b.rules m draft → TextSeen s (Some (m, b.atoms)) draft
  none : {draft : List ℕ} → book_from s ≡ outside → TextSeen s None draft
