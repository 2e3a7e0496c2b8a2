-- Step 1 of propagation by what is new (specs/News, Fallen): what the joined rows come to in a book.
use mathlib.Core.Path.{◌≡◌, refl, sym, ap, ap₂, ◌∙◌, fun_ext}
use mathlib.Core.Bool.{Bool, true, false, not, ◌&&◌, ◌||◌}
use mathlib.Core.List.{List}
use Prim.Native.Nat.{ℕ, ◌≤◌}
use Rattle.meaning.specs.declared.RuleNo.{RuleNo}
use Rattle.meaning.specs.Sets.{Set, some}
use Rattle.meaning.specs.Books.{Atoms, Rules, Rule, Book, rule, count}
use Rattle.meaning.specs.Colours.{heads, all_in}
use Rattle.meaning.specs.Bits.{none, plus, members, listed}
use Rattle.meaning.specs.Bits.{less as less-in}
use Rattle.meaning.specs.Written.{of}
use Rattle.meaning.specs.Engine.{less}
use Rattle.meaning.specs.Pending.{hit, called, joined, newly_lost}
use Rattle.meaning.proofs.Listed.{of-listed}
use Rattle.book.specs.RuleRows.{RuleRows}
use Rattle.closing.specs.News.{atom_set, rows_below, Fallen}
use Rattle.closing.proofs.Spreading.{outside, rows-neg, rows-pos}
use Rattle.closing.proofs.Noting.{atoms-of}

-- a set of words as a set of rules, at one rule
pub at-rule : (w : List ℕ) {s : Set ℕ} → members w ≡ s → (r : RuleNo) → of (listed w) r ≡ s r.0
at-rule w e r = ap (λ (u : Rules). u r) (of-listed w) ∙ ap (λ (u : Set ℕ). u r.0) e

-- no rule outside the book is hit
pub hit-inside : (b : Book) (nt nl : Atoms) (r : RuleNo) → count b ≤ r.0 → hit b nt nl r ≡ false
unfolding hit some
hit-inside b nt nl r h = ap (λ (p : Rule). some nt p.neg || some nl p.pos) (outside b r h)

in_order : (x y z : Bool) → ((x || y) || z) ≡ (x || (y || z))
in_order true y z = refl
in_order false y z = refl

module _ (b : Book) (t : List ℕ) (k : RuleRows b t) (off nt nl cand before₀ hit₁ hit₂ cand₁ cand₂ : List ℕ)
    (e : members before₀ ≡ none)
    (h₁ : members hit₁ ≡ plus (members before₀) (rows_below t 512 (members nt) 256))
    (c₁ : members cand₁ ≡ plus (members cand) (rows_below t 256 (members nt) 256))
    (c₂ : members cand₂ ≡ plus (members cand₁) (rows_below t 512 (members nl) 256))
    (h₂ : members hit₂ ≡ plus (members hit₁) (rows_below t 256 (members nl) 256)) where
  hits : of (listed hit₂) ≡ hit b (atom_set nt) (atom_set nl)
  unfolding hit
  hits = fun_ext (λ r. at-rule hit₂ h₂ r ∙ ap₂ ◌||◌
      (ap (λ (u : Set ℕ). u r.0) h₁ ∙ ap (λ (u : Set ℕ). u r.0 || rows_below t 512 (members nt) 256 r.0) e ∙ rows-neg b t k nt r)
      (rows-pos b t k nl r))

  calls : of (listed cand₂) ≡ joined (of (listed cand)) (called b (atom_set nt) (atom_set nl))
  unfolding called
  calls = fun_ext (λ r.
      at-rule cand₂ c₂ r ∙ ap₂ ◌||◌
      (ap (λ (u : Set ℕ). u r.0) c₁ ∙ ap₂ ◌||◌ (sym (at-rule cand refl r)) (rows-pos b t k nt r)) (rows-neg b t k nl r)
      ∙ in_order (of (listed cand) r) (some (atom_set nt) (rule b r).pos) (some (atom_set nl) (rule b r).neg))

  pub fallen : (new off' nt' nl' : List ℕ) → members new ≡ less-in (members hit₂) (members off) → members off' ≡ plus (members off) (members hit₂)
      → members nt' ≡ none → atom_set nl' ≡ (λ a. heads b (of (listed new)) a && all_in b (of (listed off')) a)
      → Fallen b (of (listed off)) (atom_set nt) (atom_set nl) (of (listed cand)) (of (listed off')) (atom_set nt') (atom_set nl') (of (listed cand₂))
  unfolding newly_lost
  fallen new off' nt' nl' n o z l =
      let gone : of (listed off') ≡ joined (of (listed off)) (hit b (atom_set nt) (atom_set nl)) =
      fun_ext (λ r. at-rule off' o r ∙ ap₂ ◌||◌ (sym (at-rule off refl r)) (sym (at-rule hit₂ refl r) ∙ ap (λ (u : Rules). u r) hits)) in
      let fresh : of (listed new) ≡ less (hit b (atom_set nt) (atom_set nl)) (of (listed off)) =
      fun_ext (λ r. at-rule new n r ∙ ap₂ (λ (x y : Bool). x && not y) (sym (at-rule hit₂ refl r) ∙ ap (λ (u : Rules). u r) hits) (sym (at-rule off refl r))) in
      record {
        off-now = gone;
        nt-now = atoms-of nt' z;
        nl-now = l ∙ fun_ext (λ a. ap₂ (λ (u v : Rules). heads b u a && all_in b v a) fresh gone);
        cand-now = calls;
      }
