-- The table of the heads of a set of rules, as a pass keeps it: of no rule, and with one rule more.
use mathlib.Core.Path.{◌≡◌, refl, sym, ◌∙◌, ap}
use mathlib.Core.Logic.{⊎_elim}
use mathlib.Core.Bool.{Bool, true, false}
use mathlib.Core.List.{List, [], ◌∷◌}
use Prim.Native.Nat.{ℕ, zero, suc, ◌<◌}
use native.Mathlib.Numerals.{add-one}
use lib.ListN.{length, set, replicate}
use Rattle.meaning.specs.declared.AtomNo.{AtomNo}
use Rattle.meaning.specs.declared.RuleNo.{RuleNo}
use Rattle.meaning.specs.Books.{Rules, rule_no, Book, count, rule, InBook}
use Rattle.meaning.specs.Colours.{heads, plus}
use Rattle.meaning.specs.Written.{of}
use Rattle.meaning.proofs.Tests.{either, or_left, or_right, same}
use Rattle.meaning.proofs.Rules.{among_one, one-among, heads-of, heads-by, heads-mono}
use Rattle.meaning.proofs.Written.{of_none, of-set}
use Rattle.book.specs.Tables.{atom_table}
use Rattle.book.proofs.AtomSets.{heads_to, said-none, said-skip, said-end, table-set}

module _ (b : Book) where
  -- no rule is in the set
  pub headed-none : (l : List Bool) → l ≡ replicate 256 false → replicate 255 false ≡ atom_table (heads b (of l))
  headed-none l e = rw e (said-none b none true ∙ skipped (count b) ∙ said-end b none true (count b) refl)
    where
      none : Rules
      none = of (replicate 256 false)

      skipped : (k : ℕ) → atom_table (heads_to b none 0) ≡ atom_table (heads_to b none k)
      skipped zero = refl
      skipped (suc k) = skipped k ∙ rw add-one at (said-skip b none true k (of_none 256 (rule_no k)))

  -- the heads of one rule more are the same but for its own head
  heads-plus : (s : Rules) (r : RuleNo) (a : AtomNo) → (a.0 ≡ (rule b r).head.0 → ⊥) → heads b s a ≡ heads b (plus s (r ∷ [])) a
  heads-plus s r a n = same _ _ (heads-mono b (λ q k m. or_left _ m) a) (λ e.
      let (q, k, m, z) = heads-by b _ a e in
      ⊎_elim (λ p. rw z at (heads-of b s q k p))
      (λ p. let y : q ≡ r = among_one p in absurd (n (sym (ap (λ (c : AtomNo). c.0) (rw y at z))))) (either (s q) _ m))

  pub headed-set : (l : List Bool) {headed : List Bool} → headed ≡ atom_table (heads b (of l)) → (r : RuleNo) → InBook b r → r.0 < length l
      → (m : List Bool) → m ≡ set l r.0 true → (a : AtomNo) → a ≡ (rule b r).head → a.0 < 255
      → set headed a.0 true ≡ atom_table (heads b (of m))
  headed-set l e r h room m p a q low = rw (p, e, of-set l r room, q) (table-set _ _ (rule b r).head true (rw q at low)
      (heads-of b _ r h (or_right (of l r) (one-among r))) (λ c n. heads-plus (of l) r c n))
