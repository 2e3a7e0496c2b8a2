-- The measure of propagation: a step that makes an atom new has added a rule, so fewer additions remain.
use mathlib.Core.Path.{ap}
use mathlib.Core.Bool.{not}
use Prim.Native.Nat.{ℕ, ◌+◌, ◌≤◌, ◌<◌}
use native.Mathlib.Omega.{arith}
use lib.ListN.{length}
use borrow.Author.Tests.{not-true}
use Rattle.meaning.specs.declared.AtomNo.{AtomNo}
use Rattle.meaning.specs.Sets.{◌∈◌, ◌∉◌}
use Rattle.meaning.specs.Books.{Rules, Book}
use Rattle.meaning.specs.Colours.{Pair, heads, Under, Within}
use Rattle.meaning.specs.Lowest.{rules_in}
use Rattle.meaning.specs.Engine.{less}
use Rattle.meaning.specs.Pending.{joined, dropped, newly_lost}
use Rattle.meaning.proofs.Tests.{and_left, and_right, or_left, or_right, true-and-false, absent, refuted}
use Rattle.meaning.proofs.Rules.{heads-of, heads-by, within_on, within-off}
use Rattle.meaning.proofs.RulesIn.{rules-more, rules-fewer}

abbrev others : Rules → Rules
others s r = not (s r)

-- how many rules of the book are not on, and how many are not off, together
unfoldable pub remaining : Book → Pair → ℕ
remaining b c = length (rules_in b (others c.on)) + length (rules_in b (others c.off))

module _ (b : Book) where
  fewer-out : {s t : Rules} → Under b s t → Under b (others t) (others s)
  fewer-out f r h m = ap not (absent (f r h) (not-true _ m))

  pub remaining-more : {c d : Pair} → Within b c d → remaining b d ≤ remaining b c
  unfolding remaining
  remaining-more w = omega (arith, rules-more b _ _ (fewer-out (within_on b w)), rules-more b _ _ (fewer-out (within-off b w)))

  pub remaining-on : {c d : Pair} → Within b c d → (a : AtomNo) → a ∈ heads b d.on → a ∉ heads b c.on → remaining b d < remaining b c
  unfolding remaining
  remaining-on {c} {d} w a e n =
      let (r, h, m, q) = heads-by b d.on a e in
      let o : r ∉ c.on = refuted (λ k. true-and-false (rw q at (heads-of b c.on r h k)) n) in omega (
        arith,
        rules-fewer b _ _ (fewer-out (within_on b w)) r h (ap not o) (ap not m),
        rules-more b _ _ (fewer-out (within-off b w)),
      )

  pub remaining-drop : (s : Rules) (c : Pair) (a : AtomNo) → a ∈ newly_lost b s c.off → remaining b (dropped s c) < remaining b c
  unfolding remaining newly_lost
  remaining-drop s c a e =
      let (r, h, m, q) = heads-by b (less s c.off) a (and_left _ _ e) in
      let up = fewer-out {s = c.off} {t = joined c.off s} (λ q g z. or_left _ z) in
      omega (arith, rules-fewer b _ _ up r h (and_right (s r) _ m) (ap not (or_right (c.off r) (and_left (s r) _ m))))
