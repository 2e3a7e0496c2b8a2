-- The colouring that keeps away from what x does not show (request 3, H1): the answer sets above it are those whose shown atoms all lie in
-- x, since a rule with such a head is generating for none of them, and every atom of an answer set has a generating rule. So all that are
-- alike x are above it.
use mathlib.Core.Path.{◌≡◌, sym, ◌∙◌, ap}
use mathlib.Core.Bool.{true, false, not, ◌&&◌}
use mathlib.Core.List.{List, Memᴰ}
use Prim.Native.Nat.{ℕ, ◌≤◌}
use native.Mathlib.Omega.{arith}
use lib.ListN.{replicate, length-replicate}
use borrow.Author.Tests.{not-true}
use Rattle.meaning.specs.declared.AtomNo.{AtomNo}
use Rattle.meaning.specs.declared.RuleNo.{RuleNo}
use Rattle.meaning.specs.Sets.{◌∈◌, ◌∉◌}
use Rattle.meaning.specs.Books.{Atoms, same_atom, Book, count, rule, InBook}
use Rattle.meaning.specs.AnswerSet.{AnswerSet, generating}
use Rattle.meaning.specs.Colours.{Within, heads, colouring_of}
use Rattle.meaning.specs.Written.{of, pair}
use Rattle.meaning.proofs.Tests.{both, and_left, and_right, true-and-false, refuted, proved}
use Rattle.meaning.proofs.Sets.{some_one, some-by}
use Rattle.meaning.proofs.Rules.{same-atom, atom-same, heads-of, heads-by, within-off, within_both}
use Rattle.meaning.proofs.Written.{Sized, of_none, of-added, length-added}
use Rattle.meaning.proofs.Answers.{answer-heads}
use Rattle.walk.specs.Shown.{alike}
use Rattle.walk.specs.FirstAlike.{avoided, avoiding}
use Rattle.walk.proofs.Forks.{Stands}
use Rattle.walk.proofs.Alike.{alike_at}

module _ (b : Book) (s : List AtomNo) (x : Atoms) where
  pub avoided-of : (r : RuleNo) (a : AtomNo) → Memᴰ a s → (rule b r).head ≡ a → a ∉ x → r ∈ avoided b s x
  unfolding avoided
  avoided-of r a m q n = some_one _ s a m (both (atom-same q) (ap not n))

  pub avoided-by : (r : RuleNo) → r ∈ avoided b s x → (a : AtomNo) × Memᴰ a s × ((rule b r).head ≡ a) × (a ∉ x)
  unfolding avoided
  avoided-by r e =
      let (a, m, k) = some-by (λ c. same_atom (rule b r).head c && not (x c)) s e in
      (a, m, same-atom (and_left (same_atom (rule b r).head a) _ k), not-true _ (and_right (same_atom (rule b r).head a) _ k))

  pub sized-avoiding : Sized (avoiding b s x)
  unfolding avoiding
  sized-avoiding =
      let e = length-replicate 256 false in
      record { on = e; off = length-added b _ _ ∙ e; marks = e; levels = length-replicate {A = ℕ} 255 0 }

  module _ (fits : count b ≤ 255) where
    pub avoiding-off : (r : RuleNo) → InBook b r → of (avoiding b s x).off r ≡ avoided b s x r
    unfolding avoiding
    avoiding-off r h = of-added b (avoided b s x) (replicate 256 false) (omega (arith, length-replicate 256 false)) r h ∙ rw (of_none 256 r)

    -- ---- the answer sets above it (H1)

    module _ (y : Atoms) (p : AnswerSet b y) where
      pub shown-within : ((a : AtomNo) → Memᴰ a s → a ∈ y → a ∈ x) → Within b (pair (avoiding b s x)) (colouring_of b y)
      unfolding avoiding
      shown-within f = within_both b (λ r h m. true-and-false m (on_none r)) (λ r h m. ap not (refuted (not-generating r h m)))
        where
          on_none : (r : RuleNo) → of (avoiding b s x).on r ≡ false
          on_none r = of_none 256 r

          not-generating : (r : RuleNo) → InBook b r → r ∈ of (avoiding b s x).off → r ∈ generating b y → ⊥
          not-generating r h m g =
              let (a, k, q, n) = avoided-by r (sym (avoiding-off r h) ∙ m) in
              let e : a ∈ heads b (generating b y) = rw q at (heads-of b (generating b y) r h g) in
              true-and-false (f a k (sym (answer-heads b y p a) ∙ e)) n

      pub within-shown : Within b (pair (avoiding b s x)) (colouring_of b y) → (a : AtomNo) → Memᴰ a s → a ∈ y → a ∈ x
      within-shown w a m e = proved (λ n.
          let (r, h, g, q) = heads-by b (generating b y) a (answer-heads b y p a ∙ e) in
          true-and-false g (not-true _ (within-off b w r h (avoiding-off r h ∙ avoided-of r a m q n))))

      pub alike-stands : alike s x y ≡ true → Stands b (avoiding b s x) y
      alike-stands e = record { answer = p; holds = shown-within (λ a m k. alike_at s x y e a m ∙ k) }
