-- The laws of a claim: what a pair shows holds of every answer set that stands above it, and what holds of an answer set is shown by the
-- pair that stands for it (blueprint, section 6). The first two laws, and the law that says what a right claim is, are the only ones that
-- go by the claim.
use mathlib.Core.Path.{◌≡◌, refl, sym, ◌∙◌}
use mathlib.Core.Logic.{⊎_elim, ◌↔◌}
use mathlib.Core.Bool.{true, false}
use borrow.Author.Tests.{not-true}
use Rattle.meaning.specs.declared.AtomNo.{AtomNo}
use Rattle.meaning.specs.declared.kind.Kind.{Kind}
use Rattle.meaning.specs.declared.kind.Kind.TheVariants.{Naming, Clearing}
use Rattle.meaning.specs.declared.kind.Claim.{Claim}
use Rattle.meaning.specs.declared.kind.Claim.TheVariants.{About, NoReading}
use Rattle.meaning.specs.Sets.{◌∈◌, ◌∉◌, ◌⊆◌}
use Rattle.meaning.specs.Books.{Atoms, Book}
use Rattle.meaning.specs.AnswerSet.{AnswerSet, Throughout, Certain, Clear}
use Rattle.meaning.specs.Colours.{Pair, Within, Closed, Total, Consistent, clashing, colouring_of, heads}
use Rattle.meaning.specs.Claim.{claim, meant_by, meant, shown_by, shown, ended, Holding}
use Rattle.meaning.proofs.Tests.{either, true-and-false, refuted}
use Rattle.meaning.proofs.Rules.{heads-mono, all_in-mono, within_on, within-off, within_both, clashing-mono, consistent-clashing}
use Rattle.meaning.proofs.Answers.{answer-heads, answer-lost, answer-consistent, total-answer, total-stands}

module _ (b : Book) where
  by-kind-mono : (q : Kind) {c d : Pair} → Within b c d → shown_by q b c ⊆ shown_by q b d
  unfolding shown_by
  by-kind-mono Naming w = heads-mono b (within_on b w)
  by-kind-mono Clearing w = all_in-mono b (within-off b w)

  -- what is shown stays shown as the pair grows; so it depends on the rules of the book only
  pub shown-mono : (k : Claim) {c d : Pair} → Within b c d → shown b k c ≡ true → shown b k d ≡ true
  unfolding shown
  shown-mono (About q a) w e = by-kind-mono q w a e
  shown-mono NoReading w e = e

  module _ (x : Atoms) (answer : AnswerSet b x) where
    by-kind-meant : (q : Kind) (a : AtomNo) → shown_by q b (colouring_of b x) a ≡ meant_by q (x a)
    unfolding shown_by meant_by
    by-kind-meant Naming a = answer-heads b x answer a
    by-kind-meant Clearing a = answer-lost b x answer a

    -- the pair that stands for an answer set shows just the claims that hold of it
    pub shown-meant : (k : Claim) → shown b k (colouring_of b x) ≡ meant k x
    unfolding shown meant
    shown-meant (About q a) = by-kind-meant q a
    shown-meant NoReading = refl

    pub claim-shown : (k : Claim) → x ∈ meant k → shown b k (colouring_of b x) ≡ true
    claim-shown k m = shown-meant k ∙ m

    pub claim-sound : (k : Claim) (c : Pair) → Within b c (colouring_of b x) → ended b k c ≡ true → x ∈ meant k
    unfolding ended
    claim-sound k c w e =
        ⊎_elim (λ z. true-and-false (clashing-mono b w z) (consistent-clashing b _ (answer-consistent b x)))
        (λ z. sym (shown-meant k) ∙ shown-mono k w z) (either (clashing b c) _ e)

  -- what a pair that stands for an answer set does not show fails of it
  module _ (c : Pair) (closed : Closed b c) (total : Total b c) (consistent : Consistent b c) where
    pub unshown-fails : (k : Claim) → shown b k c ≡ false → heads b c.on ∉ meant k
    unshown-fails k e = refuted (λ m. true-and-false (shown-mono k above (claim-shown _ (total-answer b c closed total consistent) k m)) e)
      where
        above : Within b (colouring_of b (heads b c.on)) c
        above = let s = total-stands b c closed total consistent in within_both b (λ r h m. (s r h).0 ∙ m) (λ r h m. (s r h).1 ∙ m)

  -- a right claim of either kind: the atom is certain, or it is clear
  pub claim-holds : (q : Kind) (a : AtomNo) → Throughout b (meant (claim q a)) ↔ Holding q b a
  unfolding meant meant_by Holding
  claim-holds Naming a = (λ t. t, λ t. t)
  claim-holds Clearing a = (λ t. t, λ t. t)

  -- nobody is both certain and clear: the answer set that there is would hold the atom and lack it
  pub not-both : (a : AtomNo) → Certain b a → Clear b a → ⊥
  not-both a c n = let (x, answer) = c.one in true-and-false (c.each x answer) (not-true _ (n.each x answer))
