-- A witness lists the on rules of an answer set (blueprint, K3): the heads of the listed rules are closed under their reduct because every
-- other rule fails, and any closed set holds them, rule by rule along the list.
use mathlib.Core.Path.{◌≡◌, ap}
use mathlib.Core.Logic.{⊎_elim}
use mathlib.Core.Bool.{true, not, false≢true}
use mathlib.Core.List.{List, [], ◌∷◌}
use borrow.Author.Tests.{not-true}
use Rattle.meaning.specs.declared.RuleNo.{RuleNo}
use Rattle.meaning.specs.Sets.{◌∈◌, ◌∉◌, ◌⊆◌, every, some}
use Rattle.meaning.specs.Books.{Atoms, among, Book, rule}
use Rattle.meaning.specs.AnswerSet.{AnswerSet, generating}
use Rattle.meaning.specs.Colours.{heads}
use Rattle.meaning.specs.Paper.{grounded, fails, Witness}
use Rattle.meaning.proofs.Tests.{and_left, and_right, either, or_left, or_right, true-and-false, refuted, decided}
use Rattle.meaning.proofs.Sets.{every-mono, some-of-not-every, not-every-of-some}
use Rattle.meaning.proofs.Rules.{among-here, among_there, among-front, heads-by, heads-of}
use Rattle.meaning.proofs.Answers.{generating-of, generating-no-pos, generating-no-neg}
use Rattle.meaning.proofs.Reduct.{ClosedBy, closed→by, by→closed}

-- a rule fails in a set just if it doesn't generate there
module _ (b : Book) (x : Atoms) (r : RuleNo) where
  pub fails_of : r ∉ generating b x → fails x (rule b r) ≡ true
  unfolding fails
  fails_of n = ⊎_elim (λ z. or_right (some (λ a. not (x a)) _) z)
      (λ z. or_left _ (some-of-not-every (λ a k. ap not k) _ (refuted (λ p. true-and-false (generating-of b x r p z) n))))
      (decided (some x (rule b r).neg))

  pub fails_by : fails x (rule b r) ≡ true → r ∉ generating b x
  unfolding fails
  fails_by e = ⊎_elim (λ z. generating-no-pos b x r (not-every-of-some (λ a k. not-true _ k) _ z)) (generating-no-neg b x r) (either _ _ e)

module _ (b : Book) (w : List RuleNo) (witness : Witness b w) where
  -- the set that the witness stands for
  abbrev shown_set : Atoms
  shown_set = heads b (among w)

  module _ (y : Atoms) (closed : ClosedBy b shown_set y) where
    -- a listed rule whose positive atoms are heads of rules with heads in y has its head in y
    listed_in : (before : List RuleNo) → ((q : RuleNo) → q ∈ among before → (rule b q).head ∈ y)
        → (r : RuleNo) → r ∈ among w → every (heads b (among before)) (rule b r).pos ≡ true → (rule b r).head ∈ y
    listed_in before f r m p =
        closed r (witness.in-book r m) (witness.listed r m)
        (every-mono (λ a k. let (q, h, n, e) = heads-by b (among before) a k in rw e at (f q n)) _ p)

    rest_in : (before l : List RuleNo) → ((q : RuleNo) → q ∈ among before → (rule b q).head ∈ y) → among l ⊆ among w
        → grounded b before l ≡ true → (q : RuleNo) → q ∈ among l → (rule b q).head ∈ y
    unfolding grounded some
    rest_in before [] f u e q m = absurd (false≢true m)
    rest_in before (r ∷ l) f u e q m =
        ⊎_elim (λ (z : q ≡ r). rw z here)
        (rest_in (r ∷ before) l more (λ i k. u i (among_there r l i k)) (and_right (every (heads b (among before)) _) _ e) q)
        (among-front r l q m)
      where
        here : (rule b r).head ∈ y
        here = listed_in before f r (u r (among-here r l)) (and_left (every (heads b (among before)) _) _ e)

        more : (q : RuleNo) → q ∈ among (r ∷ before) → (rule b q).head ∈ y
        more q k = ⊎_elim (λ (z : q ≡ r). rw z here) (f q) (among-front r before q k)

    witness-least : shown_set ⊆ y
    unfolding some
    witness-least a e =
        let (r, h, m, z) = heads-by b (among w) a e in
        rw z at (rest_in [] w (λ q k. absurd (false≢true k)) (λ i k. k) witness.in_order r m)

  -- a rule of which no part fails is listed
  witness-closed : ClosedBy b shown_set shown_set
  witness-closed r h n p =
      ⊎_elim (heads-of b (among w) r h) (λ z. true-and-false (generating-of b _ r p n) (fails_by b _ r (witness.unlisted r h z)))
      (decided (among w r))

  pub witness-answer : AnswerSet b (heads b (among w))
  witness-answer = record {
    good = by→closed b _ _ witness-closed;
    least = λ y e. witness-least y (closed→by b _ y e);
  }
