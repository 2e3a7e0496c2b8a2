-- Sets that match on the shown atoms: what the test says of the atoms, and back; that it is an equivalence; and that an answer set is told
-- by its generating rules, so that "the same reading" is a test too.
use mathlib.Core.Path.{◌≡◌, refl, sym, ◌∙◌, fun_ext}
use mathlib.Core.Bool.{true}
use mathlib.Core.List.{List, Memᴰ}
use Prim.Native.Nat.{◌<◌}
use Rattle.meaning.specs.declared.AtomNo.{AtomNo}
use Rattle.meaning.specs.declared.RuleNo.{RuleNo}
use Rattle.meaning.specs.Books.{Atoms, Book, InBook}
use Rattle.meaning.specs.AnswerSet.{AnswerSet, generating}
use Rattle.meaning.proofs.Tests.{same}
use Rattle.meaning.proofs.Sets.{every-at, every-all}
use Rattle.meaning.proofs.Rules.{every-rule-at, every-rule-all, heads-mono}
use Rattle.meaning.proofs.Answers.{answer-heads}
use Rattle.meaning.proofs.LeastModel.{Inside}
use Rattle.meaning.proofs.Choice.{agree-yes, agree_same}
use Rattle.walk.specs.Shown.{alike}
use Rattle.walk.specs.FirstAlike.{same_reading}

module _ (s : List AtomNo) where
  pub alike_at : (x y : Atoms) → alike s x y ≡ true → (a : AtomNo) → Memᴰ a s → x a ≡ y a
  unfolding alike
  alike_at x y e a m = agree_same _ _ (every-at _ s e a m)

  pub alike_all : (x y : Atoms) → ((a : AtomNo) → Memᴰ a s → x a ≡ y a) → alike s x y ≡ true
  unfolding alike
  alike_all x y f = every-all _ s (λ a m. agree-yes (f a m))

  pub alike_refl : (x : Atoms) → alike s x x ≡ true
  alike_refl x = alike_all x x (λ a m. refl)

  pub alike-sym : (x y : Atoms) → alike s x y ≡ true → alike s y x ≡ true
  alike-sym x y e = alike_all y x (λ a m. sym (alike_at x y e a m))

  pub alike-trans : (x y z : Atoms) → alike s x y ≡ true → alike s y z ≡ true → alike s x z ≡ true
  alike-trans x y z e f = alike_all x z (λ a m. alike_at x y e a m ∙ alike_at y z f a m)

-- ---- the same reading

module _ (b : Book) where
  pub same-reading-refl : (x : Atoms) → same_reading b x x ≡ true
  unfolding same_reading
  same-reading-refl x = every-rule-all b _ (λ r h. agree-yes {p = generating b x r} refl)

  pub same-reading : (x y : Atoms) → AnswerSet b x → AnswerSet b y → same_reading b x y ≡ true → x ≡ y
  unfolding same_reading
  same-reading x y p q e = fun_ext (λ a.
      sym (answer-heads b x p a)
      ∙ same _ _ (heads-mono b (λ r h m. sym (f r h) ∙ m) a) (heads-mono b (λ r h m. f r h ∙ m) a)
      ∙ answer-heads b y q a)
    where
      f : (r : RuleNo) → InBook b r → generating b x r ≡ generating b y r
      f r h = agree_same _ _ (every-rule-at b _ e r h)

  -- sets of atoms of the book that match on all of them
  pub alike-inside : (s : List AtomNo) → ((a : AtomNo) → a.0 < b.atoms → Memᴰ a s) → (x y : Atoms) → Inside b x → Inside b y
      → alike s x y ≡ true → x ≡ y
  alike-inside s f x y i j e = fun_ext (λ a. same (x a) (y a)
      (λ m. sym (alike_at s x y e a (f a (i a m))) ∙ m) (λ m. alike_at s x y e a (f a (j a m)) ∙ m))
