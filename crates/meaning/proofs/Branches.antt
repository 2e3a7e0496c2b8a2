-- A branch of a paper is sound (blueprint, K1 and K2): every step keeps the pair within a closed pair that it is within, so within the
-- pair that stands for an answer set; and there the end of a branch shows the claim. By induction over the steps.
use mathlib.Core.Path.{◌≡◌}
use mathlib.Core.Logic.{⊎_elim}
use mathlib.Core.Bool.{true}
use mathlib.Core.List.{List, [], ◌∷◌}
use Prim.Native.Nat.{ℕ}
use Rattle.meaning.specs.declared.RuleNo.{RuleNo}
use Rattle.meaning.specs.Sets.{◌∈◌}
use Rattle.meaning.specs.Books.{Atoms, Book, InBook}
use Rattle.meaning.specs.AnswerSet.{AnswerSet}
use Rattle.meaning.specs.Colours.{Pair, Side, on_side, off_side, side, put, may_on, blocked, Closed, Within, colouring_of}
use Rattle.meaning.specs.declared.kind.Claim.{Claim}
use Rattle.meaning.specs.Claim.{meant}
use Rattle.meaning.specs.Paper.{unfounded, Branch, step-41, step-42, step-55, step-53, step-45}
use Rattle.meaning.proofs.Rules.{within-off, one-under, put-within}
use Rattle.meaning.proofs.Answers.{answer-closed, answer-total, unfounded-off}
use Rattle.meaning.proofs.Additions.{may-go-on, is-blocked, legal-forced}
use Rattle.meaning.proofs.Claims.{claim-sound}

module _ (b : Book) {c d : Pair} (within : Within b c d) where
  -- a rule is put on the side that it has in d
  pub put-one-within : (x : Side) (r : RuleNo) → r ∈ side x d → Within b (put x (r ∷ []) c) d
  put-one-within x r m = put-within b x (r ∷ []) within (one-under b (side x d) r m)

  module _ (closed : Closed b d) where
    pub step-on-keeps : (r : RuleNo) → InBook b r → r ∈ may_on b c → Within b (put on_side (r ∷ []) c) d
    step-on-keeps r h m = put-one-within on_side r (legal-forced b h (may-go-on m) d within closed)

    pub step-off-keeps : (r : RuleNo) → InBook b r → r ∈ blocked b c → Within b (put off_side (r ∷ []) c) d
    step-off-keeps r h m = put-one-within off_side r (legal-forced b h (is-blocked m) d within closed)

    pub step-unfounded-keeps : (l : List RuleNo) → unfounded b c.off l ≡ true → Within b (put off_side l c) d
    unfolding side
    step-unfounded-keeps l e = put-within b off_side l within (unfounded-off b closed c.off (within-off b within) l e)

module _ (b : Book) (k : Claim) (x : Atoms) (answer : AnswerSet b x) where
  pub branch-sound : {c : Pair} {l : List ℕ} → Branch b k c l → Within b c (colouring_of b x) → x ∈ meant k
  unfolding side
  branch-sound (step-41 r h m p) w = branch-sound p (step-on-keeps b w (answer-closed b x answer) r h m)
  branch-sound (step-42 r h m p) w = branch-sound p (step-off-keeps b w (answer-closed b x answer) r h m)
  branch-sound (step-55 l n a h e p) w = branch-sound p (step-unfounded-keeps b w (answer-closed b x answer) l e)
  branch-sound (step-53 r h m p q) w =
      ⊎_elim (λ z. branch-sound p (put-one-within b w on_side r z)) (λ z. branch-sound q (put-one-within b w off_side r z))
      (answer-total b x r h)
  branch-sound (step-45 {c = c} e) w = claim-sound b x answer k c w e
