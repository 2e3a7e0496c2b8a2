-- What one closing of a walk does to the answer sets above its colouring (blueprint C4, C5, W1 to W3): it keeps them; without a rule
-- left it is the only one; at a fork each is on the side of the rule that it has, and all have the same rules below that one.
use mathlib.Core.Path.{◌≡◌, sym, ◌∙◌, subst}
use mathlib.Core.Logic.{⊎_elim}
use mathlib.Core.Bool.{false≢true}
use Prim.Native.Nat.{◌<◌}
use native.Mathlib.Omega.{arith}
use borrow.Author.Tests.{not-true}
use Rattle.meaning.specs.declared.RuleNo.{RuleNo}
use Rattle.meaning.specs.Written.{Tables}
use Rattle.meaning.specs.Sets.{◌∈◌, ◌∉◌}
use Rattle.meaning.specs.Books.{Atoms, Book, InBook}
use Rattle.meaning.specs.AnswerSet.{AnswerSet, generating}
use Rattle.meaning.specs.Colours.{Pair, Side, on_side, off_side, side, Under, Within, Closing}
use Rattle.meaning.specs.Colours.{uncoloured, Total, colouring_of}
use Rattle.meaning.specs.Written.{of, nothing, chosen, pair}
use Rattle.meaning.specs.Lowest.{none, one, lowest, clashed}
use Rattle.meaning.proofs.Tests.{true-and-false, same}
use Rattle.meaning.proofs.Rules.{within_on, within-off, within_both, within-trans, clashing-no, uncoloured-no, heads-mono}
use Rattle.meaning.proofs.Written.{Sized, pair-nothing}
use Rattle.meaning.proofs.Closing.{close-is, close-sized}
use Rattle.meaning.proofs.Lowest.{lowest-one, lowest-total, clashed-clashing, clashed-none}
use Rattle.meaning.proofs.Answers.{total-answer, total-stands, answer-heads, closing-keeps-answers, clash-no-answer}
use Rattle.walk.specs.Readings.{reading_of, Agree, Before}
use Rattle.walk.specs.Search.{Generated}
use Rattle.closing.proofs.Left.{chosen-above, chosen-within, chosen-in}
use Rattle.walk.proofs.Events.{Closes, Forks, fork-in-book, fork-low}

-- x is an answer set, and the colouring that stands for it holds c
pub record Stands (b : Book) (c : Tables) (x : Atoms) : Type 0 where
  pub answer : AnswerSet b x
  pub holds : Within b (pair c) (colouring_of b x)

-- all answer sets are above the start
pub stands-nothing : (b : Book) (x : Atoms) → AnswerSet b x → Stands b nothing x
stands-nothing b x p = record {
  answer = p;
  holds = subst (λ (c : Pair). Within b c (colouring_of b x)) (sym pair-nothing)
      (within_both b (λ r h m. absurd (false≢true m)) (λ r h m. absurd (false≢true m)));
}

module _ {b : Book} {c d : Tables} where
  module _ (k : Closes b c d) where
    pub closing : Closing b (pair c) (pair d)
    closing = rw k.closed (close-is b k.few c k.sized)

    pub sized : Sized d
    sized = rw k.closed (close-sized b k.few c k.sized)

    -- ---- the answer sets above c are those above d

    pub stands_after : (x : Atoms) → Stands b c x → Stands b d x
    stands_after x s = record { answer = s.answer; holds = closing-keeps-answers b closing x s.answer s.holds }

    stands-before : (x : Atoms) → Stands b d x → Stands b c x
    stands-before x s = record { answer = s.answer; holds = within-trans b closing.good.above s.holds }

    pub stands-clash : {r : RuleNo} → clashed b (pair d) ≡ one r → (x : Atoms) → Stands b c x → ⊥
    stands-clash t x s = clash-no-answer b closing (clashed-clashing b (pair d) _ t) x s.answer s.holds

    -- ---- without a rule left, the colouring stands for the only one

    module _ (t : clashed b (pair d) ≡ none) (p : lowest b (uncoloured (pair d)) ≡ none) where
      total : Total b (pair d)
      total = lowest-total b (pair d) p

      pub stands-reading : Stands b c (reading_of b d)
      stands-reading =
          let closed = closing.good.closed in let consistent = clashing-no b (pair d) ((clashed-none b (pair d)).0 t) in
          let alike = total-stands b (pair d) closed total consistent in
          stands-before (reading_of b d) (record {
            answer = total-answer b (pair d) closed total consistent;
            holds = within_both b (λ r h m. sym (alike r h).0 ∙ m) (λ r h m. sym (alike r h).1 ∙ m);
          })

      -- its on rules are the generating ones of the set that their heads are
      pub reading-generated : Generated b d.on
      reading-generated =
          let closed = closing.good.closed in let consistent = clashing-no b (pair d) ((clashed-none b (pair d)).0 t) in
          record {
            answer = total-answer b (pair d) closed total consistent;
            rules = λ r h. sym (total-stands b (pair d) closed total consistent r h).0;
          }

      pub reading-only : (x : Atoms) → Stands b c x → Agree x (reading_of b d)
      reading-only x s a = sym (answer-heads b x s.answer a) ∙ same _ _ (heads-mono b on-if a) (heads-mono b (within_on b w) a)
        where
          w : Within b (pair d) (colouring_of b x)
          w = (stands_after x s).holds

          on-if : Under b (generating b x) (of d.on)
          on-if r h m = ⊎_elim (λ e. e) (λ e. true-and-false m (not-true _ (within-off b w r h e))) (total r h)

  -- ---- at a fork, each is on one side

  module _ {r : RuleNo} (f : Forks b c d r) where
    abbrev k : Closes b c d
    k = f.closes

    pub side-stands : (x : Side) (y : Atoms) → Stands b (chosen x r d) y → Stands b c y
    side-stands x y s = stands-before k y (record {
      answer = s.answer;
      holds = within-trans b (chosen-above b d (sized k) x r (fork-low f)) s.holds;
    })

    pub stands-side : (x : Side) (y : Atoms) → Stands b c y → r ∈ side x (colouring_of b y) → Stands b (chosen x r d) y
    stands-side x y s m = record {
      answer = s.answer;
      holds = chosen-within b d (sized k) x r (fork-low f) _ (stands_after k y s).holds m;
    }

    pub side-on : (y : Atoms) → Stands b (chosen on_side r d) y → r ∈ generating b y
    unfolding side
    side-on y s = s.holds.each on_side r (fork-in-book f) (chosen-in b d (sized k) on_side r (fork-low f))

    pub side-off : (y : Atoms) → Stands b (chosen off_side r d) y → r ∉ generating b y
    unfolding side
    side-off y s = not-true _ (s.holds.each off_side r (fork-in-book f) (chosen-in b d (sized k) off_side r (fork-low f)))

    -- all have the same rules below r
    lower-agree : (x y : Atoms) → Stands b c x → Stands b c y → (q : RuleNo) → q.0 < r.0 → generating b x q ≡ generating b y q
    lower-agree x y s t q h = ⊎_elim
        (λ m. within_on b v q l m ∙ sym (within_on b w q l m))
        (λ m. not-true _ (within-off b v q l m) ∙ sym (not-true _ (within-off b w q l m)))
        (uncoloured-no b (pair d) q ((lowest-one b _ r f.choice).2 q h))
      where
        v : Within b (pair d) (colouring_of b x)
        v = (stands_after k x s).holds

        w : Within b (pair d) (colouring_of b y)
        w = (stands_after k y t).holds

        l : InBook b q
        l = omega (arith, fork-in-book f)

    -- those that have the rule come first
    pub fork-before : (x y : Atoms) → Stands b (chosen on_side r d) x → Stands b (chosen off_side r d) y → Before b x y
    fork-before x y s t = record {
      at = r;
      in-book = fork-in-book f;
      in-first = side-on x s;
      not-in-second = side-off y t;
      lower-agree = lower-agree x y (side-stands on_side x s) (side-stands off_side y t);
    }
