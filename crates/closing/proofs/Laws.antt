-- What a closing says of answer sets, for the layers above (document 003, Corollary 4; blueprint C4 and C5, for written-out colourings).
-- That a closing keeps its 255 places, the places from R on and its marks is in meaning (close-sized, close-untouched, close-marks);
-- that it does not raise the number of uncoloured rules, and that a choice lowers it, is in Left.
use mathlib.Core.Path.{◌≡◌}
use Prim.Native.Nat.{◌≤◌}
use Rattle.meaning.specs.declared.AtomNo.{AtomNo}
use Rattle.meaning.specs.declared.RuleNo.{RuleNo}
use Rattle.meaning.specs.Written.{Tables}
use Rattle.meaning.specs.Books.{Atoms, Book, count, InBook}
use Rattle.meaning.specs.AnswerSet.{AnswerSet}
use Rattle.meaning.specs.Colours.{heads, Closed, Within, Consistent, uncoloured, colouring_of}
use Rattle.meaning.specs.Written.{of, pair}
use Rattle.meaning.specs.Computed.{close}
use Rattle.meaning.specs.Lowest.{none, one, lowest, clashed}
use Rattle.meaning.proofs.Rules.{clashing-no}
use Rattle.meaning.proofs.Lowest.{lowest-total, clashed-none, clashed-clashing}
use Rattle.meaning.proofs.Written.{Sized}
use Rattle.meaning.proofs.Answers.{total-answer, total-stands, closing-keeps-answers, clash-no-answer}
use Rattle.meaning.proofs.LeastModel.{least_model, total-least}
use Rattle.meaning.proofs.Closing.{close-is}

module _ (b : Book) (few : count b ≤ 255) (c : Tables) (sized : Sized c) where
  pub close-closed : Closed b (pair (close b c))
  close-closed = (close-is b few c sized).good.closed

  -- without contradiction and with a colour for every rule it stands for an answer set: the on rules are the generating ones
  module _ (clear : clashed b (pair (close b c)) ≡ none) (full : lowest b (uncoloured (pair (close b c))) ≡ none) where
    consistent : Consistent b (pair (close b c))
    consistent = clashing-no b _ ((clashed-none b _).0 clear)

    pub reading-answer : AnswerSet b (heads b (of (close b c).on))
    reading-answer = total-answer b (pair (close b c)) close-closed (lowest-total b _ full) consistent

    -- the least model of its own reduct, so that whoever finds it need not ask
    pub reading-least : (a : AtomNo) → least_model b (heads b (of (close b c).on)) a ≡ heads b (of (close b c).on) a
    reading-least = total-least b (pair (close b c)) close-closed (lowest-total b _ full) consistent few

    pub reading-stands : (r : RuleNo) → InBook b r
        → (of (close b c).on r ≡ (colouring_of b (heads b (of (close b c).on))).on r)
        × (of (close b c).off r ≡ (colouring_of b (heads b (of (close b c).on))).off r)
    reading-stands = total-stands b (pair (close b c)) close-closed (lowest-total b _ full) consistent

  -- no answer set above c is lost
  pub close-keeps-answers : (x : Atoms) → AnswerSet b x → Within b (pair c) (colouring_of b x)
      → Within b (pair (close b c)) (colouring_of b x)
  close-keeps-answers = closing-keeps-answers b (close-is b few c sized)

  -- so with a contradiction there is none
  pub clash-none-above : (r : RuleNo) → clashed b (pair (close b c)) ≡ one r → (x : Atoms) → AnswerSet b x
      → Within b (pair c) (colouring_of b x) → ⊥
  clash-none-above r e = clash-no-answer b (close-is b few c sized) (clashed-clashing b _ r e)
