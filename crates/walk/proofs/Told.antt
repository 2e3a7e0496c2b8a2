-- What is told of an answer tells all of it: two answers of find, or of page, told alike are equal. Each answer is found again from what is
-- told of it.
use mathlib.Core.Path.{◌≡◌, refl, ap}
use Prim.Native.Nat.{ℕ}
use Rattle.std.specs.Prelude.{Result, Ok, Err}
use Rattle.meaning.specs.Books.{rule_no}
use Rattle.meaning.specs.Choice.{ifb, if_eq}
use Rattle.meaning.specs.Told.{Told}
use Rattle.meaning.proofs.Told.{values_again, again, one_again}
use Rattle.book.proofs.Told.{refusal_at, refusal-again}
use Rattle.walk.specs.declared.kth.Unfound.{Unfound}
use Rattle.walk.specs.declared.kth.Unfound.TheVariants.{Fewer, Stopped, Book, NoRoom, NoNumber, NoList}
use Rattle.walk.specs.declared.page_answer.Page.{Page}
use Rattle.walk.specs.declared.page_answer.Page.TheVariants.{Whole, Last, Cut}
use Rattle.walk.specs.declared.page_answer.NoPage.{NoPage}
use Rattle.walk.specs.declared.page_answer.NoPage.TheVariants.{Book as BadBook, NoRoom as TooSmall}
use Rattle.walk.specs.Find.{told}
use Rattle.walk.specs.Page.{PageEnd, whole, last, cut}
use Rattle.walk.specs.Page.{told as page_told}

abbrev found_at : Told ℕ → Result ℕ Unfound
found_at = again Ok (values_again (Err NoNumber) (λ limit. Err (Stopped limit)) (λ tries sets rule. Err (Fewer tries sets (rule_no rule))))
    (λ number at. Err (Book (refusal_at number at)))
    (λ number. if_eq number 8 (Err NoRoom) (if_eq number 15 (Err NoNumber) (Err NoList)))

found-again : (f : Result ℕ Unfound) → found_at (told f) ≡ f
unfolding if_eq ifb
found-again (Ok tries) = refl
found-again (Err (Fewer tries sets rule)) = refl
found-again (Err (Stopped limit)) = refl
found-again (Err (Book f)) = ap (λ f. Err (Book f)) (refusal-again f)
found-again (Err NoRoom) = refl
found-again (Err NoNumber) = refl
found-again (Err NoList) = refl

pub found-one : (f g : Result ℕ Unfound) → told f ≡ told g → f ≡ g
found-one = one_again told found_at found-again

abbrev page_ended_by : PageEnd → Page
page_ended_by (whole tries) = Whole tries
page_ended_by (last tries rows) = Last tries rows
page_ended_by (cut rows) = Cut rows

abbrev page_at : Told PageEnd → Result Page NoPage
page_at = again (λ e. Ok (page_ended_by e)) (λ values. Err TooSmall) (λ number at. Err (BadBook (refusal_at number at))) (λ number. Err TooSmall)

page-again : (p : Result Page NoPage) → page_at (page_told p) ≡ p
page-again (Ok (Whole tries)) = refl
page-again (Ok (Last tries rows)) = refl
page-again (Ok (Cut rows)) = refl
page-again (Err (BadBook f)) = ap (λ f. Err (BadBook f)) (refusal-again f)
page-again (Err TooSmall) = refl

pub page-one : (p q : Result Page NoPage) → page_told p ≡ page_told q → p ≡ q
page-one = one_again page_told page_at page-again
