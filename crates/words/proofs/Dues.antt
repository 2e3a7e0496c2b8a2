-- What is due is compared by its number: `==` of two is the test of their numbers.
use mathlib.Core.Bool.{Bool}
use mathlib.Core.Path.{◌≡◌, refl, ◌∙◌}
use denote.Enum.Bare.{sameb}
use denote.Enum.Declared.{tag_of}
use Rattle.words.specs.contracts.due.Due.{the_type}
use Rattle.words.specs.declared.due.Due.{Due}
use Rattle.words.specs.declared.due.Due.TheVariants.{Line, Remark, Listing, AfterHead, Literal, Negative, AfterAtom, Exception, AfterException}
use Rattle.words.specs.Moves.{rank, is_due}

tag-rank : (due : Due) → tag_of the_type due ≡ rank due
unfolding rank
tag-rank Line = refl
tag-rank Remark = refl
tag-rank Listing = refl
tag-rank AfterHead = refl
tag-rank Literal = refl
tag-rank Negative = refl
tag-rank AfterAtom = refl
tag-rank Exception = refl
tag-rank AfterException = refl

pub due-told : (due other : Due) (r : Bool) → r ≡ sameb the_type due other → r ≡ is_due due other
unfolding is_due
due-told due other r e = e ∙ rw (tag-rank due, tag-rank other) refl
